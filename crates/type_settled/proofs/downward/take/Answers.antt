use Rattle.std.proofs.Common.{◌∙◌, sym}
use Rattle.type_settled.proofs.downward.take.Goals as goal
use Rattle.type_settled.proofs.Inside.{looks_step}

pub returns : goal.returns
returns c =
    looks_step c.args.table.now c.args.roots.now c.args.made.now.items _ c.args.t c.args.whole c.requires.looks
    (sym c.root.ensures ∙ c.if-root.false ∙ c.root-else-is_marked.ensures) c.requires.part c.mark.ensures
