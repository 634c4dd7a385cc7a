use Rattle.std.proofs.Common.{◌∙◌, ap, sym}
use Rattle.type_settled.specs.Rings.{is_linked}
use Rattle.type_settled.proofs.upward.find.Goals as goal
use Rattle.type_settled.proofs.Inside.{part_at, roots_step}

pub returns : goal.returns
returns c =
    let made = c.args.made.now.items in
    let linked = ap (λ ms. is_linked c.args.roots.now ms c.args.part) (sym c.deref-else-root.ensures.value)
    ∙ sym c.is_linked.ensures ∙ c.if-not-is_linked.false in
    roots_step c.args.table.now c.args.roots.now made _ c.args.part c.args.t c.requires.right
    (sym c.root.ensures ∙ c.if-root.false ∙ c.root-else-is_marked.ensures) linked
    (part_at c.args.table.now c.args.part c.args.t c.index-table-t.result c.requires.within c.index-table-t.is
    (sym c.is_part.ensures ∙ c.if-not-is_part.false))
    c.mark.ensures
