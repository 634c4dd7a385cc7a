use Rattle.std.proofs.Common.{◌∙◌, sym, ap}
use Rattle.place_names.specs.declared.act.Act.TheVariants.{Move}
use Rattle.place_names.specs.declared.fact.Fact.{Fact}
use Rattle.place_names.specs.Facts.{is_added}
use Rattle.state_trees.proofs.Parts.{any_moved, none_lent}
use Rattle.state_trees.proofs.effect.is_moved_part.Goals as goal

pub returns-in-Moved : goal.returns-in-Moved
returns-in-Moved c =
    let name = c.args.name.now in
    let parts = c.args.parts.now in
    c.is_part.ensures
    ∙ any_moved name c.in-Moved.moved parts
    ∙ ap (λ (f : Fact). is_added (Move name parts) f) (sym c.in-Moved.is)

pub returns-in-Lent : goal.returns-in-Lent
returns-in-Lent c =
    let name = c.args.name.now in
    let parts = c.args.parts.now in
    none_lent name c.in-Lent.kind c.in-Lent.holder c.in-Lent.name parts
    ∙ ap (λ (f : Fact). is_added (Move name parts) f) (sym c.in-Lent.is)
