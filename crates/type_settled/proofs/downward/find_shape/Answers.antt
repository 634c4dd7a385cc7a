use Rattle.std.proofs.Common.{◌∙◌, subst, sym}
use Rattle.type_settled.specs.Rings.{AreParts}
use Rattle.type_settled.proofs.downward.find_shape.Goals as goal
use Rattle.type_settled.proofs.Inside.{fields_parts}

pub find_components-requires-clause-parts : goal.find_components-requires-clause-parts
find_components-requires-clause-parts c =
    subst (λ cs. AreParts c.args.table.now cs c.args.whole) (sym c.as_slice.ensures)
    (fields_parts c.args.table.now c.args.whole _ (sym c.in-Fields.is ∙ c.requires.shape))
