use Rattle.std.proofs.Common.{ap, ◌∙◌}
use Rattle.type_settled.specs.Measures.{marked}
use Rattle.type_settled.proofs.Unsound.{itself_found}
use Rattle.type_settled.proofs.nesting.is_reached.Goals as goal

pub returns : goal.returns
returns c =
    let found = rw c.in-Some.is at c.in_ok-made.ensures in
    c.is_marked.ensures ∙ ap (λ ms. marked ms c.args.t) c.deref-2.ensures.value
    ∙ itself_found c.args.table.now c.deref.result.now c.in-Some.made.items c.args.t c.requires (c.deref.ensures.value ∙ c.in_ok-marks.ensures)
    found
