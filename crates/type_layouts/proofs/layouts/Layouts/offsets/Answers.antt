use Rattle.std.proofs.Common.{◌≡◌, Some, slice_get, sym, ap, ◌∙◌}
use Rattle.std.proofs.lemmas.Option.{slice_get-get_or}
use Rattle.type_layouts.proofs.Rows.{laid_here}
use Rattle.type_layouts.proofs.layouts.Layouts.offsets.Goals as goal

pub returns-then-row-clause-offsets : goal.returns-then-row-clause-offsets
returns-then-row-clause-offsets c =
    let there : slice_get c.deref.result.now c.args.t ≡ Some c.in-Some.row.now =
    slice_get-get_or c.deref.result.now c.args.t c.in-Some.row.now c.in-Some.ensures.lookup.3.0 ∙ ap Some (sym c.in-Some.ensures.lookup.1) in
    c.as_slice.ensures.value ∙ ((laid_here _ c.args.self.now c.args.t _ _ c.in-Some.row.now c.self.view_is c.deref.ensures.value c.self.invariant there).1 c.if-row.true).1

pub returns-then-row-clause-pointers : goal.returns-then-row-clause-pointers
returns-then-row-clause-pointers c =
    let there : slice_get c.deref.result.now c.args.t ≡ Some c.in-Some.row.now =
    slice_get-get_or c.deref.result.now c.args.t c.in-Some.row.now c.in-Some.ensures.lookup.3.0 ∙ ap Some (sym c.in-Some.ensures.lookup.1) in
    λ some. ((laid_here _ c.args.self.now c.args.t _ _ c.in-Some.row.now c.self.view_is c.deref.ensures.value c.self.invariant there).1 c.if-row.true).2
