use Rattle.std.proofs.Common.{◌++◌, ℕ, List, map, ap, ◌∙◌}
use Rattle.std.proofs.Math.Logic.{∥∥₁_map}
use Rattle.numbered_points.specs.Programs.{waiting_object}
use Rattle.flow_paths.specs.Laid.{flow_program}
use Rattle.lay_out.proofs.Whole.{is_layout, laid_program}
use Rattle.lay_out.proofs.lay.lay_out.Goals as goal

pub invariant_of-result : goal.invariant_of-result
invariant_of-result c = record {
  right = ∥∥₁_map c.args.typed.typed (λ t.
      is_layout c.args.typed c.into_parts-names.result.1 c.into_parts-names.result.2 c.in_ok-objects.objects c.in_ok-subs.field-0
      c.into_parts-names.ensures.table c.into_parts-names.ensures.program c.in_ok-subs.ensures.laid
      (c.in_ok-objects.ensures ∙ ap (λ (ts : List ℕ). c.into_parts-names.result.2.objects ++ map waiting_object ts) c.deref.ensures.value)
      c.in_ok-subs.ensures.judges t.0 t.1 t.2);
}

pub returns-clause-laid : goal.returns-clause-laid
returns-clause-laid c p holds =
    laid_program c.args.typed c.into_parts-names.result.1 c.into_parts-names.result.2 c.in_ok-objects.objects c.in_ok-subs.field-0
    c.into_parts-names.ensures.table c.into_parts-names.ensures.program c.in_ok-subs.ensures.laid
    (c.in_ok-objects.ensures ∙ ap (λ (ts : List ℕ). c.into_parts-names.result.2.objects ++ map waiting_object ts) c.deref.ensures.value)
    ∙ ap (flow_program c.args.typed.table) holds.1
