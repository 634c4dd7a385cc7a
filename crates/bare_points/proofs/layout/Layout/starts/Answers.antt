use Rattle.std.proofs.Common.{ap, ◌∙◌, ◌++◌, arith}
use Rattle.typed_tree.specs.Nodes.{typed_at, typed_code_at, typed_code_of}
use Rattle.numbered_points.specs.Extents.{size}
use Rattle.bare_points.proofs.Steps.{more_below, starts_room, starts_step}
use Rattle.bare_points.proofs.layout.Layout.starts.Goals as goal

pub alternatives-preserved : goal.alternatives-preserved
alternatives-preserved c =
    let rows = c.args.self.now.sizes.rows.now in
    let ways = c.args.ways.now in
    let lt = more_below _ _ _ _ _ c.in-More.is c.code.ensures.below in
    let is = c.code.ensures.code ∙ ap (typed_code_of (typed_at rows) (typed_code_at rows)) c.in-More.is in
    let size_is = c.size-size.ensures ∙ ap (λ a. size a ways) c.alternative.ensures in (
      omega (arith, lt, c.alternatives.invariant.0),
      starts_room _ _ _ _ ways _ _ is size_is c.alternatives.invariant.1,
      starts_step _ _ _ _ ways _ _ _ _ _ _ is size_is
          (c.in_ok-extend_from_slice.ensures.items ∙ ap (λ xs. c.alternatives.found.items ++ xs) c.next_of.ensures) c.alternatives.invariant.2,
    )
