use Rattle.std.proofs.Common.{◌≡◌, ◌<◌, length}
use Rattle.typed_tree.specs.Nodes.{typed_code_at}
use Rattle.numbered_points.specs.Extents.{both}
use Rattle.bare_points.specs.Spans.{branches_span, ends_of}
use Rattle.bare_points.proofs.sizes.Sizes.branches.Given as goal

abbrev pub invariant-branches : goal.invariant-branches
invariant-branches l =
    (l.i < length l.self.spans.now)
    × (both l.total (branches_span (ends_of l.self.ends.now) (typed_code_at l.self.rows.now l.i))
    ≡ branches_span (ends_of l.self.ends.now) (typed_code_at l.self.rows.now l.list))

abbrev pub decreases-branches : goal.decreases-branches
decreases-branches l = l.i
