use Rattle.std.proofs.Common.{◌≡◌, ◌<◌, length}
use Rattle.typed_tree.specs.Nodes.{typed_code_at}
use Rattle.numbered_points.specs.Extents.{both}
use Rattle.bare_points.specs.Spans.{whens_span, ends_of}
use Rattle.bare_points.proofs.sizes.Sizes.alternatives.Given as goal

abbrev pub invariant-alternatives : goal.invariant-alternatives
invariant-alternatives l =
    (l.i < length l.self.spans.now)
    × (both l.total (whens_span (ends_of l.self.ends.now) (typed_code_at l.self.rows.now l.i))
    ≡ whens_span (ends_of l.self.ends.now) (typed_code_at l.self.rows.now l.list))

abbrev pub decreases-alternatives : goal.decreases-alternatives
decreases-alternatives l = l.i
