use Rattle.std.proofs.Common.{◌≡◌, ◌<◌, ◌≤◌, ◌+◌, ◌++◌, length}
use Rattle.numbered_points.specs.Extents.{size}
use Rattle.bare_points.specs.Spans.{whens_span}
use Rattle.bare_points.specs.BareLaid.{whens_start}
use Rattle.bare_points.specs.Layouts.{code_in, laying}
use Rattle.bare_points.proofs.layout.Layout.starts.Given as goal

abbrev pub invariant-alternatives : goal.invariant-alternatives
invariant-alternatives l =
    (l.i < length l.self.sizes.rows.now.1)
    × (l.n + size (whens_span (laying l.self).ends (code_in l.self l.i)) l.ways ≤ 16384)
    × (l.found.items ++ whens_start (laying l.self).ends (code_in l.self l.i) l.n l.ways l.k
    ≡ whens_start (laying l.self).ends (code_in l.self l.list) l.initial.n l.ways l.k)

abbrev pub decreases-alternatives : goal.decreases-alternatives
decreases-alternatives l = l.i
