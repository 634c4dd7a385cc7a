use Rattle.std.proofs.Common.{◌≡◌, length}
use Rattle.bare_points.specs.Spans.{ends_of}
use Rattle.bare_points.specs.Sized.{AreSpans}
use Rattle.bare_points.proofs.sizes.spans.Given as goal

abbrev pub invariant-nodes : goal.invariant-nodes
invariant-nodes l = (length l.made ≡ l.i) × AreSpans l.rows (ends_of l.ends) l.i l.made
