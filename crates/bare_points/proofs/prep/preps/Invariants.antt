use Rattle.std.proofs.Common.{◌≡◌, length}
use Rattle.bare_points.specs.Sized.{ArePreps}
use Rattle.bare_points.proofs.prep.preps.Given as goal

abbrev pub invariant-nodes : goal.invariant-nodes
invariant-nodes l = (length l.made ≡ l.i) × ArePreps l.rows l.i l.made
