-- What the tables of sizes are known to have.
use Rattle.std.specs.Prelude.{◌≤◌, length}
use Rattle.bare_points.specs.declared.sizes.Sizes.{Sizes}
use Rattle.bare_points.specs.Spans.{ends_of}
use Rattle.bare_points.specs.Sized.{ArePreps, AreSpans}

-- All nodes of expressions, and the first nodes of code, have what the tables say.
pub record AreSizes (s : Sizes) : Type 0 where
  pub preps : ArePreps s.rows.now (length s.rows.now.0) s.preps.now
  pub spans : AreSpans s.rows.now (ends_of s.ends.now) (length s.spans.now) s.spans.now
  pub within : length s.spans.now ≤ length s.rows.now.1
