-- Code in rows, and points that aren't the last one.
use Rattle.std.specs.Prelude.{ℕ, Bool, not, ◌==◌}

-- A point follows.
abbrev pub follows : ℕ → Bool
follows n = not (n == 4294967295)
