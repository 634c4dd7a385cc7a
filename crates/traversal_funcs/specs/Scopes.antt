-- Scopes on the path outwards.
use Rattle.std.specs.Prelude.{ℕ, List, get_or}

abbrev pub around : List ℕ → ℕ → ℕ
around scopes b = get_or scopes b b
