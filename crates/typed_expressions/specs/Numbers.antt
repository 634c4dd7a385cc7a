-- What a map of numbers by declaration answers.
use Rattle.std.specs.Prelude.{◌≡◌, ℕ, ◌+◌, List, [], ◌∷◌, nat_eq, Option, Some, None, if◌then◌else◌}
use Rattle.std.specs.Map.{lookup}

-- More than can be counted.
abbrev pub MANY : ℕ
MANY = 4294967295

-- The place of the first that is d, where the first of the list has the place n.
abbrev pub place_from : ℕ → List ℕ → ℕ → Option ℕ
place_from n [] d = None
place_from n (x ∷ rest) d = if nat_eq d x then Some n else place_from (n + 1) rest d

-- The entries answer for each declaration what the list has.
abbrev pub Counts : List (ℕ × ℕ) → ℕ → List ℕ → Type 0
Counts entries n order = (d : ℕ) → lookup (nat_eq d) entries ≡ place_from n order d
