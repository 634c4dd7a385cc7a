-- Ranks of types: none is made of a type with a greater one.
use Rattle.std.specs.Prelude.{◌<◌, ◌+◌, ℕ, Bool, List, length, get_or, nat_lt, IsTrue}
use Rattle.type_definitions.specs.Types.{Table, base, info}
use Rattle.type_settled.specs.Orders.{is_ready}

abbrev pub rank : List ℕ → ℕ → ℕ
rank ranks t = get_or ranks t 0

abbrev pub is_lower : List ℕ → ℕ → ℕ → Bool
is_lower ranks limit t = nat_lt (rank ranks t) limit

-- No type is made of one with a greater rank, or a subtype of one.
abbrev pub IsRanked : Table → List ℕ → ℕ → Type 0
IsRanked table ranks t =
    IsTrue (is_ready (is_lower ranks (rank ranks t + 1)) (info table t)) × IsTrue (is_lower ranks (rank ranks t + 1) (base table t))

abbrev pub AreRanks : Table → List ℕ → Type 0
AreRanks table ranks = (t : ℕ) → t < length table → IsRanked table ranks t
