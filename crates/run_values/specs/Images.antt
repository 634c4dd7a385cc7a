-- Images of values of Integer (Ada 2012, 3.5).
use Rattle.std.specs.Prelude.{ℕ, suc, List, ◌∷◌, ℤ, pos, negsuc}
use Rattle.std.specs.Fmt.{decimal}

-- A decimal literal without leading zeros after a blank, or after a minus sign where the value is
-- below zero. A blank is 32, and a minus sign 45.
abbrev pub image : ℤ → List ℕ
image (pos n) = 32 ∷ decimal n
image (negsuc n) = 45 ∷ decimal (suc n)
