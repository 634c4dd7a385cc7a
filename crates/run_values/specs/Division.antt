-- The laws of `/`, `rem` and `mod` (Ada 2012, 4.5.5(4 to 9)).
use Rattle.std.specs.Prelude.{◌≡◌, ◌<◌, None, ℤ, pos, ◌+ℤ◌, ◌*ℤ◌, ◌≤ℤ◌, unsigned_abs}
use Rattle.run_values.specs.Arithmetic.{fits}

-- The first number is zero or has the sign of the second.
pub record HasSignOf (r s : ℤ) : Type 0 where
  pub above : pos 0 ≤ℤ s → pos 0 ≤ℤ r
  pub below : s ≤ℤ pos 0 → r ≤ℤ pos 0

-- A = (A/B)*B + (A rem B), where A rem B is zero or has the sign of A, and has an absolute value
-- less than that of B.
pub record Divides (a b q r : ℤ) : Type 0 where
  pub whole : a ≡ q *ℤ b +ℤ r
  pub signed : HasSignOf r a
  pub small : unsigned_abs r < unsigned_abs b

abbrev pub IsQuotient : ℤ → ℤ → ℤ → Type 0
IsQuotient a b q = (r : ℤ) × Divides a b q r

abbrev pub IsRemainder : ℤ → ℤ → ℤ → Type 0
IsRemainder a b r = (q : ℤ) × Divides a b q r

-- A = B*N + (A mod B) for some N, where A mod B is zero or has the sign of B, and has an absolute
-- value less than that of B.
pub record IsModulus (a b m : ℤ) : Type 0 where
  pub whole : (n : ℤ) × (a ≡ n *ℤ b +ℤ m)
  pub signed : HasSignOf m b
  pub small : unsigned_abs m < unsigned_abs b

-- There is such a number, but it is no value of Integer.
abbrev pub IsOutside : (ℤ → Type 0) → Type 0
IsOutside P = (v : ℤ) × (P v × (fits v ≡ None))
