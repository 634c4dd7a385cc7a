-- The operators of Integer (Ada 2012, 3.5.4 and 4.5.3 to 4.5.6).
use Rattle.std.specs.Prelude.{Bool, ◌&&◌, ◌||◌, Option, Some, None, ℤ, pos, negsuc, ◌+ℤ◌, ◌-ℤ◌, ◌*ℤ◌, neg_ℤ, unsigned_abs, int_lt, int_le, int_div, int_rem, if◌then◌else◌}

-- The values of Integer are those from -2147483648 to 2147483647.
abbrev pub is_integer : ℤ → Bool
is_integer v = int_le (negsuc 2147483647) v && int_le v (pos 2147483647)

-- A result where it is a value of Integer, and else none.
abbrev pub fits : ℤ → Option ℤ
fits v = if is_integer v then Some v else None

-- No operation divides by zero.
abbrev pub nonzero : ℤ → Option ℤ → Option ℤ
nonzero b v = if int_lt b (pos 0) || int_lt (pos 0) b then v else None

-- One number is below zero and the other one above.
abbrev pub has_other_sign : ℤ → ℤ → Bool
has_other_sign r b = int_lt r (pos 0) && int_lt (pos 0) b || int_lt (pos 0) r && int_lt b (pos 0)

-- A remainder as it is, or one divisor further where it hasn't the sign of the divisor.
abbrev pub with_sign_of : ℤ → ℤ → ℤ
with_sign_of r b = if has_other_sign r b then r +ℤ b else r

-- The remainder with the sign of the divisor.
abbrev pub int_mod : ℤ → ℤ → ℤ
int_mod a b = with_sign_of (int_rem a b) b

-- Addition and subtraction (4.5.3), multiplication (4.5.5(3)).
abbrev pub sum : ℤ → ℤ → Option ℤ
sum a b = fits (a +ℤ b)

abbrev pub difference : ℤ → ℤ → Option ℤ
difference a b = fits (a -ℤ b)

abbrev pub product : ℤ → ℤ → Option ℤ
product a b = fits (a *ℤ b)

-- Division toward zero, the remainder that goes with it, and `mod` (4.5.5(4 to 9)); Division.antt
-- has their laws.
abbrev pub quotient : ℤ → ℤ → Option ℤ
quotient a b = nonzero b (fits (int_div a b))

abbrev pub remainder : ℤ → ℤ → Option ℤ
remainder a b = nonzero b (fits (int_rem a b))

abbrev pub modulus : ℤ → ℤ → Option ℤ
modulus a b = nonzero b (fits (int_mod a b))

-- The unary minus (4.5.4) and the absolute value (4.5.6).
abbrev pub negation : ℤ → Option ℤ
negation a = fits (neg_ℤ a)

abbrev pub absolute : ℤ → Option ℤ
absolute a = fits (pos (unsigned_abs a))
