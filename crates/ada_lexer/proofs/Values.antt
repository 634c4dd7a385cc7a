-- Digits after others never make a value smaller.
use Rattle.std.proofs.Common.{◌≡◌, ℕ, suc, ◌<◌, ◌≤◌, List, [], ◌∷◌, length, get_or, drop, arith}
use Rattle.std.specs.List.{fold}
use Rattle.std.proofs.Math.Seq.{drop-cons}
use Rattle.ada_lexer.specs.Numbers.{with_digit, number_value, largest_number}

with_digit-le : (value b : ℕ) → value ≤ with_digit value b
with_digit-le value b = grind arith

fold_with_digit-le : (value : ℕ) (digits : List ℕ) → value ≤ fold with_digit value digits
fold_with_digit-le value [] = omega arith
fold_with_digit-le value (b ∷ digits) =
    let one = with_digit-le value b in
    let more = fold_with_digit-le (with_digit value b) digits in
    omega arith

-- A value that is too large before all digits are read is too large.
pub too_large : (value i : ℕ) (digits : List ℕ) → i < length digits
    → fold with_digit value (drop i digits) ≡ number_value digits
    → largest_number < with_digit value (get_or digits i 0) → largest_number < number_value digits
too_large value i digits within is above =
    let more = fold_with_digit-le (with_digit value (get_or digits i 0)) (drop (suc i) digits) in
    let here : fold with_digit (with_digit value (get_or digits i 0)) (drop (suc i) digits) ≡ number_value digits
    = rw (drop-cons digits i 0 within) at is in
    omega arith
