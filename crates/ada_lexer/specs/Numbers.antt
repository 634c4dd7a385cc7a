-- Decimal literals without a point and an exponent (docs/LANGUAGE.md, "Lexical elements"; Ada 2012,
-- 2.4.1).
use Rattle.std.specs.Prelude.{ℕ, ◌+◌, ◌*◌, ◌-◌, Bool, ◌||◌, ◌&&◌, ◌==◌, nat_lt, if◌then◌else◌, take, drop, slice_index}
use Rattle.std.specs.List.{prefix_len, fold}
use Rattle.ada_lexer.specs.declared.token.TokenKind.TheVariants.{Number}
use Rattle.ada_lexer.specs.declared.piece.Fault.TheVariants.{BadNumber}
use Rattle.ada_lexer.specs.declared.piece.Piece.{Piece}
use Rattle.ada_lexer.specs.declared.piece.Piece.TheVariants.{Lexeme, Broken}
use Rattle.ada_lexer.specs.Characters.{Text, is_letter, is_digit, underscore, number_sign, full_stop}
use Rattle.ada_lexer.specs.Identifiers.{misplaces_underscore}

-- Digits with underscores between them; the longest run is taken.
abbrev pub is_number_part : ℕ → Bool
is_number_part b = is_digit b || b == underscore

abbrev pub number_length : Text → ℕ
number_length text = prefix_len is_number_part text

-- The value in base ten. An underscore doesn't change it.
abbrev pub with_digit : ℕ → ℕ → ℕ
with_digit value b = if b == underscore then value else 10 * value + (b - 48)

abbrev pub number_value : Text → ℕ
number_value digits = fold with_digit 0 digits

-- No larger value is read.
abbrev pub largest_number : ℕ
largest_number = 2147483648

-- What may not follow a number: a letter, a number sign, or a point with a digit.
abbrev pub spoils_number : Text → Bool
spoils_number rest =
    is_letter (slice_index rest 0) || slice_index rest 0 == number_sign
    || (slice_index rest 0 == full_stop && is_digit (slice_index rest 1))

-- What stands at the front of a text that begins with a digit.
unfoldable pub number : Text → Piece
number text =
    let digits = take (number_length text) text in
    if misplaces_underscore digits || spoils_number (drop (number_length text) text)
    || nat_lt largest_number (number_value digits)
    then Broken BadNumber 0
    else Lexeme (Number (number_value digits)) (number_length text)
