-- String literals (docs/LANGUAGE.md, "Lexical elements"; Ada 2012, 2.6).
use Rattle.std.specs.Prelude.{ℕ, suc, ◌+◌, Bool, true, false, ◌||◌, ◌==◌, nat_le, if◌then◌else◌, [], ◌∷◌, length, drop, slice_index}
use Rattle.ada_lexer.specs.declared.token.TokenKind.TheVariants.{Str}
use Rattle.ada_lexer.specs.declared.piece.Fault.TheVariants.{OpenString, BadByte}
use Rattle.ada_lexer.specs.declared.piece.Piece.{Piece}
use Rattle.ada_lexer.specs.declared.piece.Piece.TheVariants.{Lexeme, Broken}
use Rattle.ada_lexer.specs.Characters.{Text, is_graphic, quote, line_feed}

-- A string element begins with a graphic character but the quote, or with two quotes, which stand
-- for one.
abbrev pub begins_element : ℕ → ℕ → Bool
begins_element b next = if b == quote then next == quote else is_graphic b

-- How many bytes the string elements at the front take.
-- The truth value tells that the byte before was the first of two quotes.
abbrev pub elements_length : Bool → Text → ℕ
elements_length is_second [] = 0
elements_length true (b ∷ rest) = suc (elements_length false rest)
elements_length false (b ∷ rest) =
    if begins_element b (slice_index rest 0) then suc (elements_length (b == quote) rest) else 0

-- What stands at the front of a text that begins with a quote, by the byte where the string
-- elements stop.
unfoldable pub string : Text → Piece
string text =
    let stop = 1 + elements_length false (drop 1 text) in
    if slice_index text stop == quote then Lexeme Str (stop + 1)
    else (if nat_le (length text) stop || slice_index text stop == line_feed then Broken OpenString 0
    else Broken BadByte stop)
