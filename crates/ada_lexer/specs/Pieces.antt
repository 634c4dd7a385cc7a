-- What stands at the front of a text that isn't empty: a separator or a comment, the longest token,
-- or a fault (docs/LANGUAGE.md, "Lexical elements"; Ada 2012, 2.2 and 2.7).
use Rattle.std.specs.Prelude.{ℕ, ◌&&◌, ◌==◌, not, if◌then◌else◌, slice_index}
use Rattle.std.specs.List.{prefix_len}
use Rattle.ada_lexer.specs.declared.piece.Piece.{Piece}
use Rattle.ada_lexer.specs.declared.piece.Piece.TheVariants.{Gap}
use Rattle.ada_lexer.specs.Characters.{Text, is_separator, is_letter, is_digit, line_feed, hyphen, quote}
use Rattle.ada_lexer.specs.Identifiers.{identifier}
use Rattle.ada_lexer.specs.Numbers.{number}
use Rattle.ada_lexer.specs.Strings.{string}
use Rattle.ada_lexer.specs.Delimiters.{delimiter}

-- A comment begins with two hyphens and goes up to the next line feed or the end; any byte may
-- stand in it.
abbrev pub comment_length : Text → ℕ
comment_length text = prefix_len (λ b. not (b == line_feed)) text

-- In this order; what is left is a delimiter or a byte that begins no token.
unfoldable pub first_piece : Text → Piece
first_piece text =
    let b = slice_index text 0 in
    let next = slice_index text 1 in
    if is_separator b then Gap 1
    else (if b == hyphen && next == hyphen then Gap (comment_length text)
    else (if is_letter b then identifier text
    else (if is_digit b then number text
    else (if b == quote then string text
    else delimiter b next))))
