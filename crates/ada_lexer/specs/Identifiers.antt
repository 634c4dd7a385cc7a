-- Identifiers and reserved words (docs/LANGUAGE.md, "Lexical elements"; Ada 2012, 2.3 and 2.9).
use Rattle.std.specs.Prelude.{ℕ, ◌-◌, Bool, false, ◌||◌, ◌&&◌, ◌==◌, if◌then◌else◌, [], ◌∷◌, length, take, slice_index, Option, Some, None}
use Rattle.std.specs.List.{prefix_len}
use Rattle.ada_lexer.specs.declared.token.Reserved.{Reserved}
use Rattle.ada_lexer.specs.declared.token.TokenKind.{TokenKind}
use Rattle.ada_lexer.specs.declared.token.TokenKind.TheVariants.{Word, Ident}
use Rattle.ada_lexer.specs.declared.piece.Fault.TheVariants.{BadIdentifier}
use Rattle.ada_lexer.specs.declared.piece.Piece.{Piece}
use Rattle.ada_lexer.specs.declared.piece.Piece.TheVariants.{Lexeme, Broken}
use Rattle.ada_lexer.specs.Characters.{Text, is_letter, is_digit, underscore}
use Rattle.ada_lexer.specs.ReservedWords.{reserved}

-- Letters, digits and underscores follow the first letter; the longest run is taken.
abbrev pub is_word_part : ℕ → Bool
is_word_part b = is_letter b || is_digit b || b == underscore

abbrev pub word_length : Text → ℕ
word_length text = prefix_len is_word_part text

-- Two underscores are adjacent.
abbrev pub has_double_underscore : Text → Bool
has_double_underscore [] = false
has_double_underscore (b ∷ rest) =
    (b == underscore && slice_index rest 0 == underscore) || has_double_underscore rest

-- The last byte is an underscore.
abbrev pub ends_in_underscore : Text → Bool
ends_in_underscore word = slice_index word (length word - 1) == underscore

abbrev pub misplaces_underscore : Text → Bool
misplaces_underscore word = has_double_underscore word || ends_in_underscore word

abbrev pub kind_by : Option Reserved → TokenKind
kind_by (Some word) = Word word
kind_by None = Ident

-- What stands at the front of a text that begins with a letter.
unfoldable pub identifier : Text → Piece
identifier text =
    let word = take (word_length text) text in
    if misplaces_underscore word then Broken BadIdentifier 0
    else Lexeme (kind_by (reserved word)) (word_length text)
