-- What the functions that read one piece promise each other.
use Rattle.std.specs.Prelude.{◌≡◌, ◌≢◌, ◌<◌, ◌≤◌, ℕ, length, Option, Some, None}
use Rattle.ada_lexer.specs.declared.token.TokenKind.TheVariants.{EndOfFile}
use Rattle.ada_lexer.specs.declared.piece.Piece.{Piece}
use Rattle.ada_lexer.specs.declared.piece.Piece.TheVariants.{Gap, Lexeme, Broken}
use Rattle.ada_lexer.specs.Characters.{Text}
use Rattle.ada_lexer.specs.Numbers.{largest_number}

-- A piece takes a byte at least and lies within the text, as the byte that a fault names does. No
-- piece is the end of the file.
abbrev pub IsWithin : Text → Piece → Type 0
IsWithin text (Gap len) = (1 ≤ len) × (len ≤ length text)
IsWithin text (Lexeme kind len) = (1 ≤ len) × (len ≤ length text) × (kind ≢ EndOfFile)
IsWithin text (Broken fault before) = before < length text

-- A value that is read, or none where it is too large.
abbrev pub IsInRange : ℕ → Option ℕ → Type 0
IsInRange value None = largest_number < value
IsInRange value (Some read) = (read ≡ value) × (value ≤ largest_number)
