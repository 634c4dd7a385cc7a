-- The cut of a text into tokens, or its first lexical fault (docs/LANGUAGE.md, "Lexical elements").
use Rattle.std.specs.Prelude.{◌≡◌, ℕ, zero, suc, ◌-◌, ◌==◌, if◌then◌else◌, List, [], ◌∷◌, ◌++◌, map, take, Result, Ok, Err}
use Rattle.spark_base.specs.declared.position.Pos.{Pos}
use Rattle.ada_lexer.specs.declared.token.Token.{Token}
use Rattle.ada_lexer.specs.declared.token.TokenKind.{TokenKind}
use Rattle.ada_lexer.specs.declared.token.TokenKind.TheVariants.{Word, Ident, Number, Str, Symbol, EndOfFile}
use Rattle.ada_lexer.specs.declared.refusal.LexRefusal.{LexRefusal}
use Rattle.ada_lexer.specs.declared.refusal.LexRefusal.TheVariants as refused
use Rattle.ada_lexer.specs.declared.piece.Fault.{Fault}
use Rattle.ada_lexer.specs.declared.piece.Fault.TheVariants.{BadByte, BadIdentifier, BadNumber, OpenString}
use Rattle.ada_lexer.specs.declared.piece.Piece.{Piece}
use Rattle.ada_lexer.specs.declared.piece.Piece.TheVariants.{Gap, Lexeme, Broken}
use Rattle.ada_lexer.specs.Characters.{Text}
use Rattle.ada_lexer.specs.Pieces.{first_piece}
use Rattle.ada_lexer.specs.Positions.{first_position, next_position, behind}

-- A token as a value: its kind, its bytes, and the position of the first one.
pub record Cut : Type 0 where
  pub kind : TokenKind
  pub text : Text
  pub pos : Pos

-- The tokens, or the first fault.
abbrev pub CutResult : Type 0
CutResult = Result (List Cut) LexRefusal

abbrev pub refusal_at : Fault → Pos → LexRefusal
refusal_at BadByte pos = refused.BadByte pos
refusal_at BadIdentifier pos = refused.BadIdentifier pos
refusal_at BadNumber pos = refused.BadNumber pos
refusal_at OpenString pos = refused.OpenString pos

-- These tokens, and then those of a result; its fault stays.
abbrev pub then_cut : Cut → CutResult → CutResult
then_cut token (Ok tokens) = Ok (token ∷ tokens)
then_cut token (Err fault) = Err fault

-- What the piece at the front of a text adds to the result of what comes after it, which goes by
-- the piece's length and the room left there. A token for which no room is left is refused; a fault
-- at its position goes before that.
abbrev pub with_piece : Piece → Pos → ℕ → Text → (ℕ → ℕ → CutResult) → CutResult
with_piece (Gap len) pos room text outcome_behind = outcome_behind len room
with_piece (Lexeme kind len) pos room text outcome_behind =
    if room == 0 then Err (refused.TooMany pos)
    else then_cut (record { kind = kind; text = take len text; pos = pos }) (outcome_behind len (room - 1))
with_piece (Broken fault before) pos room text outcome_behind = Err (refusal_at fault (behind pos (take before text)))

-- The cut of a text whose first byte stands at a position, with room for so many tokens before the
-- end of the file. The first number tells how many bytes of the piece before are still to be
-- passed.
abbrev pub cut_from : ℕ → Pos → ℕ → Text → CutResult
cut_from left pos room [] = Ok (record { kind = EndOfFile; text = []; pos = pos } ∷ [])
cut_from (suc left) pos room (b ∷ rest) = cut_from left (next_position pos b) room rest
cut_from zero pos room (b ∷ rest) =
    with_piece (first_piece (b ∷ rest)) pos room (b ∷ rest) (λ len room_behind. cut_from (len - 1) (next_position pos b) room_behind rest)

-- The tokens of a file, with the end of the file last, or its first fault.
unfoldable pub tokens : ℕ → Text → ℕ → CutResult
tokens file text room = cut_from 0 (first_position file) room text

-- A token of the program as a value.
abbrev pub cut_of : Token → Cut
cut_of token = record { kind = token.kind; text = token.text.now; pos = token.pos }

abbrev pub kinds_of : List Token → List TokenKind
kinds_of found = map (λ token. token.kind) found

-- The end of the file is the last token, and no other is the end of the file.
abbrev pub EndsOnce : List TokenKind → Type 0
EndsOnce [] = ⊥
EndsOnce (EndOfFile ∷ rest) = rest ≡ []
EndsOnce (Word word ∷ rest) = EndsOnce rest
EndsOnce (Ident ∷ rest) = EndsOnce rest
EndsOnce (Number value ∷ rest) = EndsOnce rest
EndsOnce (Str ∷ rest) = EndsOnce rest
EndsOnce (Symbol symbol ∷ rest) = EndsOnce rest

-- The bytes of a token stand in the text, and its position is the one after the bytes before them.
pub record StandsIn (file : ℕ) (text : Text) (token : Cut) : Type 0 where
  pub before : Text
  pub rest : Text
  pub splits : text ≡ before ++ token.text ++ rest
  pub position : token.pos ≡ behind (first_position file) before

-- The position that a refusal names is one of this file.
abbrev pub NamesFile : ℕ → LexRefusal → Type 0
NamesFile file (refused.BadByte pos) = pos.file ≡ file
NamesFile file (refused.BadIdentifier pos) = pos.file ≡ file
NamesFile file (refused.BadNumber pos) = pos.file ≡ file
NamesFile file (refused.OpenString pos) = pos.file ≡ file
NamesFile file (refused.TooMany pos) = pos.file ≡ file
NamesFile file refused.Memory = Unit {0}
