-- What a token is to the grammar (docs/LANGUAGE.md, "Lexical elements").
use Rattle.std.specs.Prelude.{◌≡◌, ℕ, List, ◌⊎◌, refl}
use Rattle.std.specs.Coded.{Coded, code_by, coded×, coded⊎, coded_ℕ, coded_list}
use Rattle.std.proofs.Common.{inl, inr}
use base.Stored.{coded_unit}
use Rattle.spark_base.specs.declared.position.Pos.{Pos}
use Rattle.spark_base.specs.contracts.position.Pos as position_of
use Rattle.ada_lexer.specs.declared.token.Token.{Token}
use Rattle.ada_lexer.specs.declared.token.TokenKind.{TokenKind}
use Rattle.ada_lexer.specs.declared.token.TokenKind.TheVariants as kind
use Rattle.ada_lexer.specs.declared.token.Reserved.{Reserved}
use Rattle.ada_lexer.specs.declared.token.Symbol.{Symbol}
use Rattle.ada_lexer.specs.contracts.token.Reserved as reserved
use Rattle.ada_lexer.specs.contracts.token.Symbol as symbol

-- A token's kind and position, and the text of an identifier or a string.
pub data Spelled : Type 0 where
  Word : Reserved → Pos → Spelled
  Ident : Pos → List ℕ → Spelled
  Number : ℕ → Pos → Spelled
  Str : Pos → List ℕ → Spelled
  Delimiter : Symbol → Pos → Spelled
  -- the position of the end of the file isn't kept, and isn't compared
  EndOfFile : Spelled

abbrev pub told_as : TokenKind → Pos → List ℕ → Spelled
told_as (kind.Word word) pos text = Word word pos
told_as kind.Ident pos text = Ident pos text
told_as (kind.Number number) pos text = Number number pos
told_as kind.Str pos text = Str pos text
told_as (kind.Symbol symbol) pos text = Delimiter symbol pos
told_as kind.EndOfFile pos text = EndOfFile

-- What a token of the text is to the grammar.
abbrev pub told : Token → Spelled
told t = told_as t.kind t.pos t.text.now

-- ---- how such tokens are coded as a value that a contract sees

abbrev Parts : Type 0
Parts = (Reserved × Pos) ⊎ ((Pos × List ℕ) ⊎ ((ℕ × Pos) ⊎ ((Pos × List ℕ) ⊎ ((Symbol × Pos) ⊎ Unit {0}))))

abbrev parts : Spelled → Parts
parts (Word word pos) = inl (word, pos)
parts (Ident pos text) = inr (inl (pos, text))
parts (Number number pos) = inr (inr (inl (number, pos)))
parts (Str pos text) = inr (inr (inr (inl (pos, text))))
parts (Delimiter symbol pos) = inr (inr (inr (inr (inl (symbol, pos)))))
parts EndOfFile = inr (inr (inr (inr (inr tt))))

abbrev whole : Parts → Spelled
whole (inl p) = Word p.0 p.1
whole (inr (inl p)) = Ident p.0 p.1
whole (inr (inr (inl p))) = Number p.0 p.1
whole (inr (inr (inr (inl p)))) = Str p.0 p.1
whole (inr (inr (inr (inr (inl p))))) = Delimiter p.0 p.1
whole (inr (inr (inr (inr (inr u))))) = EndOfFile

pub whole_parts : (t : Spelled) → whole (parts t) ≡ t
whole_parts (Word word pos) = refl
whole_parts (Ident pos text) = refl
whole_parts (Number number pos) = refl
whole_parts (Str pos text) = refl
whole_parts (Delimiter symbol pos) = refl
whole_parts EndOfFile = refl

abbrev pub spelled_code : Coded Spelled
spelled_code = code_by Parts
    (coded⊎ (coded× reserved.the_row.coded position_of.the_row.coded)
    (coded⊎ (coded× position_of.the_row.coded (coded_list coded_ℕ))
    (coded⊎ (coded× coded_ℕ position_of.the_row.coded)
    (coded⊎ (coded× position_of.the_row.coded (coded_list coded_ℕ))
    (coded⊎ (coded× symbol.the_row.coded position_of.the_row.coded) coded_unit)))))
    parts whole whole_parts
