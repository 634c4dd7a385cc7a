-- The refused token of a file, with its code (docs/LANGUAGE.md, "Grammar").
use Rattle.std.specs.Prelude.{◌≡◌, Bool, true, false, List, ◌∷◌}
use Rattle.ada_lexer.specs.declared.token.Reserved.{Reserved}
use Rattle.ada_lexer.specs.declared.token.Reserved.TheVariants.{KwAbort, KwAbstract, KwAccept, KwAliased, KwAll, KwAt, KwDelay, KwDelta, KwDigits, KwDo, KwEntry, KwException, KwGeneric, KwGoto, KwInterface, KwLimited, KwNew, KwOverriding, KwProtected, KwRaise, KwRenames, KwRequeue, KwSelect, KwSeparate, KwSome, KwSynchronized, KwTagged, KwTask, KwTerminate, KwUntil}
use Rattle.ada_tree.specs.declared.unit.SourceUnit.{SourceUnit}
use Rattle.token_reading.specs.Spelled.{Spelled, Word, Ident, Number, Str, Delimiter, EndOfFile}
use Rattle.token_reading.specs.Sources as sources
use Rattle.ada_tree.specs.Spelling.{source_spelling}
use Rattle.ada_tree.specs.WellPlaced.{WellPlaced}
use Rattle.ada_tree.specs.FixedNames.{FixedNames}

-- The units are those of a source: there is one at least, each part has its position, and the fixed
-- names stand where the grammar has them.
pub record IsSource (units : List SourceUnit) : Type 0 where
  pub some : (first : SourceUnit) × (rest : List SourceUnit) × (units ≡ first ∷ rest)
  pub placed : WellPlaced units
  pub named : FixedNames units

-- The units are those of a source that is spelled by the tokens.
abbrev pub IsSpelledBy : List Spelled → List SourceUnit → Type 0
IsSpelledBy = sources.IsSpelledBy IsSource source_spelling

-- The units are the one source that is spelled by the tokens, none of which exceeds the limit.
abbrev pub IsTreeOf : List Spelled → List SourceUnit → Type 0
IsTreeOf = sources.IsTreeOf IsSource source_spelling

-- Words of Ada 2012 that begin or continue what is left out of the language. Where the refused
-- token is one of them, the code is P3.
abbrev pub is_left_out_word : Reserved → Bool
is_left_out_word KwAbort = true
is_left_out_word KwAbstract = true
is_left_out_word KwAccept = true
is_left_out_word KwAliased = true
is_left_out_word KwAll = true
is_left_out_word KwAt = true
is_left_out_word KwDelay = true
is_left_out_word KwDelta = true
is_left_out_word KwDigits = true
is_left_out_word KwDo = true
is_left_out_word KwEntry = true
is_left_out_word KwException = true
is_left_out_word KwGeneric = true
is_left_out_word KwGoto = true
is_left_out_word KwInterface = true
is_left_out_word KwLimited = true
is_left_out_word KwNew = true
is_left_out_word KwOverriding = true
is_left_out_word KwProtected = true
is_left_out_word KwRaise = true
is_left_out_word KwRenames = true
is_left_out_word KwRequeue = true
is_left_out_word KwSelect = true
is_left_out_word KwSeparate = true
is_left_out_word KwSome = true
is_left_out_word KwSynchronized = true
is_left_out_word KwTagged = true
is_left_out_word KwTask = true
is_left_out_word KwTerminate = true
is_left_out_word KwUntil = true
is_left_out_word _ = false

abbrev pub is_left_out : Spelled → Bool
is_left_out (Word word pos) = is_left_out_word word
is_left_out (Ident pos text) = false
is_left_out (Number number pos) = false
is_left_out (Str pos text) = false
is_left_out (Delimiter symbol pos) = false
is_left_out EndOfFile = false

pub data Code : Type 0 where
  -- P1
  Syntax : Code
  -- P2
  TooDeep : Code
  -- P3
  LeftOut : Code

-- The token after the list is refused with the code. Where it is P2, the token is the last of a
-- viable prefix; where it is P1 or P3, it isn't.
abbrev pub IsRefused : Code → List Spelled → Spelled → Type 0
IsRefused Syntax before token = sources.IsFaulty IsSource source_spelling before token × (is_left_out token ≡ false)
IsRefused LeftOut before token = sources.IsFaulty IsSource source_spelling before token × (is_left_out token ≡ true)
IsRefused TooDeep before token = sources.IsOverLimit IsSource source_spelling before token
