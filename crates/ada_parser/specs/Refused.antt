-- What a refusal of the tokens of a file tells (docs/TOOL.md, "Refusals").
use Rattle.std.specs.Prelude.{◌≡◌, List, ◌∷◌, ◌++◌, map}
use Rattle.spark_base.specs.declared.position.Pos.{Pos}
use Rattle.ada_lexer.specs.declared.token.Token.{Token}
use Rattle.token_reading.specs.Spelled.{told}
use Rattle.ada_tree.specs.Refusals.{Code, Syntax, TooDeep, LeftOut, IsRefused}
use Rattle.ada_parser.specs.declared.refusal.ParseRefusal.{ParseRefusal}
use Rattle.ada_parser.specs.declared.refusal.ParseRefusal.TheVariants as refusal

-- A token of the file is refused with the code, at its position.
pub record RefusedAt (code : Code) (tokens : List Token) (at : Pos) : Type 0 where
  pub before : List Token
  pub token : Token
  pub behind : List Token
  pub splits : tokens ≡ before ++ (token ∷ behind)
  pub position : token.pos ≡ at
  pub refused : IsRefused code (map told before) (told token)

-- The refusal has its cause in the tokens; out of memory has none.
abbrev pub IsRefusal : List Token → ParseRefusal → Type 0
IsRefusal tokens (refusal.Syntax at) = RefusedAt Syntax tokens at
IsRefusal tokens (refusal.TooDeep at) = RefusedAt TooDeep tokens at
IsRefusal tokens (refusal.LeftOut at) = RefusedAt LeftOut tokens at
IsRefusal tokens refusal.Memory = Unit {0}

-- The refusal with a code, at a position.
abbrev pub refusal_as : Code → Pos → ParseRefusal
refusal_as Syntax at = refusal.Syntax at
refusal_as TooDeep at = refusal.TooDeep at
refusal_as LeftOut at = refusal.LeftOut at
