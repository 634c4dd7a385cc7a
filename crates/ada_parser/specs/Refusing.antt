-- How a fault of reading becomes a refusal of the tokens of a file.
use Rattle.std.specs.Prelude.{◌≡◌, ◌≤◌, ℕ, ◌-◌, if◌then◌else◌, List, length, Option, IfSome}
use Rattle.std.specs.List.{slice_get}
use Rattle.ada_lexer.specs.declared.token.Token.{Token}
use Rattle.token_reading.specs.declared.fault.ReadFault.{ReadFault}
use Rattle.token_reading.specs.declared.fault.ReadFault.TheVariants as fault
use Rattle.token_reading.specs.Spelled.{told}
use Rattle.ada_tree.specs.Refusals.{is_left_out}
use Rattle.ada_parser.specs.declared.refusal.ParseRefusal.{ParseRefusal}
use Rattle.ada_parser.specs.declared.refusal.ParseRefusal.TheVariants as refusal

-- The first of so many tokens left of a file.
abbrev pub first_left : List Token → ℕ → Option Token
first_left tokens left = slice_get tokens (length tokens - left)

-- A fault stands at a token, but for out of memory.
abbrev pub StandsAtToken : List Token → ℕ → ReadFault → Type 0
StandsAtToken tokens left fault.Refused = (1 ≤ left) × (left ≤ length tokens)
StandsAtToken tokens left fault.OverLimit = (1 ≤ left) × (left ≤ length tokens)
StandsAtToken tokens left fault.Memory = Unit {0}

-- The refusal at a token that ends no viable prefix.
abbrev pub refusal_at : Token → ParseRefusal
refusal_at token = if is_left_out (told token) then refusal.LeftOut token.pos else refusal.Syntax token.pos

-- The refusal tells of this fault, at the first of so many tokens left.
abbrev pub TellsOf : List Token → ℕ → ReadFault → ParseRefusal → Type 0
TellsOf tokens left fault.Refused found = IfSome (first_left tokens left) (λ token. found ≡ refusal_at token)
TellsOf tokens left fault.OverLimit found = IfSome (first_left tokens left) (λ token. found ≡ refusal.TooDeep token.pos)
TellsOf tokens left fault.Memory found = found ≡ refusal.Memory
