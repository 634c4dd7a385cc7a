-- Choices are passed once, in the order of their low ends.
use Rattle.std.specs.Prelude.{Bool, true, false, not, ◌&&◌, ◌||◌, List, [], ◌∷◌, ℤ, pos, ◌+ℤ◌, int_le, Option, Some, None, if◌then◌else◌}
use Rattle.type_definitions.specs.declared.judgement.Fault.{Fault}
use Rattle.type_definitions.specs.declared.judgement.Cover.{Cover}
use Rattle.type_definitions.specs.Faults.{is_before}
use Rattle.type_definitions.specs.Statements.{covers}

-- A choice that covers a value leads to the value right after it.
abbrev pub past : ℤ → Cover → ℤ
past v k = if covers v k then k.high +ℤ pos 1 else v

abbrev pub reach : ℤ → List Cover → ℤ
reach v [] = v
reach v (k ∷ rest) = reach (past v k) rest

abbrev pub has_values : Cover → Bool
has_values k = int_le k.low k.high

-- Some choice that has values begins before a value, or before the end of the one in front of it.
abbrev pub overlap : ℤ → List Cover → Bool
overlap v [] = false
overlap v (k ∷ rest) = if has_values k then not (int_le v k.low) || overlap (k.high +ℤ pos 1) rest else overlap v rest

-- A fault stands before each of the choices.
abbrev pub leads : Fault → List Cover → Bool
leads f [] = true
leads f (k ∷ rest) = is_before f.pos k.at && leads f rest

-- One is found, and it is such a fault.
abbrev pub is_first : Option Fault → List Cover → Bool
is_first (Some f) behind = leads f behind
is_first None behind = false
