-- Whether a first fault is found.
use Rattle.std.proofs.Common.{◌≡◌, refl, false, List, [], ◌∷◌, Some, None, is_none, if◌then◌else◌}
use Rattle.type_definitions.specs.declared.judgement.Fault.{Fault}
use Rattle.type_definitions.specs.Faults.{noted, precedes}
use Rattle.type_definitions.specs.Types.{is_nil}

some_noted : (f : Fault) (faults : List Fault) → is_none (noted (Some f) faults) ≡ false
some_noted f [] = refl
some_noted f (g ∷ rest) = some_noted (if precedes g f then g else f) rest

-- Nothing is found only where there is nothing.
pub none_noted : (faults : List Fault) → is_none (noted None faults) ≡ is_nil faults
none_noted [] = refl
none_noted (f ∷ rest) = some_noted f rest
