-- What a refusal says of the limits of a program (docs/TOOL.md, "Limits").
use Rattle.std.specs.Prelude.{◌≡◌, Option, None, Some, Result, Ok, Err}
use Rattle.flow_paths.specs.declared.refusal.LayFault.{LayFault}
use Rattle.flow_paths.specs.declared.refusal.LayFault.TheVariants as fault
use Rattle.lay_out.specs.declared.refusal.LayRefusal.{LayRefusal}
use Rattle.lay_out.specs.declared.refusal.LayRefusal.TheVariants.{NameTooDeep, TooManyPoints, TooManyFacts, Memory}

-- A refusal names the first limit that a program is beyond, and its position. Out of memory says
-- nothing.
abbrev pub Says : LayRefusal → Option LayFault → Type 0
Says (NameTooDeep pos) found = found ≡ Some (fault.NameTooDeep pos)
Says (TooManyPoints pos) found = found ≡ Some (fault.TooManyPoints pos)
Says (TooManyFacts pos) found = found ≡ Some (fault.TooManyFacts pos)
Says Memory found = Unit {0}

-- What is laid out is within all limits.
abbrev pub Judges : {A : Type 0} → Result A LayRefusal → Option LayFault → Type 0
Judges (Ok a) found = found ≡ None
Judges (Err refusal) found = Says refusal found
