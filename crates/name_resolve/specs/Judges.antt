-- What an answer says of the first broken rule.
use Rattle.std.specs.Prelude.{◌≡◌, Option, None, Some, Result, Ok, Err}
use Rattle.name_events.specs.declared.declaration.NameRule.TheVariants as rule
use Rattle.name_events.specs.Faults.{Fault}
use Rattle.name_resolve.specs.declared.refusal.NameRefusal.{NameRefusal}
use Rattle.name_resolve.specs.declared.refusal.NameRefusal.TheVariants.{Unknown, Twice, NotVisible, TooEarly, NoBody, WrongEnd, Memory}

-- A refusal names the first broken rule and its position. Out of memory says nothing.
abbrev pub Says : NameRefusal → Option Fault → Type 0
Says (Unknown pos) found = found ≡ Some (rule.Unknown, pos)
Says (Twice pos) found = found ≡ Some (rule.Twice, pos)
Says (NotVisible pos) found = found ≡ Some (rule.NotVisible, pos)
Says (TooEarly pos) found = found ≡ Some (rule.TooEarly, pos)
Says (NoBody pos) found = found ≡ Some (rule.NoBody, pos)
Says (WrongEnd pos) found = found ≡ Some (rule.WrongEnd, pos)
Says Memory found = Unit {0}

-- A meaning says that no rule is broken.
abbrev pub Judges : {A : Type 0} → Result A NameRefusal → Option Fault → Type 0
Judges (Ok a) found = found ≡ None
Judges (Err refusal) found = Says refusal found
