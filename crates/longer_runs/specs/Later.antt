-- States that have the output and the failed leak checks of earlier ones.
use Rattle.std.specs.Prelude.{◌≡◌, List, ◌++◌}
use Rattle.machine.specs.States.{State}

-- A list begins with these elements.
abbrev pub BeginsWith : {A : Type 0} → List A → List A → Type 0
BeginsWith {A} all front = (back : List A) × (all ≡ front ++ back)

-- What was written and which checks failed by the time of the first state is what comes first in the other one.
pub record IsLater (s later : State) : Type 0 where
  pub output : BeginsWith later.output s.output
  pub leaks : BeginsWith later.leaks s.leaks
