-- Facts that are apart.
use Rattle.std.specs.Prelude.{◌≡◌, Bool, false, List}
use Rattle.machine.specs.spark_base.Lists.{Has}
use Rattle.machine.specs.place_names.declared.rule.Loan.TheVariants.{Borrowed, Observed}
use Rattle.machine.specs.place_names.declared.fact.Fact.{Fact}
use Rattle.machine.specs.place_names.declared.fact.Fact.TheVariants.{Moved, Lent}
use Rattle.machine.specs.place_names.Names.{overlaps}

-- A moved place overlaps one that is lent, or a borrowed place overlaps one that is lent.
abbrev pub clashes : Fact → Fact → Bool
clashes (Moved m) (Lent l h n) = overlaps m n
clashes (Lent Borrowed h n) (Lent l k m) = overlaps n m
clashes (Moved m) (Moved n) = false
clashes (Lent Borrowed h n) (Moved m) = false
clashes (Lent Observed h n) f = false

-- No two different facts of a list clash.
abbrev pub AreApart : List Fact → Type 0
AreApart facts = (f g : Fact) → Has facts f → Has facts g → (f ≡ g → ⊥) → clashes f g ≡ false
