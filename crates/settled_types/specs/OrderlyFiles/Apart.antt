-- Identifiers that stand apart from one another.
use Rattle.std.specs.Prelude.{◌≡◌, false, List, [], ◌∷◌}
use Rattle.machine.specs.spark_base.Lists.{Has}
use Rattle.name_events.specs.declared.declaration.Identified.{Identified}
use Rattle.name_events.specs.Identified.{same_position}

-- No two of them have one position.
abbrev pub AreApart : List Identified → Type 0
AreApart [] = Unit {0}
AreApart (item ∷ rest) = ((x : Identified) → Has rest x → same_position item.pos x.pos ≡ false) × AreApart rest
