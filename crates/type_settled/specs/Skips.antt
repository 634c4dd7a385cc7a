-- The types that are looked at.
use Rattle.std.specs.Prelude.{◌||◌, Bool, true, not, List, set, if◌then◌else◌}
use Rattle.type_definitions.specs.declared.table.Made.{Made}
use Rattle.type_settled.specs.declared.measure.Measure.{Measure}
use Rattle.type_settled.specs.Measures.{marked}

-- With a mark at a type whose declaration breaks a sentence.
abbrev pub marked_with : Made → List Bool → List Bool
marked_with m marks = if m.sound then marks else set marks m.number true

-- A subtype isn't looked at, nor a type that is unsound, nor one that has such a type in it.
abbrev pub skips : List Bool → Measure → Made → Bool
skips marks measure m = not m.full || (marked marks m.number || measure.unsound)
