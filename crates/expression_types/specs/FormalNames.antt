-- What indexes of the names of formals find.
use Rattle.std.specs.Prelude.{◌≡◌, ℕ, List, get_or, slice_get, Option, Some}
use Rattle.type_definitions.specs.declared.table.Entry.{Entry}
use Rattle.type_definitions.specs.declared.table.Entry.TheVariants.{Nothing}
use Rattle.type_definitions.specs.declared.table.FormalInfo.{FormalInfo}
use Rattle.type_definitions.specs.Expressions.{profile_of}
use Rattle.expression_types.specs.Occurrences.{Entries, Indexes, formal_names}

-- The formals of a subprogram, by the number of its declaration; none of another declaration.
abbrev pub own_formals : List Entry → ℕ → List FormalInfo
own_formals declared f = (profile_of (get_or declared f Nothing)).formals

-- Each index is that of the formals of its subprogram.
abbrev pub FindAllFormals : List (Option Entries) → List Entry → Type 0
FindAllFormals indexes declared =
    (f : ℕ) (index : Entries) → slice_get indexes f ≡ Some (Some index) → Indexes index (formal_names (own_formals declared f))
