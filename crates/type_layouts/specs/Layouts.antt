-- What is kept of types is right.
use Rattle.std.specs.Prelude.{◌≡◌, ℕ, suc, List, [], ◌∷◌, true, IsTrue}
use Rattle.type_definitions.specs.Types.{Table}
use Rattle.machine.specs.Words.{access_offsets}
use Rattle.run_codes.specs.Flat.{kinds, are_pointers}
use Rattle.type_words.specs.Pointers.{is_pointer}
use Rattle.type_layouts.specs.declared.layouts.Layout.{Layout}

-- Of the words of a type.
abbrev pub IsKept : Table → ℕ → Layout → Type 0
IsKept table t l =
    (l.kinds.items ≡ kinds table t) × (l.offsets.items ≡ access_offsets table t) × (are_pointers (kinds table t) (access_offsets table t) ≡ true)

abbrev pub IsLaid : Table → ℕ → Layout → Type 0
IsLaid table t l = (l.pointer ≡ is_pointer table t) × (IsTrue l.kept → IsKept table t l)

-- Those of the types from a number on.
abbrev pub AreLaid : Table → ℕ → List Layout → Type 0
AreLaid table t [] = Unit {0}
AreLaid table t (l ∷ rows) = IsLaid table t l × AreLaid table (suc t) rows
