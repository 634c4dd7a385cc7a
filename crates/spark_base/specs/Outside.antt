-- What calls on the outside do to counts, streams and files (docs/TOOL.md, "The outside").
use Rattle.std.specs.Prelude.{◌≡◌, ℕ, ◌+◌, ◌-◌, ◌^◌, ◌≤◌, min, List, [], ◌∷◌, ◌++◌, Option, None, Some, if◌then◌else◌}
use Rattle.std.specs.Io.KnownBytes.{Appends}
use Rattle.std.specs.Str.{bytes_eq}

-- A count of faults rose. One that stands at its last value counts as risen.
abbrev pub Rose : ℕ → ℕ → Type 0
Rose before now = min (before + 1) (2 ^ 64 - 1) ≤ now

-- Some bytes of the front of a piece were appended.
abbrev pub AppendsPrefix : Option (List ℕ) → Option (List ℕ) → List ℕ → Type 0
AppendsPrefix old new piece = (front : List ℕ) × (back : List ℕ) × (piece ≡ front ++ back) × Appends old new front

-- The bytes of the first file with a name.
abbrev pub file_bytes : List (List ℕ × List ℕ) → List ℕ → Option (List ℕ)
file_bytes [] name = None
file_bytes (file ∷ files) name = if bytes_eq file.0 name then Some file.1 else file_bytes files name

-- A store that tells its files has the name, and these bytes are left of the open file.
abbrev pub Opens : Option (List (List ℕ × List ℕ)) → List ℕ → Option (List ℕ) → Type 0
Opens None name left = Unit {0}
Opens (Some files) name left = (bytes : List ℕ) × (file_bytes files name ≡ Some bytes) × (left ≡ Some bytes)

-- A store tells its files, and doesn't have the name.
abbrev pub Lacks : Option (List (List ℕ × List ℕ)) → List ℕ → Type 0
Lacks None name = ⊥
Lacks (Some files) name = file_bytes files name ≡ None
