-- How the declarations of a text are numbered: each has the next number, or that of the one that it completes.
use Rattle.std.specs.Prelude.{◌≡◌, ◌⊎◌, ◌<◌, ◌≤◌, ℕ, suc, Bool, true, false, List, [], ◌∷◌, Option, Some, None, slice_get}
use Rattle.name_events.specs.declared.declaration.DeclarationForm.{DeclarationForm}
use Rattle.name_events.specs.declared.declaration.DeclarationForm.TheVariants as form
use Rattle.name_events.specs.declared.declaration.DeclKind.{DeclKind}
use Rattle.name_events.specs.declared.declaration.DeclKind.TheVariants as kind
use Rattle.name_events.specs.Declarations.{Entry}
use Rattle.name_events.specs.Denotes.{kind_of}
use Rattle.sound_files.specs.MeantFiles.Declarations.{Declarations}

-- Full types and bodies complete others.
abbrev pub is_completing : DeclarationForm → Bool
is_completing form.FullType = true
is_completing form.ProcedureBody = true
is_completing form.FunctionBody = true
is_completing _ = false

-- From the k-th declaration on, up to the j-th.
abbrev pub Counts : ℕ → Declarations → ℕ → Type 0
Counts k [] j = k ≡ j
Counts k (x ∷ rest) j =
    ((x.1 ≡ k) × Counts (suc k) rest j) ⊎ ((15 ≤ x.1) × (x.1 < k) × (is_completing x.0 ≡ true) × Counts k rest j)

-- What kind of declaration has a number.
abbrev pub kind_found : Option Entry → DeclKind
kind_found None = kind.Predefined
kind_found (Some x) = kind_of x.1.form

abbrev pub kind_at : List Entry → ℕ → DeclKind
kind_at entries n = kind_found (slice_get entries n)
