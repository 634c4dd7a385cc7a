-- What is asked of what is copied back as calls end: the kinds of words.
use Rattle.std.specs.Prelude.{◌≡◌, ◌+◌, ℕ, List, [], ◌∷◌, take}
use Rattle.handled_runs.specs.type_definitions.declared.judgement.View.{View}
use Rattle.handled_runs.specs.type_definitions.declared.judgement.View.TheVariants as view
use Rattle.handled_runs.specs.type_definitions.Types.{Table, full}
use Rattle.handled_runs.specs.run_values.declared.value.Kind.{Kind}
use Rattle.handled_runs.specs.run_codes.Flat.{InStack, kinds}
use Rattle.handled_runs.specs.run_codes.Points.{Return, Frame}
use Rattle.handled_runs.specs.Looks.{IsData}
use Rattle.handled_runs.specs.Marks.{Stands}

-- One word of such a kind.
abbrev pub IsOneData : List Kind → Type 0
IsOneData ks = (k : Kind) × (ks ≡ k ∷ []) × IsData k

-- A value that has to lie within bounds names no cell.
abbrev pub FitsOf : View → List Kind → Type 0
FitsOf (view.Whole low high) ks = IsOneData ks
FitsOf (view.Listed low high) ks = IsOneData ks
FitsOf _ ks = Unit {0}

-- A formal of a frame that begins there, and where it is copied back to.
abbrev pub LooksReturn : Table → ℕ → List Kind → Return → Type 0
LooksReturn table base here r =
    Stands here (InStack (base + r.at)) (kinds table r.from)
    × (kinds table r.from ≡ kinds table r.of)
    × FitsOf (full table r.of) (kinds table r.from)
    × Stands here r.to (kinds table r.of)

abbrev pub LooksBack : Table → ℕ → List Return → List Kind → Type 0
LooksBack table base [] here = Unit {0}
LooksBack table base (r ∷ rest) here = LooksReturn table base here r × LooksBack table base rest here

-- So it is of each frame, with those below it.
abbrev pub LookBack : Table → List Kind → List Frame → Type 0
LookBack table here [] = Unit {0}
LookBack table here (f ∷ fs) = LooksBack table f.base f.returns here × LookBack table (take f.base here) fs
