-- The formals of subprograms, by their numbers and by their profiles.
use Rattle.std.specs.Prelude.{◌≡◌, ◌⊎◌, ◌<◌, ◌+◌, ℕ, Bool, true, List, [], ◌∷◌, length, get_or, nat_eq}
use Rattle.std.specs.List.{position_or_len}
use Rattle.machine.specs.type_definitions.declared.table.Entry.TheVariants as entry
use Rattle.machine.specs.type_definitions.declared.table.FormalInfo.{FormalInfo}
use Rattle.machine.specs.type_definitions.declared.table.Known.{Known}
use Rattle.machine.specs.type_definitions.declared.table.Shape.TheVariants as shape
use Rattle.machine.specs.place_names.declared.act.Mode.TheVariants as mode
use Rattle.machine.specs.type_definitions.Types.{Table, shape_of, full}
use Rattle.machine.specs.type_definitions.declared.table.Profile.{Profile}
use Rattle.machine.specs.type_definitions.Entries.{entry_of, same_word}
use Rattle.machine.specs.type_definitions.Expressions.{is_anonymous, by_name, no_formal, profile_of}
use Rattle.machine.specs.flow_paths.Objects.{Typing, object_at, sub_at, traverses}
use Rattle.soundness.specs.TypedLaws.Fine.{Agree}
use Rattle.soundness.specs.TypedLaws.TypedSteps.Steps.{GoesThrough}

-- Two access types that designate one type.
abbrev pub AreSameViews : Table → ℕ → ℕ → Type 0
AreSameViews table t u =
    (d : ℕ) × (k : ℕ) × (c : Bool) × (n : Bool) × (e : Bool) × (m : Bool)
    × (shape_of table t ≡ shape.Access d c n) × (shape_of table u ≡ shape.Access k e m) × Agree table d k

-- The object of a formal has its mode, and a type that agrees with that of the profile; where a traversal goes through
-- it, the body may have an anonymous access type of its own.
abbrev pub IsFormal : Typing → ℕ → FormalInfo → Type 0
IsFormal y x f =
    ((object_at y x).mode ≡ f.mode)
    × (Agree y.table f.of (object_at y x).of
    ⊎ ((f.traversed ≡ true) × (f.mode ≡ mode.In) × (is_anonymous (full y.table f.of) ≡ true) × (is_anonymous (full y.table (object_at y x).of) ≡ true)
    × AreSameViews y.table f.of (object_at y x).of))

abbrev pub AreFormals : Typing → List ℕ → List FormalInfo → Type 0
AreFormals y [] [] = Unit {0}
AreFormals y (x ∷ xs) (f ∷ fs) = IsFormal y x f × AreFormals y xs fs
AreFormals y xs fs = ⊥

abbrev pub formals_of : Known → ℕ → List FormalInfo
formals_of known d = (profile_of (entry_of known d)).formals

-- What is asked of a subprogram that is called. `made` says of which numbers stand for types.
pub record IsProfiled (known : Known) (bodies : List ℕ) (y : Typing) (made : ℕ → Type 0) (d : ℕ) : Type 0 where
  pub formals : AreFormals y (sub_at y (position_or_len (nat_eq d) bodies + 1)).formals (formals_of known d)
  pub result : (sub_at y (position_or_len (nat_eq d) bodies + 1)).result ≡ (profile_of (entry_of known d)).result
  pub types : (i : ℕ) → made (get_or (formals_of known d) i no_formal).of
  -- no two formals have one name, in any case of letters
  pub names : (k : ℕ) (v : List ℕ) → k < length (formals_of known d) → same_word (get_or (formals_of known d) k no_formal).name v ≡ true
      → by_name (λ (f : FormalInfo). f.name) no_formal v (formals_of known d) ≡ get_or (formals_of known d) k no_formal
  pub through : GoesThrough y (sub_at y (position_or_len (nat_eq d) bodies + 1))
  -- what a traversal goes through is its first formal
  pub first : traverses y.table (sub_at y (position_or_len (nat_eq d) bodies + 1)).result ≡ true → (f : FormalInfo) (rest : List FormalInfo)
      → formals_of known d ≡ f ∷ rest → f.traversed ≡ true

-- So it is of all subprograms.
abbrev pub AreProfiled : Known → List ℕ → Typing → (ℕ → Type 0) → Type 0
AreProfiled known bodies y made = (d : ℕ) (p : Profile) → entry_of known d ≡ entry.Subprogram p → IsProfiled known bodies y made d
