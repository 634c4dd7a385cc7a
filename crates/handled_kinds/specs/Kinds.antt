-- Words of objects in the stack have the kinds of their types.
use Rattle.std.specs.Prelude.{◌≡◌, ◌≤◌, ℕ, ◌+◌, true, List, [], ◌∷◌, ◌++◌, map, flat_map, drop, length, slice_get, Some, ℤ, unsigned_abs}
use Rattle.run_values.specs.declared.value.Kind.{Kind}
use Rattle.run_values.specs.declared.value.Kind.TheVariants as sort
use Rattle.type_definitions.specs.Types.{Table, words}
use Rattle.flow_paths.specs.Objects.{Typing, object_at, is_package_object}
use Rattle.flow_paths.specs.Objects as objects
use Rattle.run_codes.specs.Codes.{Place, InFrame, InPackages, Behind}
use Rattle.run_codes.specs.Flat.{Flat, Given, kinds, word}
use Rattle.run_codes.specs.Points.{sub_at}
use Rattle.run_codes.specs.Programs.{Program, is_loop}
use Rattle.handled_steps.specs.Alike.{frame_kinds}
use Rattle.run_codes.specs.Lowered.{Site, offset_of, package_offset, words_before_value}
use Rattle.handled_runs.specs.Looks.{Looks, IsFront}

-- Words of a type stand at a place of the stack.
abbrev pub PlaceKinds : Table → Flat → List Kind → List Kind → Place → ℕ → Type 0
PlaceKinds table m here taken (InFrame at i) of =
    Looks m here taken i sort.Int × ((o : ℤ) → word m i ≡ Given o → IsFront (kinds table of) (drop (m.base + at + unsigned_abs o) here))
PlaceKinds table m here taken (InPackages at i) of =
    Looks m here taken i sort.Int × ((o : ℤ) → word m i ≡ Given o → IsFront (kinds table of) (drop (at + unsigned_abs o) here))
PlaceKinds table m here taken (Behind p at i) of = Looks m here taken i sort.Int × Looks m here taken p sort.Access

-- The words of objects in the stack, and those of the values that the point takes, have the kinds of their types.
pub record HasKinds (c : Site) (base : ℕ) (here taken : List Kind) : Type 0 where
  pub own : (x at : ℕ) → offset_of c x ≡ Some at → IsFront (kinds c.typing.table (object_at c.typing x).of) (drop (base + at) here)
  pub within : (x at : ℕ) → offset_of c x ≡ Some at → base + at ≤ length here
  -- the words of a loop lie after its parameter
  pub loops : (x at : ℕ) → is_loop x c.own ≡ true → offset_of c x ≡ Some at
      → IsFront (sort.Int ∷ sort.Int ∷ sort.Int ∷ []) (drop (base + (at + words c.typing.table (object_at c.typing x).of)) here)
  pub packages : (x at : ℕ) → package_offset c x ≡ Some at → is_package_object c.typing x ≡ true
      → IsFront (kinds c.typing.table (object_at c.typing x).of) (drop at here)
  pub waits : (k t : ℕ) → slice_get c.takes k ≡ Some t → IsFront (kinds c.typing.table t) (drop (words_before_value c k) taken)

-- Subprograms are lowered with the types of their formals, whose words begin a frame.
abbrev pub HaveFormals : Typing → Program → Type 0
HaveFormals s program =
    (sub : ℕ)
    → ((sub_at program sub).formals ≡ map (λ x. (object_at s x).of) (objects.sub_at s sub).formals)
    × ((more : List Kind) × (frame_kinds s.table (sub_at program sub) ≡ flat_map (kinds s.table) (sub_at program sub).formals ++ more))
