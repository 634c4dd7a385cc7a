-- What is asked of what values read, and that both heaps give the same then.
use Rattle.std.specs.Prelude.{◌≡◌, ◌≤◌, ◌⊎◌, ℕ, zero, suc, List, [], ◌∷◌, ◌++◌, take, drop, length, ℤ}
use Rattle.numbered_cells.specs.type_definitions.Types.{Table}
use Rattle.numbered_cells.specs.run_values.declared.value.Kind.{Kind}
use Rattle.numbered_cells.specs.run_values.declared.value.Kind.TheVariants as sort
use Rattle.numbered_cells.specs.run_codes.Codes.{Place, Fill, Checked, Pointer, MovedPointer, Copied, Moved, Waited, New, Default, Repeated, Both, Empty}
use Rattle.numbered_cells.specs.run_codes.Flat.{Flat, Made, Done, Halted, Failed, Given, Stop, Memory, Spot, InStack, InCell, spot, kinds, default_words}
use Rattle.handled_runs.specs.Slots.{Slots}
use Rattle.handled_runs.specs.Values.{Outcome, Gives, Ends, Fails}
use Rattle.handled_runs.specs.Beside.{IsSilent, all_renamed, NameWords}
use Rattle.handled_runs.specs.Looks.{IsData, IsNumber, Looks, LooksAt, IsFront, AreKept}
use Rattle.handled_runs.specs.Marks.{During}

-- ---- what is asked

-- Words of these kinds stand at a spot, if it is one of the stack. (Cells have their kinds.)
abbrev pub StandAt : Flat → List Kind → Spot → List Kind → Type 0
StandAt m here (InStack n) ks = IsFront ks (drop n here) × (n ≤ length m.stack)
StandAt m here (InCell n o) ks = Unit {0}

-- In whichever memory whose frame begins there.
abbrev pub Wherever : ℕ → (Flat → Type 0) → Type 0
Wherever base P = (m : Flat) → m.base ≡ base → P m

abbrev pub LooksThere : ℕ → List Kind → List Kind → Place → List Kind → Type 0
LooksThere base here taken p ks = Wherever base (λ m. LooksAt m here taken p × ((q : Spot) → spot m p ≡ Given q → StandAt m here q ks))

-- Words that name no cell.
abbrev pub AreNumbers : List Kind → List ℤ → Type 0
AreNumbers [] [] = Unit {0}
AreNumbers (k ∷ ks) (z ∷ zs) = IsNumber k z × AreNumbers ks zs
AreNumbers _ _ = ⊥

abbrev pub kinds_repeated : ℕ → List Kind → List Kind
kinds_repeated zero ks = []
kinds_repeated (suc n) ks = ks ++ kinds_repeated n ks

-- The words that it gives have kinds, the last ones. The words of the stack and of the values that the point takes
-- have the first ones, before and after.
unfoldable pub LooksFill : Table → ℕ → List Kind → List Kind → Fill → List Kind → Type 0
LooksFill table base here taken (Checked c low high) ks =
    (k : Kind) × (ks ≡ k ∷ []) × IsData k × Wherever base (λ m. Looks m here taken c k)
LooksFill table base here taken (Pointer c) ks = (ks ≡ sort.Access ∷ []) × Wherever base (λ m. Looks m here taken c sort.Access)
LooksFill table base here taken (MovedPointer p) ks = (ks ≡ sort.Access ∷ []) × LooksThere base here taken p (sort.Access ∷ [])
LooksFill table base here taken (Copied p of) ks = (ks ≡ kinds table of) × LooksThere base here taken p (kinds table of)
LooksFill table base here taken (Moved p of) ks = (ks ≡ kinds table of) × LooksThere base here taken p (kinds table of)
LooksFill table base here taken (Waited at n) ks = (ks ≡ take n (drop at taken)) × (length ks ≡ n)
LooksFill table base here taken (New v of) ks = (ks ≡ sort.Access ∷ []) × LooksFill table base here taken v (kinds table of)
LooksFill table base here taken (Default of) ks = AreNumbers ks (default_words table of)
LooksFill table base here taken (Repeated v n) ks =
    (js : List Kind) × (ks ≡ kinds_repeated n js) × LooksFill table base here taken v js
LooksFill table base here taken (Both a b) ks =
    (is : List Kind) × (js : List Kind) × (ks ≡ is ++ js) × LooksFill table base here taken a is × LooksFill table base here taken b js
LooksFill table base here taken Empty ks = ks ≡ []

-- ---- the same outcome

-- The words are the same but for names. The cells that were made meanwhile have handles, too.
pub record Alike (handles : List ℕ) (here taken ks : List Kind) (zs : List ℤ) (m : Flat) (us : List ℤ) (s : Slots) : Type 0 where
  pub more : List ℕ
  pub words : us ≡ all_renamed (handles ++ more) ks zs
  pub known : length ks ≡ length zs
  pub names : NameWords (length (handles ++ more)) ks zs
  pub kept : AreKept ks zs
  pub during : During (handles ++ more) here taken m s

abbrev pub GoOn : List ℕ → List Kind → List Kind → Flat → Slots → Type 0
GoOn handles here taken m s = (more : List ℕ) × During (handles ++ more) here taken m s

-- They stop for the same reason, but for where nothing is said. Over the heap memory may be out alone.
abbrev pub StopsAlike : List ℕ → List Kind → List Kind → Stop → Flat → Outcome → Type 0
StopsAlike handles here taken x m (Gives us s) = IsSilent x
StopsAlike handles here taken x m (Ends y s) = IsSilent x ⊎ ((y ≡ Memory) ⊎ ((x ≡ y) × GoOn handles here taken m s))
StopsAlike handles here taken x m Fails = IsSilent x

abbrev pub AreAlike : List ℕ → List Kind → List Kind → List Kind → Made (List ℤ) → Outcome → Type 0
AreAlike handles here taken ks (Done zs m) (Gives us s) = Alike handles here taken ks zs m us s
AreAlike handles here taken ks (Done zs m) (Ends x s) = x ≡ Memory
AreAlike handles here taken ks (Done zs m) Fails = ⊥
AreAlike handles here taken ks (Halted x m) r = StopsAlike handles here taken x m r
AreAlike handles here taken ks Failed r = Unit {0}
