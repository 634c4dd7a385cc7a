-- How words over a heap that uses its slots again follow those over numbers that are never used again.
use Rattle.std.specs.Prelude.{◌≡◌, ◌<◌, ℕ, zero, suc, List, [], ◌∷◌, map, length, get_or, ℤ, pos, negsuc}
use Rattle.numbered_cells.specs.run_values.declared.value.Value.{Value}
use Rattle.numbered_cells.specs.run_values.declared.value.Kind.{Kind}
use Rattle.numbered_cells.specs.run_values.declared.value.Kind.TheVariants as sort
use Rattle.numbered_cells.specs.run_codes.Flat.{Flat, Got, Given, Stops, Broken, Stop, Raises, Traps, Memory, Spot, InStack, InCell}
use Rattle.numbered_cells.specs.kept_cells.Cells.{Cell}
use Rattle.numbered_cells.specs.Follows.{IsThere, Follows}
use Rattle.handled_runs.specs.Fits.{AreSmall}
use Rattle.handled_runs.specs.Slots.{Slots}

-- An access value with the handle of its number, and null where it is gone.
abbrev pub handle_word : List ℕ → ℤ → ℤ
handle_word handles (pos zero) = pos 0
handle_word handles (pos (suc n)) = pos (suc (get_or handles n 0))
handle_word handles (negsuc n) = pos 0

abbrev pub renamed : List ℕ → Kind → ℤ → ℤ
renamed handles sort.Access z = handle_word handles z
renamed handles sort.Int z = z
renamed handles sort.Enum z = z

-- Words of these kinds.
abbrev pub all_renamed : List ℕ → List Kind → List ℤ → List ℤ
all_renamed handles (k ∷ ks) (z ∷ zs) = renamed handles k z ∷ all_renamed handles ks zs
all_renamed handles ks zs = []

abbrev pub spot_renamed : List ℕ → Spot → Spot
spot_renamed handles (InStack n) = InStack n
spot_renamed handles (InCell n o) = InCell (get_or handles n 0) o

-- What is named has a number below a bound.
abbrev pub NamesWord : ℕ → Kind → ℤ → Type 0
NamesWord bound sort.Access (pos (suc n)) = n < bound
NamesWord bound sort.Access (pos zero) = Unit {0}
NamesWord bound sort.Access (negsuc n) = Unit {0}
NamesWord bound sort.Int z = Unit {0}
NamesWord bound sort.Enum z = Unit {0}

abbrev pub NameWords : ℕ → List Kind → List ℤ → Type 0
NameWords bound (k ∷ ks) (z ∷ zs) = NamesWord bound k z × NameWords bound ks zs
NameWords bound ks zs = Unit {0}

-- So of a spot.
abbrev pub NamesSpot : ℕ → Spot → Type 0
NamesSpot bound (InStack n) = Unit {0}
NamesSpot bound (InCell n o) = n < bound

-- Nothing is said where a freed cell is touched.
abbrev pub IsSilent : Stop → Type 0
IsSilent (Raises e) = ⊥
IsSilent (Traps t) = Unit {0}
IsSilent Memory = ⊥

-- What is read over both is given, and in relation, or it stops for the same reason. Nothing is said where what is
-- asked for isn't there over numbers.
abbrev pub GotsAlike : {A B : Type 0} → (A → B → Type 0) → Got A → Got B → Type 0
GotsAlike R (Given a) (Given b) = R a b
GotsAlike R (Given a) (Stops y) = ⊥
GotsAlike R (Given a) Broken = ⊥
GotsAlike R (Stops (Raises e)) g = g ≡ Stops (Raises e)
GotsAlike R (Stops (Traps t)) g = Unit {0}
GotsAlike R (Stops Memory) g = g ≡ Stops Memory
GotsAlike R Broken g = Unit {0}

-- What is given, as it is named there.
abbrev pub mapped : {A B : Type 0} → (A → B) → Got A → Got B
mapped f (Given a) = Given (f a)
mapped f (Stops s) = Stops s
mapped f Broken = Broken

-- A row has the numbers of the cells that are there, from 1.
abbrev pub Numbers : (ℕ → ℕ) → List ℕ → List Cell → Type 0
Numbers numbers handles cells = (n : ℕ) (ws : List Value) → IsThere cells n ws → numbers (get_or handles n 0) ≡ suc n

abbrev pub sizes_of : List Cell → List ℕ
sizes_of cells = map (λ (c : Cell). length c.words) cells

-- As many cells were made, of the same sizes.
abbrev pub AreMade : Slots → Flat → Type 0
AreMade s m = (s.made ≡ length m.cells) × (s.sizes ≡ sizes_of m.cells)

-- Words of the stack and of what waits are of these kinds, which no run keeps.
pub record Beside (handles : List ℕ) (kinds taken : List Kind) (m : Flat) (s : Slots) : Type 0 where
  pub stack : s.stack ≡ all_renamed handles kinds m.stack
  pub known : length kinds ≡ length m.stack
  pub waits : s.waits ≡ all_renamed handles taken m.waits
  pub base : s.base ≡ m.base
  pub live : s.live ≡ m.live
  pub made : AreMade s m
  pub freed : s.freed ≡ m.freed
  pub rest : s.rest ≡ m.rest
  pub cells : Follows handles m.cells s.heap
  pub numbered : Numbers s.numbers handles m.cells
  pub small : AreSmall handles
  -- access values name cells that were made
  pub names : NameWords (length handles) kinds m.stack
  pub waiting_names : NameWords (length handles) taken m.waits
