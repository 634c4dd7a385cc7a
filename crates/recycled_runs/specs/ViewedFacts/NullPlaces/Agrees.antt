-- Two memories agree up to places that are gone.
use Rattle.std.specs.Prelude.{◌≡◌, ◌⊎◌, true, List, [], ◌∷◌}
use Rattle.machine.specs.Memory.{Slot, Variable, HeapCell, Memory, no_slot}
use Rattle.machine.specs.States.{State, Outcome, Goes, Ends}
use Rattle.recycled_runs.specs.ViewedFacts.NullPlaces.Cleared.{cleared_slot}

abbrev pub Pairwise : {A : Type 0} → (A → A → Type 0) → List A → List A → Type 0
Pairwise R [] [] = Unit {0}
Pairwise R (x ∷ xs) (y ∷ ys) = R x y × Pairwise R xs ys
Pairwise R _ _ = ⊥

-- The second slot is the first one; or the first one is gone, and the second one is gone or null.
abbrev pub AgreeSlot : Slot → Slot → Type 0
AgreeSlot x y = (x ≡ y) ⊎ ((x.gone ≡ true) × (cleared_slot y ≡ no_slot))

abbrev pub AgreeSlots : List Slot → List Slot → Type 0
AgreeSlots xs ys = Pairwise AgreeSlot xs ys

abbrev pub AgreeVariable : Variable → Variable → Type 0
AgreeVariable v w = (v.frame ≡ w.frame) × (v.object ≡ w.object) × AgreeSlots v.slots w.slots

abbrev pub AgreeCell : HeapCell → HeapCell → Type 0
AgreeCell c d = (c.of ≡ d.of) × (c.freed ≡ d.freed) × AgreeSlots c.slots d.slots

pub record Agrees (m n : Memory) : Type 0 where
  pub variables : Pairwise AgreeVariable m.variables n.variables
  pub cells : Pairwise AgreeCell m.cells n.cells
  pub peaks : m.peaks ≡ n.peaks

-- ---- states

-- The same state, but for its memory.
abbrev pub SameState : State → State → Type 0
SameState s t = (t ≡ record s { memory = t.memory }) × Agrees s.memory t.memory

abbrev pub SameOutcome : Outcome → Outcome → Type 0
SameOutcome (Goes s) (Goes t) = SameState s t
SameOutcome (Ends e s) (Ends f t) = (e ≡ f) × SameState s t
SameOutcome _ _ = ⊥
