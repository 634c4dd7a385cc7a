-- One access value that is moved where nothing else is: it is gone at once.
use Rattle.std.proofs.Common.{◌≡◌, false, List, [], ◌∷◌, sym, subst}
use Rattle.run_codes.specs.Flat.{Given, Spot, is_broken}
use Rattle.slot_heap.specs.Heaps.{Heap}
use Rattle.handled_runs.specs.Slots.{Slots}
use Rattle.handled_runs.specs.Changes.{settled}
use Rattle.slot_memory.specs.Memory.{Kept, Ghosts, Stands, Shows, Knows, Changes, slots}
use Rattle.slot_memory.specs.Moves.{IsThere, Clears, cleared}
use Rattle.slot_memory.proofs.Settled.{IsCleared, emptied_cleared, settled_given}
use Rattle.slot_memory.proofs.Settling.{bare}

module _ {R : Type 0} (Means : R → Heap → Type 0) (m : Kept R) (gone : Spot) where
  -- The access value is noted.
  abbrev noted : Kept R
  noted = record m { moves = gone ∷ [] }

  abbrev without : Ghosts → Ghosts
  without g = record g { moves = [] }

  stands_without : (g : Ghosts) → Stands Means noted g → m.moves ≡ [] → Stands Means m (without g)
  stands_without g stands none = record { cells = stands.cells; moves = none }

  cleared_alone : (g : Ghosts) → Stands Means noted g → (t : Slots) → settled (slots noted g) ≡ Given t
      → (cleared (slots m (without g)) gone ≡ t) × IsThere (slots m (without g)) gone
  cleared_alone g stands t is =
      let P : List Spot → Type 0 = λ l. IsCleared (bare (slots noted g)) l t in
      let alone = subst P (sym stands.moves) (emptied_cleared g.moves (bare (slots noted g)) t is) in (alone.0, alone.1.0)

  pub take_there : m.moves ≡ [] → Knows Means noted (λ s. is_broken (settled s) ≡ false) → Knows Means m (λ s. IsThere s gone)
  take_there none known =
      let g = known.0 in
      let t = settled_given (slots noted g) known.1.1 in
      (without g, (stands_without g known.1.0 none, (cleared_alone g known.1.0 t.0 t.1).1))

  pub take_shows : (n : Kept R) → m.moves ≡ [] → Clears Means m gone n → Changes Means noted settled n
  take_shows n none clears = λ g stands t is.
      let alone = cleared_alone g stands t is in
      let P : Slots → Type 0 = λ v. Shows Means n v in
      subst P alone.0 (clears (without g) (stands_without g stands none) alone.1)
