-- What is moved, one access value after the other.
use Rattle.std.specs.Prelude.{◌<◌, List, [], ◌∷◌, map, length, set, pos}
use Rattle.run_values.specs.declared.value.Value.TheVariants as value
use Rattle.run_values.specs.declared.value.Kind.TheVariants as sort
use Rattle.run_codes.specs.Flat.{Spot, InStack, InCell}
use Rattle.slot_heap.specs.Heaps.{Heap, Holds, written}
use Rattle.handled_runs.specs.Slots.{Slots}
use Rattle.handled_runs.specs.Changes.{with_stack, with_heap}
use Rattle.slot_memory.specs.declared.spot.Move.{Move}
use Rattle.slot_memory.specs.Memory.{Kept, Ghosts, Stands, Shows, slots, beyond}
use Rattle.slot_memory.specs.Spots.{spot_of}

abbrev pub moved_spot : Move → Spot
moved_spot m = beyond (spot_of m.spot) m.offset

abbrev pub moved_spots : List Move → List Spot
moved_spots moves = map moved_spot moves

-- An access value stands at a spot.
abbrev pub IsThere : Slots → Spot → Type 0
IsThere s (InStack n) = n < length s.stack
IsThere s (InCell h o) = Holds s.heap h o sort.Access

-- Null stands there.
abbrev pub cleared : Slots → Spot → Slots
cleared s (InStack n) = with_stack s (set s.stack n (pos 0))
cleared s (InCell h o) = with_heap s (written s.heap h o value.Null)

abbrev pub all_cleared : List Spot → Slots → Slots
all_cleared [] s = s
all_cleared (q ∷ rest) s = all_cleared rest (cleared s q)

-- An access value stands at each spot, once the ones before it are cleared.
abbrev pub AreThere : Slots → List Spot → Type 0
AreThere s [] = Unit {0}
AreThere s (q ∷ rest) = IsThere s q × AreThere (cleared s q) rest

-- Whatever slots a memory stood for, null stands at the spot now, if an access value stood there.
abbrev pub Clears : {R : Type 0} → (R → Heap → Type 0) → Kept R → Spot → Kept R → Type 0
Clears Means before q now = (g : Ghosts) → Stands Means before g → IsThere (slots before g) q → Shows Means now (cleared (slots before g) q)
