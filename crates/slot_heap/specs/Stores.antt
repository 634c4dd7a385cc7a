-- What the words of a store mean.
use Rattle.std.specs.Prelude.{◌≡◌, length}
use Rattle.run_values.specs.declared.value.Value.{Value}
use Rattle.slot_heap.specs.Heaps.{Heap}
use Rattle.slot_heap.specs.Runs.{Kept}
use Rattle.slot_heap.specs.declared.reuse_store.ReuseStore.{ReuseStore}

-- Each value stands for itself.
abbrev pub IsItself : Value → Value → Type 0
IsItself w v = w ≡ v

abbrev pub Means : ReuseStore → Heap → Type 0
Means s m = Kept IsItself s.words.items s.heads.items m × (s.count ≡ length m.slots)
