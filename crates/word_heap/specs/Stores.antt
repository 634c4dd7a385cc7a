-- What the words of a store mean.
use Rattle.std.specs.Prelude.{◌≡◌, length}
use Rattle.slot_heap.specs.Heaps.{Heap}
use Rattle.slot_heap.specs.Runs.{Kept}
use Rattle.word_heap.specs.Codes.{IsCode}
use Rattle.word_heap.specs.declared.word_store.WordStore.{WordStore}

abbrev pub Means : WordStore → Heap → Type 0
Means s m = Kept IsCode s.words.items s.heads.items m × (s.count ≡ length m.slots)
