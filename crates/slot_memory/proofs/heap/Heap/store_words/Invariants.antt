use Rattle.std.proofs.Common.{◌≡◌, ◌+◌, drop}
use Rattle.slot_heap.specs.Heaps.{Heap}
use Rattle.handled_runs.specs.Changes.{slot_values, written_all}
use Rattle.slot_memory.specs.Cells.{Have}
use Rattle.slot_memory.proofs.Heaps.{Storing}
use Rattle.slot_memory.proofs.heap.Heap.store_words.Given as goal

abbrev pub invariant-kinds : goal.invariant-kinds
invariant-kinds g l = record {
  storing : (m : Heap) → g.R.Store.Means l.initial.self.store m → Have m l.cell l.at l.kinds
      → Storing g.R.Store.Means l.self.store (written_all m l.cell l.at (slot_values l.kinds l.words)) l.cell (l.at + l.i) (drop l.i l.kinds) (drop l.i l.words);
  unchanged : l.self ≡ record l.initial.self { store = l.self.store };
}
