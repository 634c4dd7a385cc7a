use Rattle.std.proofs.Common.{◌≡◌, ℕ}
use Rattle.slot_heap.specs.Heaps.{Heap}
use Rattle.slot_memory.specs.Cells.{Keep}
use Rattle.slot_memory.specs.Given.{AreLive}
use Rattle.slot_memory.proofs.Given.{left_below}
use Rattle.slot_memory.proofs.heap.Heap.give_up.Given as goal

abbrev pub invariant-handles : goal.invariant-handles
invariant-handles g l = record {
  keep : (heap : Heap) (numbers : ℕ → ℕ) → Keep g.R.Store.Means l.initial.self heap numbers → AreLive l.made heap numbers
      → Keep g.R.Store.Means l.self (record heap { cells = left_below l.made numbers l.i heap.cells }) numbers;
  made : l.self.made ≡ l.initial.self.made;
  lent : l.self.lent ≡ l.initial.self.lent;
}
