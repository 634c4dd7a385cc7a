use Rattle.std.proofs.Common.{◌≡◌, ◌+◌, ◌++◌, List, Some, true, map, length, take, drop}
use Rattle.run_values.specs.declared.value.Value.{Value}
use Rattle.run_codes.specs.Flat.{have_kinds}
use Rattle.slot_heap.specs.Heaps.{Heap, words_at}
use Rattle.handled_runs.specs.Slots.{slot_word}
use Rattle.slot_memory.proofs.heap.Heap.push_words.Given as goal

abbrev pub invariant-kinds : goal.invariant-kinds
invariant-kinds g l =
    (m : Heap) (ws : List Value) → g.R.Store.Means l.self.store m → words_at m.cells l.cell ≡ Some ws → have_kinds l.kinds (drop l.at ws) ≡ true
    → l.words.items ++ take (length (drop l.i l.kinds)) (drop (l.at + l.i) (map slot_word ws))
    ≡ l.initial.words.items ++ take (length l.kinds) (drop l.at (map slot_word ws))
