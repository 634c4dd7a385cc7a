use Rattle.std.proofs.Common.{◌≡◌}
use lib.Seq.{paste}
use Rattle.slot_heap.specs.Words.{slot_values}
use Rattle.slot_heap.proofs.reuse_store.put.Given as goal

-- those before are put
abbrev pub invariant-words : goal.invariant-words
invariant-words l = l.values.items ≡ paste l.initial.values.items l.start (slot_values l.kinds l.words) l.i
