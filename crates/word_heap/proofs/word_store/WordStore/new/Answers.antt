use Rattle.std.proofs.Common.{refl}
use Rattle.slot_heap.proofs.Made.{kept-none}
use Rattle.word_heap.specs.Codes.{IsCode}
use Rattle.word_heap.proofs.word_store.WordStore.new.Goals as goal

pub returns : goal.returns
returns c =
    (rw (c.new.ensures.items, c.new-2.ensures.items) (kept-none IsCode), refl)
