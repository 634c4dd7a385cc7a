use Rattle.std.proofs.Common.{refl}
use Rattle.slot_heap.specs.Stores.{IsItself}
use Rattle.slot_heap.proofs.Made.{kept-none}
use Rattle.slot_heap.proofs.reuse_store.ReuseStore.new.Goals as goal

pub returns : goal.returns
returns c =
    (rw (c.new.ensures.items, c.new-2.ensures.items) (kept-none IsItself), refl)
