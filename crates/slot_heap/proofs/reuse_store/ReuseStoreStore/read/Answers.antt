use Rattle.std.proofs.Common.{◌+◌, Some, ap, sym, ◌∙◌}
use Rattle.slot_heap.specs.Stores.{IsItself}
use Rattle.slot_heap.proofs.Held.{held, held_stands, code_read}
use Rattle.slot_heap.proofs.reuse_store.ReuseStoreStore.read.Goals as goal

pub returns : goal.returns
returns c = λ m means holds.
    let it = held m c.args.h c.args.at c.args._kind holds in
    let place = ap (λ n. n + c.args.at) c.number.ensures.value in
    let is = code_read IsItself c.args.self.now.words.items _ (c.args.h + c.args.at) it.value c.index.result.now place c.index.ensures (held_stands IsItself means.0 it) in
    it.word ∙ ap Some (sym is)
