use Rattle.std.proofs.Common.{ℕ, ◌+◌, set, ap, sym, subst, refl}
use Rattle.run_values.specs.Values.{kind}
use Rattle.slot_heap.specs.Heaps.{written}
use Rattle.slot_heap.specs.Runs.{Kept}
use Rattle.slot_heap.specs.Stores.{IsItself}
use Rattle.slot_heap.proofs.Held.{held}
use Rattle.slot_heap.proofs.Written.{kept-written}
use Rattle.slot_heap.proofs.reuse_store.ReuseStoreStore.write.Goals as goal

pub returns : goal.returns
returns c = λ m means holds.
    let s = c.args.self.now in
    let it = held m c.args.h c.args.at (kind c.args.v) holds in
    let place = ap (λ n. n + c.args.at) c.number.ensures.value in
    let P : ℕ → Type 0 = λ i. Kept IsItself (set s.words.items i c.args.v) s.heads.items (written m c.args.h c.args.at c.args.v) in
    (subst P (sym place) (kept-written IsItself c.args.h c.args.at c.args.v c.args.v it.value it.words refl it.cell it.place means.0), means.1)
