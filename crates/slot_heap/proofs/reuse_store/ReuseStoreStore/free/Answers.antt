use Rattle.std.proofs.Common.{ℕ, set, length, sym, subst, refl}
use Rattle.run_values.specs.declared.value.Value.TheVariants as value
use Rattle.slot_heap.specs.Heaps.{released}
use Rattle.slot_heap.specs.Runs.{Kept, link}
use Rattle.slot_heap.specs.Stores.{IsItself}
use Rattle.slot_heap.proofs.Held.{sized, first_stands, code_read}
use Rattle.slot_heap.proofs.Freed.{kept-freed}
use Rattle.slot_heap.proofs.reuse_store.ReuseStoreStore.free.Goals as goal

pub returns : goal.returns
returns c = λ m means is.
    let s = c.args.self.now in
    let w = c.index.result.now in
    let it = sized m c.args.h c.args.size is in
    let n = length it.words in
    let cell = means.0.cells c.args.h it.words it.cell in
    let head = code_read IsItself s.heads.items c.args.size n (link (means.0.frees n)) w (sym it.size) c.index.ensures (first_stands IsItself means.0 n cell.sized) in
    let freed = kept-freed IsItself c.args.h w (value.Cell c.args.h) it.words it.cell means.0 head refl in
    let P : ℕ → Type 0 = λ i. Kept IsItself (set s.words.items i w) (set s.heads.items n (value.Cell c.args.h)) (released m c.args.h) in
    let Q : ℕ → Type 0 = λ j. Kept IsItself (set s.words.items c.number-start.result w) (set s.heads.items j (value.Cell c.args.h)) (released m c.args.h) in
    (subst Q it.size (subst P (sym c.number-start.ensures.value) freed), means.1)
