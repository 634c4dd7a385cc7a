use Rattle.std.proofs.Common.{ℕ, ◌+◌, set, ap, sym, subst, ◌∙◌, w64, to_z, of_z}
use Rattle.std.proofs.lemmas.Int.{to_z-of_z}
use Rattle.run_values.specs.Values.{kind}
use Rattle.slot_heap.specs.Heaps.{written}
use Rattle.slot_heap.specs.Runs.{Kept}
use Rattle.slot_heap.proofs.Held.{held}
use Rattle.slot_heap.proofs.Written.{kept-written}
use Rattle.word_heap.specs.Codes.{IsCode}
use Rattle.word_heap.proofs.word_store.WordStoreStore.write.Goals as goal

pub returns : goal.returns
returns c = λ m means holds.
    let s = c.args.self.now in
    let it = held m c.args.h c.args.at (kind c.args.v) holds in
    let w = to_z w64 (of_z w64 c.code.result) in
    let is : IsCode w c.args.v = (to_z-of_z w64 c.code.result (record { sfits = c.code.type_inv }) ∙ c.code.ensures.value, c.code.ensures.fits) in
    let place = ap (λ n. n + c.args.at) c.number.ensures.value in
    let P : ℕ → Type 0 = λ i. Kept IsCode (set s.words.items i w) s.heads.items (written m c.args.h c.args.at c.args.v) in
    (subst P (sym place) (kept-written IsCode c.args.h c.args.at w c.args.v it.value it.words is it.cell it.place means.0), means.1)
