use Rattle.std.proofs.Common.{ℕ, set, length, sym, subst, ◌∙◌, rules, w64, to_z, of_z, SFits}
use Rattle.std.proofs.lemmas.Int.{to_z-of_z}
use Rattle.run_values.specs.declared.value.Value.TheVariants as value
use Rattle.slot_heap.specs.Heaps.{released}
use Rattle.slot_heap.specs.Runs.{Kept, link}
use Rattle.slot_heap.proofs.Held.{sized, first_stands, code_read}
use Rattle.slot_heap.proofs.Freed.{kept-freed}
use Rattle.word_heap.specs.Codes.{IsCode}
use Rattle.word_heap.proofs.word_store.WordStoreStore.free.Goals as goal

pub returns : goal.returns
returns c = λ m means is.
    let s = c.args.self.now in
    let head = c.index.result.now in
    let fits : SFits w64 head = search rules in
    let w = to_z w64 (of_z w64 head) in
    let d = to_z w64 (of_z w64 c.code.result) in
    let it = sized m c.args.h c.args.size is in
    let n = length it.words in
    let cell = means.0.cells c.args.h it.words it.cell in
    let first = code_read IsCode s.heads.items c.args.size n (link (means.0.frees n)) head (sym it.size) c.index.ensures (first_stands IsCode means.0 n cell.sized) in
    let first_w : IsCode w (link (means.0.frees n)) = (to_z-of_z w64 head fits ∙ first.0, first.1) in
    let this : IsCode d (value.Cell c.args.h) = (to_z-of_z w64 c.code.result (record { sfits = c.code.type_inv }) ∙ c.code.ensures.value, c.code.ensures.fits) in
    let freed = kept-freed IsCode c.args.h w d it.words it.cell means.0 first_w this in
    let P : ℕ → Type 0 = λ i. Kept IsCode (set s.words.items i w) (set s.heads.items n d) (released m c.args.h) in
    let Q : ℕ → Type 0 = λ j. Kept IsCode (set s.words.items c.number-start.result w) (set s.heads.items j d) (released m c.args.h) in
    (subst Q it.size (subst P (sym c.number-start.ensures.value) freed), means.1)
