use Rattle.std.proofs.Common.{◌+◌, Some, ap, sym, ◌∙◌, rules, w64, SFits}
use Rattle.std.proofs.lemmas.Int.{to_z-of_z}
use Rattle.word_heap.specs.Codes.{IsCode}
use Rattle.slot_heap.proofs.Held.{held, held_stands, code_read}
use Rattle.word_heap.proofs.word_store.WordStoreStore.read.Goals as goal

pub decoded-requires : goal.decoded-requires
decoded-requires c =
    let w = c.index.result.now in
    let fits : SFits w64 w = search rules in
    let it = held c.requires.0 c.args.h c.args.at c.args.kind c.requires.1.1 in
    let place = ap (λ n. n + c.args.at) c.number.ensures.value in
    let is = code_read IsCode c.args.self.now.words.items _ (c.args.h + c.args.at) it.value w place c.index.ensures (held_stands IsCode c.requires.1.0.0 it) in
    (it.value, ((to_z-of_z w64 w fits ∙ is.0, is.1), it.of))

pub returns : goal.returns
returns c = λ m means holds.
    let w = c.index.result.now in
    let fits : SFits w64 w = search rules in
    let it = held m c.args.h c.args.at c.args.kind holds in
    let place = ap (λ n. n + c.args.at) c.number.ensures.value in
    let is = code_read IsCode c.args.self.now.words.items _ (c.args.h + c.args.at) it.value w place c.index.ensures (held_stands IsCode means.0 it) in
    it.word ∙ ap Some (sym (c.decoded.ensures it.value (to_z-of_z w64 w fits ∙ is.0, is.1) it.of))
