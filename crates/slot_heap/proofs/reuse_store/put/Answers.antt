use Rattle.std.proofs.Common.{◌≡◌, ◌+◌, ◌<◌, ◌++◌, length, take, drop, get_or, pos, ap, sym, ◌∙◌, arith, rules, w64, SFits, append_assoc}
use Rattle.std.proofs.lemmas.Int.{to_z-of_z}
use Rattle.std.proofs.lemmas.List.Edits.{paste_more, paste_all}
use Rattle.run_values.specs.declared.value.Value.TheVariants as value
use Rattle.run_values.specs.declared.value.Kind.TheVariants as sort
use Rattle.slot_heap.specs.Words.{slot_value, slot_values}
use Rattle.slot_heap.proofs.Words.{words_long, values_long, word_is, value_is}
use Rattle.slot_heap.proofs.reuse_store.put.Goals as goal

pub bounds-kinds-i : goal.bounds-kinds-i
bounds-kinds-i c = omega (arith, c.words-test.true, words_long c.args.kinds.now c.args.words.now c.requires.fit)

pub value_of-requires : goal.value_of-requires
value_of-requires c =
    let w = get_or c.args.words.now c.words.i (pos 0) in
    let fits : SFits w64 w = search rules in
    let within : c.words.i < length c.args.kinds.now = omega (arith, c.words-test.true, words_long c.args.kinds.now c.args.words.now c.requires.fit) in
    rw (to_z-of_z w64 w fits) (word_is c.args.kinds.now c.args.words.now c.words.i sort.Int (pos 0) c.requires.fit within)

pub words-preserved : goal.words-preserved
words-preserved c =
    let ks = c.args.kinds.now in
    let zs = c.args.words.now in
    let old = c.args.values.now.items in
    let i = c.words.i in
    let w = get_or zs i (pos 0) in
    let fits : SFits w64 w = search rules in
    let long = words_long ks zs c.requires.fit in
    let count = values_long ks zs c.requires.fit in
    let within : i < length ks = omega (arith, c.words-test.true, long) in
    let made : c.value_of.result ≡ slot_value (get_or ks i sort.Int) w = rw (to_z-of_z w64 w fits) at c.value_of.ensures in
    let new : c.value_of.result ≡ get_or (slot_values ks zs) i value.Null = made ∙ sym (value_is ks zs i sort.Int (pos 0) value.Null c.requires.fit within) in
    rw (c.words.invariant, new)
    (paste_more old c.args.start (slot_values ks zs) i value.Null (omega (arith, c.requires.within, c.words-test.true)) (omega (arith, count, c.words-test.true)))

pub returns : goal.returns
returns c =
    let ks = c.args.kinds.now in
    let zs = c.args.words.now in
    let old = c.args.values.now.items in
    let count = values_long ks zs c.requires.fit in
    let end : c.words.i ≡ length zs = omega (arith, c.words-test.false, c.words.auto.i-end) in
    c.words.invariant
    ∙ paste_all old c.args.start (slot_values ks zs) c.words.i (omega (arith, end, count))
    ∙ sym (append_assoc (take c.args.start old) (slot_values ks zs) (drop (c.args.start + c.words.i) old))
    ∙ ap (λ n. take c.args.start old ++ slot_values ks zs ++ drop (c.args.start + n) old) end
