use Rattle.std.proofs.Common.{◌≡◌, ◌+◌, ◌<◌, ◌++◌, ◌∷◌, [], List, Option, IsSomeAnd, map, length, take, drop, get_or, sym, subst, ap, ◌∙◌, arith, rules}
use Rattle.std.proofs.lemmas.Int.{to_z-of_z}
use mir.Syntax.{w64}
use mir.Val.{SFits}
use Rattle.run_values.specs.declared.value.Value.{Value}
use Rattle.run_values.specs.declared.value.Kind.TheVariants as sort
use Rattle.slot_heap.specs.Heaps.{Holds}
use Rattle.handled_runs.specs.Slots.{slot_word}
use Rattle.slot_memory.proofs.Heaps.{have_words, holds_in, word_mapped}
use Rattle.slot_memory.proofs.OfKinds.{stands_at, push_next, push_end}
use Rattle.slot_memory.proofs.heap.Heap.push_words.Goals as goal

pub word-requires : goal.word-requires
word-requires g c =
    let known = c.requires.there in
    let w = have_words known.0 c.args.cell c.args.at c.args.kinds.now known.1.1 in
    (known.0, (known.1.0, holds_in known.0 c.args.cell _ _ w.0 w.1 (stands_at c.args.kinds.now w.0 c.args.at c.kinds.i sort.Int w.2 (omega (arith, c.kinds-test.true)))))

pub kinds-preserved : goal.kinds-preserved
kinds-preserved g c = λ m ws means live kinds.
    let fits : SFits w64 c.word.result = search rules in
    let e : c.push.new.self.items ≡ c.kinds.words.items ++ c.word.result ∷ [] = rw (to_z-of_z w64 c.word.result fits) at c.in_ok-push.ensures.items in
    let lt : c.kinds.i < length c.args.kinds.now = omega (arith, c.kinds-test.true) in
    let holds : Holds m c.args.cell (c.args.at + c.kinds.i) (get_or c.args.kinds.now c.kinds.i sort.Int) =
    holds_in m c.args.cell (c.args.at + c.kinds.i) (get_or c.args.kinds.now c.kinds.i sort.Int) ws live (stands_at c.args.kinds.now ws c.args.at c.kinds.i sort.Int kinds lt) in
    let read = word_mapped m c.args.cell (c.args.at + c.kinds.i) ws c.word.result live (c.word.ensures m means holds) in
    ap (λ l. l ++ take (length (drop (c.kinds.i + 1) c.args.kinds.now)) (drop (c.args.at + (c.kinds.i + 1)) (map slot_word ws))) e
    ∙ push_next c.args.kinds.now (map slot_word ws) c.kinds.words.items c.args.at c.kinds.i c.word.result lt read
    ∙ c.kinds.invariant m ws means live kinds

pub returns-clause-pushed : goal.returns-clause-pushed
returns-clause-pushed g c = λ m means have.
    let w = have_words m c.args.cell c.args.at c.args.kinds.now have in
    let done = c.kinds.invariant m w.0 means w.1 w.2 in
    let end = push_end c.args.kinds.now (drop (c.args.at + c.kinds.i) (map slot_word w.0)) c.kinds.words.items c.kinds.i (omega (arith, c.kinds-test.false)) in
    let P : Option (List Value) → Type 0 =
    λ x. IsSomeAnd x (λ ws. c.kinds.words.items ≡ c.args.words.now.items ++ take (length c.args.kinds.now) (drop c.args.at (map slot_word ws))) in
    subst P (sym w.1) (sym end ∙ done)
