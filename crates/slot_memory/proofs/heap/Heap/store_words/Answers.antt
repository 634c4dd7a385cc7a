use Rattle.std.proofs.Common.{◌<◌, length, get_or, pos, ap, ◌∙◌, arith, rules}
use Rattle.std.proofs.lemmas.Int.{to_z-of_z}
use mir.Syntax.{w64}
use mir.Val.{SFits}
use Rattle.slot_memory.proofs.heap.Heap.store_words.Goals as goal
use Rattle.run_values.specs.declared.value.Kind.TheVariants as sort
use Rattle.handled_runs.specs.Changes.{slot_values, written_all}
use Rattle.slot_memory.specs.Cells.{Cells}
use Rattle.slot_heap.proofs.Words.{words_long, word_is}
use Rattle.slot_memory.proofs.Heaps.{storing_holds, storing_next}

pub bounds-words-i : goal.bounds-words-i
bounds-words-i g c = omega (arith, c.kinds-test.true, words_long c.args.kinds.now c.args.words.now c.requires.words)

pub put-requires-clause-there : goal.put-requires-clause-there
put-requires-clause-there g c =
    let known = c.requires.there in
    let s = c.kinds.invariant.storing known.0 known.1.0 known.1.1 in
    (s.heap, (s.means, storing_holds g.R.Store.Means c.kinds.self.store _ c.args.cell c.args.at c.kinds.i c.args.kinds.now c.args.words.now (omega (arith, c.kinds-test.true)) s))

pub put-requires-clause-word : goal.put-requires-clause-word
put-requires-clause-word g c =
    let fits : SFits w64 (get_or c.args.words.now c.kinds.i (pos 0)) = search rules in
    rw (to_z-of_z w64 (get_or c.args.words.now c.kinds.i (pos 0)) fits)
    (word_is c.args.kinds.now c.args.words.now c.kinds.i sort.Int (pos 0) c.requires.words (omega (arith, c.kinds-test.true)))

pub kinds-preserved : goal.kinds-preserved
kinds-preserved g c =
    let fits : SFits w64 (get_or c.args.words.now c.kinds.i (pos 0)) = search rules in
    let put = rw (to_z-of_z w64 (get_or c.args.words.now c.kinds.i (pos 0)) fits) at c.put.ensures.written in
    let lk : c.kinds.i < length c.args.kinds.now = omega (arith, c.kinds-test.true) in
    let lz : c.kinds.i < length c.args.words.now = omega (arith, c.kinds-test.true, words_long c.args.kinds.now c.args.words.now c.requires.words) in
    record {
      storing = λ m means have.
          let end = written_all m c.args.cell c.args.at (slot_values c.args.kinds.now c.args.words.now) in
          let s = c.kinds.invariant.storing m means have in
          storing_next g.R.Store.Means c.kinds.self.store c.put.new.self.store end c.args.cell c.args.at c.kinds.i c.args.kinds.now c.args.words.now lk lz s
          (put s.heap s.means (storing_holds g.R.Store.Means c.kinds.self.store end c.args.cell c.args.at c.kinds.i c.args.kinds.now c.args.words.now lk s));
      unchanged = c.put.ensures.unchanged ∙ ap (λ (h : Cells g.row.R.Denot). record h { store = c.put.new.self.store }) c.kinds.invariant.unchanged;
    }
