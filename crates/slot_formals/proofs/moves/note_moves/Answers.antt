use Rattle.std.proofs.Common.{◌≤◌, ◌<◌, List, length, map, min, sym, subst, ◌∙◌, arith, ℤ}
use Rattle.run_codes.specs.Flat.{Given}
use Rattle.slot_memory.specs.Memory.{Changes}
use Rattle.slot_calls.specs.Calls.{passed_of}
use Rattle.slot_formals.specs.Formals.{moved_one}
use Rattle.slot_formals.proofs.Moving.{Moves, moves_on, moves_all}
use Rattle.slot_formals.proofs.moves.note_moves.Goals as goal

pub passes-preserved : goal.passes-preserved
passes-preserved g c =
    let end = c.min-i-end.ensures in
    let test = c.passes-test.true in
    let some_formal : c.passes.i < length c.args.formals.now = omega (arith, end, test) in
    let some_pass : c.passes.i < length c.args.passes.now = omega (arith, end, test) in
    record {
      leads =
          moves_on g.R.Store.Means c.args.memory.now c.passes.memory c.note_move.new.memory c.args.table.now c.args.formals.now c.args.passes.now c.passes.i 0 c.index-passes-i.result c.args.hand.now
          (Moves g.R.Store.Means c.args.table.now c.args.formals.now (map (passed_of c.args.hand.now) c.args.passes.now)) some_formal some_pass (sym c.index-passes-i.is) c.passes.invariant.leads
          (subst (λ (zs : List ℤ). Changes g.R.Store.Means c.passes.memory (λ s. Given (moved_one c.args.table.now (passed_of zs c.index-passes-i.result) s)) c.note_move.new.memory)
          c.passes.invariant.hand c.in_ok-note_move.ensures.moved);
      hand = c.note_move.ensures.hand ∙ c.passes.invariant.hand;
      elsewhere = c.note_move.ensures.elsewhere ∙ c.passes.invariant.elsewhere;
    }

pub returns-clause-moved : goal.returns-clause-moved
returns-clause-moved g c =
    let end = c.min-i-end.ensures in
    let test = c.passes-test.false in
    let all : min (length c.args.formals.now) (length c.args.passes.now) ≤ c.passes.i = omega (arith, end, test) in
    moves_all g.R.Store.Means c.args.memory.now c.passes.memory c.args.table.now c.args.formals.now c.args.passes.now c.passes.i c.args.hand.now
    (Moves g.R.Store.Means c.args.table.now c.args.formals.now (map (passed_of c.args.hand.now) c.args.passes.now)) all c.passes.invariant.leads
