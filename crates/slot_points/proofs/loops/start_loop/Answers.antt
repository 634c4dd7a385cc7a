use Rattle.std.proofs.Common.{rules}
use Rattle.std.proofs.lemmas.Result.{err_from_is_err_and}
use Rattle.std.proofs.lemmas.Int.{to_z-of_z}
use mir.Syntax.{w64}
use mir.Val.{SFits}
use Rattle.code_rows.specs.Rows.{code_at}
use Rattle.slot_points.proofs.Looping.{start_low, start_low_stops, start_high, start_high_stops, start_begins, start_done}
use Rattle.slot_points.proofs.loops.start_loop.Goals as goal

pub word-requires-clause-whole : goal.word-requires-clause-whole
word-requires-clause-whole g c = start_low _ _ _ _ _ _ _ _ c.requires.whole

pub returns-in_err-low-clause-put : goal.returns-in_err-low-clause-put
returns-in_err-low-clause-put g c =
    let p = err_from_is_err_and c.from_residual.result c.from_residual.ensures.1 in
    rw (p.1, p.2) (start_low_stops _ _ _ _ _ _ _ _ _ c.in_err-low.ensures)

pub word-requires-2-clause-whole : goal.word-requires-2-clause-whole
word-requires-2-clause-whole g c = start_high _ _ _ _ _ _ _ _ _ c.in_ok-low.ensures c.requires.whole

pub returns-in_err-high-clause-put : goal.returns-in_err-high-clause-put
returns-in_err-high-clause-put g c =
    let p = err_from_is_err_and c.from_residual-in_err-high.result c.from_residual-in_err-high.ensures.1 in
    rw (p.1, p.2) (start_high_stops _ _ _ _ _ _ _ _ _ c.in_ok-low.ensures _ c.in_err-high.ensures)

pub begin-requires : goal.begin-requires
begin-requires g c =
    let low : SFits w64 c.in_ok-low.low = search rules in
    let high : SFits w64 c.in_ok-high.high = search rules in
    rw (to_z-of_z w64 c.in_ok-low.low low, to_z-of_z w64 c.in_ok-high.high high)
    (start_begins g.R.Store.Means c.args.memory.now c.args.at c.args.counter (code_at c.args.nodes.now c.args.low) (code_at c.args.nodes.now c.args.high) c.args.bounds.0 c.args.bounds.1
    c.in_ok-low.low c.in_ok-low.ensures c.in_ok-high.high c.requires.whole c.in_ok-high.ensures)

pub returns-clause-put : goal.returns-clause-put
returns-clause-put g c =
    let low : SFits w64 c.in_ok-low.low = search rules in
    let high : SFits w64 c.in_ok-high.high = search rules in
    let put = rw (to_z-of_z w64 c.in_ok-low.low low, to_z-of_z w64 c.in_ok-high.high high) at c.begin.ensures.put in
    start_done g.R.Store.Means c.args.memory.now c.args.at c.args.counter (code_at c.args.nodes.now c.args.low) (code_at c.args.nodes.now c.args.high) c.args.bounds.0 c.args.bounds.1
    c.in_ok-low.low c.in_ok-low.ensures c.in_ok-high.high _ _ c.in_ok-high.ensures put
