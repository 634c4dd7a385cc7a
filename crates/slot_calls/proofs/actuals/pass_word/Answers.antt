use Rattle.std.proofs.Common.{rules, ◌≡◌, Err}
use Rattle.std.proofs.lemmas.Int.{to_z-of_z}
use mir.Syntax.{w32, w64}
use mir.Val.{SFits}
use Rattle.code_rows.specs.Rows.{code_at}
use Rattle.run_codes.specs.Codes.{ByValue, Checked}
use Rattle.slot_calls.proofs.Values.{passed_by, word_reads, word_stops, word_out, word_passes}
use Rattle.slot_calls.proofs.actuals.pass_word.Goals as goal

pub operand-requires-clause-whole : goal.operand-requires-clause-whole
operand-requires-clause-whole g c =
    word_reads g.R.Store.Means c.args.memory.now c.args.table.now (code_at c.args.nodes.now c.args.value) c.args.low c.args.high c.requires.whole

pub returns-in_err-given : goal.returns-in_err-given
returns-in_err-given g c =
    let err : c.from_residual.result ≡ Err c.in_err-given.field-0.0 = search rules in
    passed_by g.R.Store.Means c.args.memory.now c.args.table.now (ByValue (Checked (code_at c.args.nodes.now c.args.value) c.args.low c.args.high)) _ _ c.args.hand.now c.args.hand.now c.args.memory.now err
    (word_stops g.R.Store.Means c.args.memory.now c.args.table.now (code_at c.args.nodes.now c.args.value) c.args.low c.args.high c.in_err-given.field-0.0 c.args.hand.now c.args.hand.now c.in_err-given.ensures)

pub returns-in_err-kept : goal.returns-in_err-kept
returns-in_err-kept g c =
    let given : SFits w64 c.in_ok-given.given = search rules in
    let out = rw (to_z-of_z w32 c.args.low c.ranges.low, to_z-of_z w32 c.args.high c.ranges.high, to_z-of_z w64 c.in_ok-given.given given) at c.in_err-kept.ensures in
    let err : c.from_residual-in_err-kept.result ≡ Err c.in_err-kept.field-0.0 = search rules in
    passed_by g.R.Store.Means c.args.memory.now c.args.table.now (ByValue (Checked (code_at c.args.nodes.now c.args.value) c.args.low c.args.high)) _ _ c.args.hand.now c.args.hand.now c.args.memory.now err
    (word_out g.R.Store.Means c.args.memory.now c.args.table.now (code_at c.args.nodes.now c.args.value) c.args.low c.args.high c.in_ok-given.given c.in_err-kept.field-0.0 c.args.hand.now c.args.hand.now c.in_ok-given.ensures out)

pub returns : goal.returns
returns g c =
    let given : SFits w64 c.in_ok-given.given = search rules in
    let kept : SFits w64 c.in_ok-kept.kept = search rules in
    let within = rw (to_z-of_z w32 c.args.low c.ranges.low, to_z-of_z w32 c.args.high c.ranges.high, to_z-of_z w64 c.in_ok-given.given given) at c.in_ok-kept.ensures in
    let pushed = rw (to_z-of_z w64 c.in_ok-kept.kept kept) at c.in_ok-push.ensures.pushed in
    word_passes g.R.Store.Means c.args.memory.now c.args.table.now (code_at c.args.nodes.now c.args.value) c.args.low c.args.high c.in_ok-given.given c.in_ok-kept.kept c.args.hand.now c.push.new.self c.len-first.result c.len-end.result c.in_ok-given.ensures within pushed
    c.len-first.ensures c.len-end.ensures
