use Rattle.std.proofs.Common.{rules, ◌≡◌, Err}
use Rattle.code_rows.specs.Values.{fill_at}
use Rattle.run_codes.specs.Codes.{ByValue}
use Rattle.slot_calls.proofs.Values.{passed_by, value_filled, value_stops, value_passes}
use Rattle.slot_calls.proofs.actuals.pass_value.Goals as goal

pub fill-requires-clause-whole : goal.fill-requires-clause-whole
fill-requires-clause-whole g c =
    value_filled g.R.Store.Means c.args.memory.now c.args.table.now (fill_at c.args.nodes.now c.args.fills.now c.args.value) c.requires.whole

pub returns-in_err-fill-clause-passed : goal.returns-in_err-fill-clause-passed
returns-in_err-fill-clause-passed g c =
    let err : c.from_residual.result ≡ Err c.in_err-fill.field-0.0 = search rules in
    passed_by g.R.Store.Means c.args.memory.now c.args.table.now (ByValue (fill_at c.args.nodes.now c.args.fills.now c.args.value)) _ _ c.args.hand.now c.fill.new.hand c.fill.new.memory err
    (value_stops g.R.Store.Means c.args.memory.now c.args.table.now (fill_at c.args.nodes.now c.args.fills.now c.args.value) c.in_err-fill.field-0.0 c.args.hand.now c.fill.new.hand c.fill.new.hand c.fill.new.memory c.in_err-fill.ensures.made)

pub returns-clause-passed : goal.returns-clause-passed
returns-clause-passed g c =
    value_passes g.R.Store.Means c.args.memory.now c.args.table.now (fill_at c.args.nodes.now c.args.fills.now c.args.value) c.in_ok-fill.field-0 c.args.hand.now c.fill.new.hand c.fill.new.memory c.len-first.result c.len-end.result c.in_ok-fill.ensures.made
    c.len-first.ensures c.len-end.ensures
