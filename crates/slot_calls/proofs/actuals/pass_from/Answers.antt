use Rattle.std.proofs.Common.{rules, ◌≡◌, Err}
use Rattle.code_rows.specs.Rows.{code_at, place_of}
use Rattle.run_codes.specs.Codes.{From}
use Rattle.slot_calls.proofs.Values.{passed_by, from_reads, from_stops, from_test, from_unfit, from_passes}
use Rattle.slot_calls.proofs.actuals.pass_from.Goals as goal

pub spot-requires-clause-whole : goal.spot-requires-clause-whole
spot-requires-clause-whole g c =
    from_reads g.R.Store.Means c.args.memory.now c.args.table.now (place_of (code_at c.args.nodes.now) c.args.place) c.args.of c.args.formal c.requires.whole

pub returns-in_err-found : goal.returns-in_err-found
returns-in_err-found g c =
    let err : c.from_residual.result ≡ Err c.in_err-found.field-0.0 = search rules in
    passed_by g.R.Store.Means c.args.memory.now c.args.table.now (From (place_of (code_at c.args.nodes.now) c.args.place) c.args.of c.args.formal) _ _ c.args.hand.now c.args.hand.now c.args.memory.now err
    (from_stops g.R.Store.Means c.args.memory.now c.args.table.now (place_of (code_at c.args.nodes.now) c.args.place) c.args.of c.args.formal c.in_err-found.field-0.0 c.args.hand.now c.args.hand.now c.in_err-found.ensures)

pub test_held-requires : goal.test_held-requires
test_held-requires g c =
    rw c.same.ensures (from_test g.R.Store.Means c.args.memory.now c.args.table.now (place_of (code_at c.args.nodes.now) c.args.place) c.args.of c.args.formal c.in_ok-found.found c.requires.whole c.in_ok-found.ensures)

pub returns-in_err-test_held : goal.returns-in_err-test_held
returns-in_err-test_held g c =
    let err : c.from_residual-in_err-test_held.result ≡ Err c.in_err-test_held.field-0.0 = search rules in
    let tests = rw c.same.ensures at c.in_err-test_held.ensures.tests in
    passed_by g.R.Store.Means c.args.memory.now c.args.table.now (From (place_of (code_at c.args.nodes.now) c.args.place) c.args.of c.args.formal) _ _ c.args.hand.now c.test_held.new.hand c.args.memory.now err
    (from_unfit g.R.Store.Means c.args.memory.now c.args.table.now (place_of (code_at c.args.nodes.now) c.args.place) c.args.of c.args.formal c.in_ok-found.found c.in_err-test_held.field-0.0 c.args.hand.now c.test_held.new.hand c.in_ok-found.ensures tests)

pub returns : goal.returns
returns g c =
    let tests = rw c.same.ensures at c.in_ok-test_held.ensures.tests in
    from_passes g.R.Store.Means c.args.memory.now c.args.table.now (place_of (code_at c.args.nodes.now) c.args.place) c.args.of c.args.formal c.in_ok-test_held.field-0 c.in_ok-found.found c.args.hand.now c.test_held.new.hand c.in_ok-found.ensures tests c.in_ok-test_held.ensures.hand
