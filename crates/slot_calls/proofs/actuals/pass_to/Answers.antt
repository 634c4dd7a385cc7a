use Rattle.std.proofs.Common.{rules, ◌≡◌, Err}
use Rattle.code_rows.specs.Rows.{code_at, place_of}
use Rattle.run_codes.specs.Codes.{To}
use Rattle.slot_calls.proofs.Values.{passed_by, to_reads, to_stops, to_passes}
use Rattle.slot_calls.proofs.actuals.pass_to.Goals as goal

pub spot-requires-clause-whole : goal.spot-requires-clause-whole
spot-requires-clause-whole g c =
    to_reads g.R.Store.Means c.args.memory.now c.args.table.now (place_of (code_at c.args.nodes.now) c.args.place) c.args.of c.args.pos c.requires.whole

pub returns-in_err-found : goal.returns-in_err-found
returns-in_err-found g c =
    let err : c.from_residual.result ≡ Err c.in_err-found.field-0.0 = search rules in
    passed_by g.R.Store.Means c.args.memory.now c.args.table.now (To (place_of (code_at c.args.nodes.now) c.args.place) c.args.of c.args.pos) _ _ c.args.hand.now c.args.hand.now c.args.memory.now err
    (to_stops g.R.Store.Means c.args.memory.now c.args.table.now (place_of (code_at c.args.nodes.now) c.args.place) c.args.of c.args.pos c.in_err-found.field-0.0 c.args.hand.now c.args.hand.now c.in_err-found.ensures)

pub returns : goal.returns
returns g c =
    to_passes g.R.Store.Means c.args.memory.now c.args.table.now (place_of (code_at c.args.nodes.now) c.args.place) c.args.of c.args.pos c.in_ok-found.found c.args.hand.now c.in_ok-found.ensures
