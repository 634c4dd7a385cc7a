use Rattle.std.proofs.Common.{◌≡◌, Err, rules}
use Rattle.code_rows.specs.Rows.{code_at, place_of}
use Rattle.run_codes.specs.Codes.{Copied}
use Rattle.slot_values.proofs.Reading.{filled_by}
use Rattle.slot_values.proofs.Places.{copied_spot, copied_stops, copied_held, copied_makes}
use Rattle.slot_values.proofs.fills.copied.Goals as goal

pub spot-requires-clause-whole : goal.spot-requires-clause-whole
spot-requires-clause-whole g c = copied_spot g.R.Store.Means c.args.memory.now c.args.table.now (place_of (code_at c.args.nodes.now) c.args.place) c.args.of c.requires.whole

pub returns-in_err-found : goal.returns-in_err-found
returns-in_err-found g c =
    let err : c.from_residual.result ≡ Err c.in_err-found.field-0.0 = search rules in
    filled_by g.R.Store.Means c.args.memory.now c.args.table.now (Copied (place_of (code_at c.args.nodes.now) c.args.place) c.args.of) _ _ c.args.hand.now c.args.hand.now c.args.memory.now err
    (copied_stops g.R.Store.Means c.args.memory.now c.args.table.now (place_of (code_at c.args.nodes.now) c.args.place) c.args.of c.in_err-found.field-0.0 c.args.hand.now c.args.hand.now
    c.in_err-found.ensures)

pub push_held-requires : goal.push_held-requires
push_held-requires g c =
    copied_held g.R.Store.Means c.args.memory.now c.args.table.now (place_of (code_at c.args.nodes.now) c.args.place) c.args.of c.in_ok-found.found c.requires.whole c.in_ok-found.ensures

pub returns : goal.returns
returns g c =
    copied_makes g.R.Store.Means c.args.memory.now c.args.table.now (place_of (code_at c.args.nodes.now) c.args.place) c.args.of c.in_ok-found.found c.push_held.result c.args.hand.now
    c.push_held.new.self c.in_ok-found.ensures c.push_held.ensures
