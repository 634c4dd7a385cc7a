use Rattle.std.proofs.Common.{◌≡◌, Err, rules}
use Rattle.code_rows.specs.Rows.{code_at, place_of}
use Rattle.run_codes.specs.Codes.{Moved}
use Rattle.slot_values.proofs.Reading.{filled_by}
use Rattle.slot_values.proofs.Places.{moved_spot, moved_stops, moved_held, moved_held_stops, moved_makes}
use Rattle.slot_values.proofs.fills.moved.Goals as goal

pub spot-requires-clause-whole : goal.spot-requires-clause-whole
spot-requires-clause-whole g c = moved_spot g.R.Store.Means c.args.memory.now c.args.table.now (place_of (code_at c.args.nodes.now) c.args.place) c.args.of c.requires.whole

pub returns-in_err-found-clause-made : goal.returns-in_err-found-clause-made
returns-in_err-found-clause-made g c =
    let err : c.from_residual.result ≡ Err c.in_err-found.field-0.0 = search rules in
    filled_by g.R.Store.Means c.args.memory.now c.args.table.now (Moved (place_of (code_at c.args.nodes.now) c.args.place) c.args.of) _ _ c.args.hand.now c.args.hand.now c.args.memory.now err
    (moved_stops g.R.Store.Means c.args.memory.now c.args.table.now (place_of (code_at c.args.nodes.now) c.args.place) c.args.of c.in_err-found.field-0.0 c.args.hand.now c.args.hand.now
    c.in_err-found.ensures)

pub push_held-requires : goal.push_held-requires
push_held-requires g c =
    rw c.same.ensures
    (moved_held g.R.Store.Means c.args.memory.now c.args.table.now (place_of (code_at c.args.nodes.now) c.args.place) c.args.of c.in_ok-found.found c.requires.whole c.in_ok-found.ensures)

pub returns-in_err-push_held-clause-made : goal.returns-in_err-push_held-clause-made
returns-in_err-push_held-clause-made g c =
    let held = rw c.same.ensures at c.in_err-push_held.ensures in
    let err : c.from_residual-in_err-push_held.result ≡ Err c.in_err-push_held.field-0.0 = search rules in
    filled_by g.R.Store.Means c.args.memory.now c.args.table.now (Moved (place_of (code_at c.args.nodes.now) c.args.place) c.args.of) _ _ c.args.hand.now c.push_held.new.self c.args.memory.now err
    (moved_held_stops g.R.Store.Means c.args.memory.now c.args.table.now (place_of (code_at c.args.nodes.now) c.args.place) c.args.of c.in_ok-found.found c.in_err-push_held.field-0.0
    c.args.hand.now c.push_held.new.self c.in_ok-found.ensures held)

pub returns-clause-made : goal.returns-clause-made
returns-clause-made g c =
    let held = rw c.same.ensures at c.in_ok-push_held.ensures in
    let moved = rw c.same-2.ensures at c.move_out.ensures.moved in
    moved_makes g.R.Store.Means c.args.memory.now c.args.table.now (place_of (code_at c.args.nodes.now) c.args.place) c.args.of c.in_ok-found.found c.move_out.result c.args.hand.now
    c.push_held.new.self c.move_out.new.self c.move_out.new.memory c.in_ok-found.ensures held moved c.move_out.ensures.memory c.move_out.ensures.hand
