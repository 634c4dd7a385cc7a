use Rattle.std.proofs.Common.{◌≡◌, Err, rules}
use Rattle.std.proofs.lemmas.Int.{to_z-of_z}
use mir.Syntax.{w64}
use mir.Val.{SFits}
use Rattle.code_rows.specs.Rows.{code_at, place_of}
use Rattle.run_codes.specs.Codes.{MovedPointer}
use Rattle.slot_values.proofs.Reading.{filled_by}
use Rattle.slot_values.proofs.Places.{pointer_spot, pointer_stops, pointer_held, pointer_makes}
use Rattle.slot_values.proofs.fills.moved_pointer.Goals as goal

pub spot-requires-clause-whole : goal.spot-requires-clause-whole
spot-requires-clause-whole g c = pointer_spot g.R.Store.Means c.args.memory.now c.args.table.now (place_of (code_at c.args.nodes.now) c.args.place) c.requires.whole

pub returns-in_err-found-clause-made : goal.returns-in_err-found-clause-made
returns-in_err-found-clause-made g c =
    let err : c.from_residual.result ≡ Err c.in_err-found.field-0.0 = search rules in
    filled_by g.R.Store.Means c.args.memory.now c.args.table.now (MovedPointer (place_of (code_at c.args.nodes.now) c.args.place)) _ _ c.args.hand.now c.args.hand.now c.args.memory.now err
    (pointer_stops g.R.Store.Means c.args.memory.now c.args.table.now (place_of (code_at c.args.nodes.now) c.args.place) c.in_err-found.field-0.0 c.args.hand.now c.args.hand.now c.in_err-found.ensures)

pub word_at-given-requires : goal.word_at-given-requires
word_at-given-requires g c =
    rw c.same.ensures
    (pointer_held g.R.Store.Means c.args.memory.now c.args.table.now (place_of (code_at c.args.nodes.now) c.args.place) c.in_ok-found.found c.requires.whole c.in_ok-found.ensures)

pub returns-clause-made : goal.returns-clause-made
returns-clause-made g c =
    let given : SFits w64 c.word_at-given.result = search rules in
    let read = rw c.same.ensures at c.word_at-given.ensures in
    let moved = rw c.same-2.ensures at c.in_ok-move_out.ensures.moved in
    let pushed = rw (to_z-of_z w64 c.word_at-given.result given) at c.push.ensures.pushed in
    pointer_makes g.R.Store.Means c.args.memory.now c.args.table.now (place_of (code_at c.args.nodes.now) c.args.place) c.in_ok-found.found c.word_at-given.result c.push.result
    c.args.hand.now c.push.new.self c.move_out.new.self c.in_ok-found.ensures read moved pushed c.push.ensures.memory
