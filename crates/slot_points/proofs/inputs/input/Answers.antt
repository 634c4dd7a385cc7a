use Rattle.std.proofs.Common.{rules}
use Rattle.std.proofs.lemmas.Result.{err_from_is_err_and}
use Rattle.std.proofs.lemmas.Int.{to_z-of_z}
use mir.Syntax.{w32}
use Rattle.code_rows.specs.Rows.{code_at, place_of}
use Rattle.slot_points.proofs.Items.{input_reads, input_stops, input_known, input_done}
use Rattle.slot_points.proofs.inputs.input.Goals as goal

pub spot-requires-clause-whole : goal.spot-requires-clause-whole
spot-requires-clause-whole g c =
    let m = c.args.memory.now in
    input_reads g.R.Store.Means m (place_of (code_at c.args.nodes.now) c.args.place) m.input m.read c.args.low c.args.high c.requires.whole

pub returns-in_err-spot-clause-stored : goal.returns-in_err-spot-clause-stored
returns-in_err-spot-clause-stored g c =
    let m = c.args.memory.now in
    let p = err_from_is_err_and c.from_residual.result c.from_residual.ensures.1 in
    rw (p.1, p.2) (input_stops g.R.Store.Means m (place_of (code_at c.args.nodes.now) c.args.place) m.input m.read c.args.low c.args.high _ c.in_err-spot.ensures)

pub store_item-requires : goal.store_item-requires
store_item-requires g c =
    let m = c.args.memory.now in
    rw (to_z-of_z w32 c.args.low c.ranges.low, to_z-of_z w32 c.args.high c.ranges.high)
    (input_known g.R.Store.Means m (place_of (code_at c.args.nodes.now) c.args.place) m.input m.read c.args.low c.args.high c.in_ok-spot.spot c.next_item-item.result c.requires.whole c.in_ok-spot.ensures (search rules))

pub returns-clause-stored : goal.returns-clause-stored
returns-clause-stored g c =
    let m = c.args.memory.now in
    let stored = rw (to_z-of_z w32 c.args.low c.ranges.low, to_z-of_z w32 c.args.high c.ranges.high) at c.store_item.ensures.stored in
    input_done g.R.Store.Means m (place_of (code_at c.args.nodes.now) c.args.place) m.input m.read c.args.low c.args.high c.in_ok-spot.spot c.next_item-item.result
    c.store_item.result c.store_item.new.memory c.in_ok-spot.ensures stored (search rules)
