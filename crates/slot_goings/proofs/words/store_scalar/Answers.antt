use Rattle.std.proofs.lemmas.Int.{to_z-of_z}
use mir.Syntax.{w32}
use Rattle.slot_goings.proofs.Changed.{store_first, store_goes, store_stops}
use Rattle.slot_goings.proofs.words.store_scalar.Goals as goal

pub store-requires-clause-whole : goal.store-requires-clause-whole
store-requires-clause-whole g c =
    rw (to_z-of_z w32 c.args.low c.ranges.low, to_z-of_z w32 c.args.high c.ranges.high)
    (store_first g.R.Store.Means c.args.memory.now c.args.rows.now c.args.place c.args.value c.args.low c.args.high c.args.kind c.args.next c.requires.whole)

pub returns-in-Ok-clause-changed : goal.returns-in-Ok-clause-changed
returns-in-Ok-clause-changed g c =
    let stored = rw (to_z-of_z w32 c.args.low c.ranges.low, to_z-of_z w32 c.args.high c.ranges.high) at c.in-Ok.ensures.stored in
    store_goes g.R.Store.Means c.args.memory.now c.args.rows.now c.args.place c.args.value c.args.low c.args.high c.args.kind c.args.next c.in-Ok.field-0 c.store.new.memory stored

pub returns-in-Err-clause-changed : goal.returns-in-Err-clause-changed
returns-in-Err-clause-changed g c =
    let stored = rw (to_z-of_z w32 c.args.low c.ranges.low, to_z-of_z w32 c.args.high c.ranges.high) at c.in-Err.ensures.stored in
    store_stops g.R.Store.Means c.args.memory.now c.args.rows.now c.args.place c.args.value c.args.low c.args.high c.args.kind c.args.next c.in-Err.stop c.store.new.memory stored
