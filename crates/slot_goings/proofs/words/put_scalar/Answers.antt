use Rattle.std.proofs.lemmas.Int.{to_z-of_z}
use mir.Syntax.{w32}
use Rattle.slot_goings.proofs.Changed.{put_first, put_goes, put_stops}
use Rattle.slot_goings.proofs.words.put_scalar.Goals as goal

pub put-requires-clause-whole : goal.put-requires-clause-whole
put-requires-clause-whole g c =
    rw (to_z-of_z w32 c.args.low c.ranges.low, to_z-of_z w32 c.args.high c.ranges.high)
    (put_first g.R.Store.Means c.args.memory.now c.args.rows.now c.args.at c.args.value c.args.low c.args.high c.args.next c.requires.whole)

pub returns-in-Ok-clause-changed : goal.returns-in-Ok-clause-changed
returns-in-Ok-clause-changed g c =
    let put = rw (to_z-of_z w32 c.args.low c.ranges.low, to_z-of_z w32 c.args.high c.ranges.high) at c.in-Ok.ensures.put in
    put_goes g.R.Store.Means c.args.memory.now c.args.rows.now c.args.at c.args.value c.args.low c.args.high c.args.next c.in-Ok.field-0 c.put.new.memory put

pub returns-in-Err-clause-changed : goal.returns-in-Err-clause-changed
returns-in-Err-clause-changed g c =
    let put = rw (to_z-of_z w32 c.args.low c.ranges.low, to_z-of_z w32 c.args.high c.ranges.high) at c.in-Err.ensures.put in
    put_stops g.R.Store.Means c.args.memory.now c.args.rows.now c.args.at c.args.value c.args.low c.args.high c.args.next c.in-Err.stop c.put.new.memory put
