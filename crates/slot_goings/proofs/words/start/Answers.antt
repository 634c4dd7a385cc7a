use Rattle.slot_goings.proofs.Changed.{start_first, start_goes, start_stops}
use Rattle.slot_goings.proofs.words.start.Goals as goal

pub start_loop-requires-clause-whole : goal.start_loop-requires-clause-whole
start_loop-requires-clause-whole g c =
    start_first g.R.Store.Means c.args.memory.now c.args.rows.now c.args.at c.args.counter c.args.low c.args.high c.args.bounds.0 c.args.bounds.1 c.args.next c.requires.whole

pub returns-in-Ok-clause-changed : goal.returns-in-Ok-clause-changed
returns-in-Ok-clause-changed g c =
    start_goes g.R.Store.Means c.args.memory.now c.args.rows.now c.args.at c.args.counter c.args.low c.args.high c.args.bounds.0 c.args.bounds.1 c.args.next c.in-Ok.field-0 c.start_loop.new.memory
    c.in-Ok.ensures.put

pub returns-in-Err-clause-changed : goal.returns-in-Err-clause-changed
returns-in-Err-clause-changed g c =
    start_stops g.R.Store.Means c.args.memory.now c.args.rows.now c.args.at c.args.counter c.args.low c.args.high c.args.bounds.0 c.args.bounds.1 c.args.next c.in-Err.stop c.start_loop.new.memory
    c.in-Err.ensures.put
