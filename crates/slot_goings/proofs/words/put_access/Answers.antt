use Rattle.slot_goings.proofs.Changed.{pointer_first, pointer_goes, pointer_stops}
use Rattle.slot_goings.proofs.words.put_access.Goals as goal

pub put_pointer-requires-clause-whole : goal.put_pointer-requires-clause-whole
put_pointer-requires-clause-whole g c =
    pointer_first g.R.Store.Means c.args.memory.now c.args.rows.now c.args.at c.args.value c.args.next c.requires.whole

pub returns-in-Ok-clause-changed : goal.returns-in-Ok-clause-changed
returns-in-Ok-clause-changed g c =
    pointer_goes g.R.Store.Means c.args.memory.now c.args.rows.now c.args.at c.args.value c.args.next c.in-Ok.field-0 c.put_pointer.new.memory c.in-Ok.ensures.put

pub returns-in-Err-clause-changed : goal.returns-in-Err-clause-changed
returns-in-Err-clause-changed g c =
    pointer_stops g.R.Store.Means c.args.memory.now c.args.rows.now c.args.at c.args.value c.args.next c.in-Err.stop c.put_pointer.new.memory c.in-Err.ensures.put
