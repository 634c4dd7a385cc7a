use Rattle.slot_frames.specs.Frames.{return_of}
use Rattle.slot_returns.proofs.One.{one_copied}
use Rattle.slot_returns.proofs.copies.copy_one.Goals as goal

pub returns-clause-copied : goal.returns-clause-copied
returns-clause-copied g c =
    let changed = rw c.same.ensures at c.store.ensures.stored in
    one_copied g.R.Store.Means c.args.memory.now c.args.table.now (return_of c.args.back) c.take_one.new.hand c.store.result c.store.new.memory c.in_ok-take_one.ensures changed
    c.store.ensures.memory
