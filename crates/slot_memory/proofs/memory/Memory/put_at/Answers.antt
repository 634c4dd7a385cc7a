use Rattle.std.proofs.lemmas.Int.{to_z-of_z}
use mir.Syntax.{w64}
use Rattle.slot_memory.proofs.memory.Memory.put_at.Goals as goal

pub returns-in-Stack-clause-stored : goal.returns-in-Stack-clause-stored
returns-in-Stack-clause-stored g c =
    let stored = rw (to_z-of_z w64 c.args.word c.ranges.word) at c.store_in_stack.ensures.stored in
    rw c.in-Stack.is stored

pub returns-in-Cell-clause-stored : goal.returns-in-Cell-clause-stored
returns-in-Cell-clause-stored g c =
    let stored = rw (to_z-of_z w64 c.args.word c.ranges.word) at c.store_in_cell.ensures.stored in
    rw c.in-Cell.is stored
