use Rattle.slot_memory.proofs.memory.Memory.store_words.Goals as goal

pub returns-in-Stack-clause-stored : goal.returns-in-Stack-clause-stored
returns-in-Stack-clause-stored g c = rw c.in-Stack.is c.store_in_stack.ensures.stored

pub returns-in-Cell-clause-stored : goal.returns-in-Cell-clause-stored
returns-in-Cell-clause-stored g c = rw c.in-Cell.is c.store_in_cell.ensures.stored
