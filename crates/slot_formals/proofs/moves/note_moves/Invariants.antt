use Rattle.std.proofs.Common.{◌≡◌, map, drop}
use Rattle.slot_memory.specs.Memory.{elsewhere}
use Rattle.slot_calls.specs.Calls.{passed_of}
use Rattle.slot_formals.specs.Leads.{Leads}
use Rattle.slot_formals.proofs.Moving.{Moves}
use Rattle.slot_formals.proofs.moves.note_moves.Given as goal

abbrev pub invariant-passes : goal.invariant-passes
invariant-passes g l = record {
  leads : Leads g.R.Store.Means l.initial.memory (Moves g.R.Store.Means l.table l.formals (map (passed_of l.initial.hand) l.passes)) l.memory
      (Moves g.R.Store.Means l.table (drop l.i l.formals) (map (passed_of l.initial.hand) (drop l.i l.passes)));
  hand : l.hand ≡ l.initial.hand;
  elsewhere : elsewhere l.memory ≡ elsewhere l.initial.memory;
}
