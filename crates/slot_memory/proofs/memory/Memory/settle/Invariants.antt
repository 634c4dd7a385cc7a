use Rattle.std.proofs.Common.{◌≡◌, drop}
use Rattle.run_codes.specs.Flat.{Given}
use Rattle.handled_runs.specs.Slots.{Slots}
use Rattle.handled_runs.specs.Changes.{settled}
use Rattle.slot_memory.specs.Memory.{Ghosts, Stands, slots, single, elsewhere}
use Rattle.slot_memory.proofs.Settling.{Settling}
use Rattle.slot_memory.proofs.memory.Memory.settle.Given as goal

abbrev pub invariant-moves : goal.invariant-moves
invariant-moves g l = record {
  settling : (s : Ghosts) → Stands g.R.Store.Means l.initial.self s → (t : Slots) → settled (slots l.initial.self s) ≡ Given t
      → Settling g.R.Store.Means l.self s t (drop l.i (single s.moves));
  moves : l.self.moves ≡ l.initial.self.moves;
  elsewhere : elsewhere l.self ≡ elsewhere l.initial.self;
}
