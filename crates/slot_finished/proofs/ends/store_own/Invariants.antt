use Rattle.std.proofs.Common.{◌≡◌}
use Rattle.slot_memory.specs.Memory.{elsewhere}
use Rattle.slot_frames.specs.Parts.{own_returns}
use Rattle.slot_returns.proofs.Rounds.{Round}
use Rattle.slot_finished.proofs.Backs.{returns_from}
use Rattle.slot_finished.proofs.ends.store_own.Given as goal

abbrev pub invariant-returns : goal.invariant-returns
invariant-returns g l = record {
  turn : Round g.R.Store.Means l.initial.memory l.table (own_returns l.frames) (returns_from l.frames l.i) l.memory;
  elsewhere : elsewhere l.memory ≡ elsewhere l.initial.memory;
}
