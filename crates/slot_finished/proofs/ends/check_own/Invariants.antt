use Rattle.slot_frames.specs.Parts.{own_returns}
use Rattle.slot_returns.proofs.Rounds.{Tried}
use Rattle.slot_finished.proofs.Backs.{returns_from}
use Rattle.slot_finished.proofs.ends.check_own.Given as goal

abbrev pub invariant-formals : goal.invariant-formals
invariant-formals g l = Tried l.memory l.table (own_returns l.frames) (returns_from l.frames l.i)
