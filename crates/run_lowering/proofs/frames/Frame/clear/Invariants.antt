use Rattle.std.proofs.Common.{length}
use Rattle.run_lowering.proofs.Rooms.{OnlyKept}
use Rattle.run_lowering.proofs.frames.Frame.clear.Given as goal

abbrev pub invariant-kept : goal.invariant-kept
invariant-kept l = OnlyKept l.self.kept.items l.self.offsets.items

abbrev pub decreases-kept : goal.decreases-kept
decreases-kept l = length l.self.kept.items
