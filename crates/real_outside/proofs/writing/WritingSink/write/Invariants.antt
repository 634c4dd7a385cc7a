use Rattle.std.proofs.Common.{◌≡◌, length}
use Rattle.real_outside.proofs.Parts.{Comes}
use Rattle.real_outside.proofs.writing.WritingSink.write.Given as goal

abbrev pub invariant-parts : goal.invariant-parts
invariant-parts g l =
    Comes (g.W.Write.contents l.initial.self.inner) (g.W.Write.contents l.self.inner) l.piece l.rest
    × (l.self.faults ≡ l.initial.self.faults)

abbrev pub decreases-parts : goal.decreases-parts
decreases-parts g l = length l.rest
