use Rattle.std.proofs.lemmas.Int.{to_z-of_z}
use mir.Syntax.{w64}
use Rattle.slot_hand.proofs.words.push_leak.Goals as goal

pub returns-clause-pushed : goal.returns-clause-pushed
returns-clause-pushed g c = rw (to_z-of_z w64 c.args.word c.ranges.word) at c.push_lost.ensures.pushed
