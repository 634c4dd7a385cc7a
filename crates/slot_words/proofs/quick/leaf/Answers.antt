use Rattle.std.proofs.Common.{rules}
use Rattle.slot_words.proofs.Leaves.{number_as}
use Rattle.slot_words.proofs.quick.leaf.Goals as goal

pub returns-in-Number : goal.returns-in-Number
returns-in-Number g c = rw c.in-Number.ensures.code (number_as _ _ _ _ (search rules))
