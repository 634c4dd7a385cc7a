use Rattle.std.proofs.Common.{length}
use Rattle.name_resolve.proofs.rules.+meaning_along.Given as goal

abbrev pub decreases-meaning_along : goal.decreases-meaning_along
decreases-meaning_along l = length l.rest.now
