use Rattle.std.proofs.Common.{length}
use Rattle.name_resolve.proofs.knowledge.Knowledge.+selected_along.Given as goal

abbrev pub decreases-selected_along : goal.decreases-selected_along
decreases-selected_along l = length l.rest.now
