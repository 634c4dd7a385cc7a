use Rattle.std.proofs.Common.{[]}
use Rattle.state_trees.proofs.Tested.{Tested}
use Rattle.path_reports.specs.Uses.{use_forbids}
use Rattle.path_reports.proofs.called.uses_found.Given as goal

abbrev pub invariant-numbers : goal.invariant-numbers
invariant-numbers l = Tested (use_forbids l.count l.read l.written) l.tree [] l.found.items l.i
