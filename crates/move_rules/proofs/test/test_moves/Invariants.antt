use Rattle.state_trees.proofs.Tested.{Testing}
use Rattle.move_rules.specs.MoveRules.{moves_forbid}
use Rattle.move_rules.proofs.test.test_moves.Given as goal

abbrev pub invariant-numbers : goal.invariant-numbers
invariant-numbers l = Testing (moves_forbid l.act) l.tree l.numbers l.initial.found.items l.found.items l.k
