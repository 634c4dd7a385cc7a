use Rattle.state_trees.proofs.Tested.{Testing}
use Rattle.borrow_observe.specs.LoanRules.{loans_forbid}
use Rattle.borrow_observe.proofs.test.test_loans.Given as goal

abbrev pub invariant-numbers : goal.invariant-numbers
invariant-numbers l = Testing (loans_forbid l.act) l.tree l.numbers l.initial.found.items l.found.items l.k
