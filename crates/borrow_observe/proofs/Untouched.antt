-- A fact that an act doesn't touch forbids nothing at it.
use Rattle.std.proofs.Common.{ap, ◌∙◌, Option, None, if◌then◌else◌}
use Rattle.place_names.specs.declared.act.Act.{Act}
use Rattle.place_names.specs.Rules.{Forbidden}
use Rattle.state_trees.proofs.Tested.{AllowsUntouched, same_either_way}
use Rattle.state_trees.proofs.Untouched.{untouched_allowed}
use Rattle.borrow_observe.specs.LoanRules.{is_for_loans, loans_forbid}

pub loans_untouched : (a : Act) → AllowsUntouched a (loans_forbid a)
loans_untouched a f e =
    ap (λ (o : Option Forbidden). if is_for_loans a then o else None) (untouched_allowed a f e) ∙ same_either_way (is_for_loans a) None
