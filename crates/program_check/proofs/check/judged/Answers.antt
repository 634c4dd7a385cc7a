use Rattle.std.proofs.Common.{◌+◌, ◌≤◌, subst}
use Rattle.program_check.proofs.Answered.{judged_of, names_kept}
use Rattle.program_check.proofs.Counted.{steps_counted}
use Rattle.program_check.proofs.check.judged.Goals as goal

pub returns-in_err-check_paths-clause-cost : goal.returns-in_err-check_paths-clause-cost
returns-in_err-check_paths-clause-cost g c =
    subst (λ n. c.check_paths.new.steps ≤ c.args.steps.now + n) (steps_counted c.args.laid) c.in_err-check_paths.ensures.cost

pub returns-clause-verdict : goal.returns-clause-verdict
returns-clause-verdict g c =
    judged_of c.args.laid c.in_ok-effects.effects c.in_ok-check_paths.field-0 c.in_ok-effects.ensures c.in_ok-check_paths.ensures.verdict

pub returns-clause-cost : goal.returns-clause-cost
returns-clause-cost g c =
    subst (λ n. c.check_paths.new.steps ≤ c.args.steps.now + n) (steps_counted c.args.laid) c.in_ok-check_paths.ensures.cost

pub returns-clause-names : goal.returns-clause-names
returns-clause-names g c =
    names_kept c.args.laid c.in_ok-effects.effects c.in_ok-check_paths.field-0 c.in_ok-check_paths.ensures.verdict
