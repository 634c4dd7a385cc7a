use Rattle.std.proofs.Common.{◌∙◌}
use Rattle.fact_questions.proofs.SameFound.{same_rule}
use Rattle.fact_questions.proofs.found.is_same_rule.Goals as goal

pub returns : goal.returns
returns c = c.eq.ensures ∙ same_rule c.args.a c.args.b
