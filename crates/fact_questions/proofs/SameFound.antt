-- Whether two findings are the same.
use Rattle.std.proofs.Common.{◌≡◌, ap, ◌==◌, eqb-true, eq-eqb, rules}
use Rattle.std.specs.Bool.{Decides}
use Rattle.std.proofs.lemmas.Bool.Decides.{same_from_decides}
use Rattle.place_names.specs.declared.rule.Rule.{Rule}
use Rattle.place_names.specs.contracts.rule.RulePartialEq.TheImpl as equal
use Rattle.place_names.specs.Reports.{rule_rank}
use Rattle.place_names.proofs.Reports.{rule_rank-equal}

rule_eq-decides : (a b : Rule) → Decides (equal.eq-value.it a b) (a ≡ b)
rule_eq-decides a b = search rules

rank_eq-decides : (a b : Rule) → Decides (rule_rank a == rule_rank b) (a ≡ b)
rank_eq-decides a b = (λ e. rule_rank-equal a b (eqb-true (rule_rank a) (rule_rank b) e), λ e. eq-eqb (rule_rank a) (rule_rank b) (ap rule_rank e))

-- `==` on rules goes by their ranks
pub same_rule : (a b : Rule) → equal.eq-value.it a b ≡ (rule_rank a == rule_rank b)
same_rule a b = same_from_decides (equal.eq-value.it a b) (rule_rank a == rule_rank b) (rule_eq-decides a b) (rank_eq-decides a b)
