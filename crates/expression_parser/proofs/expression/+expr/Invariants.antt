use Rattle.std.proofs.Common.{suc, ◌-◌}
use Rattle.spark_base.specs.declared.limits.TheConstants.{NESTING}
use Rattle.expression_parser.proofs.expression.+expr.Given as goal

abbrev pub decreases-expr : goal.decreases-expr
decreases-expr l = suc NESTING - l.depth
