use Rattle.std.proofs.Common.{◌-◌}
use Rattle.spark_base.specs.declared.limits.TheConstants.{NESTING}
use Rattle.statement_parser.proofs.statement.+stmts.Given as goal

abbrev pub decreases-stmts : goal.decreases-stmts
decreases-stmts l = NESTING - l.depth
