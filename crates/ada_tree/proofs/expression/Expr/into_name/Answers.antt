use Rattle.std.proofs.Common.{sym}
use Rattle.ada_tree.proofs.LoneLevels.{lone_name-other}
use Rattle.ada_tree.proofs.expression.Expr.into_name.Goals as goal

pub returns : goal.returns
returns c = sym (lone_name-other c.args.self c.in_default.not-LoneRelation)
