use Rattle.std.proofs.Common.{sym}
use Rattle.ada_tree.proofs.LoneLevels.{primary_name-other}
use Rattle.ada_tree.proofs.expression.Primary.into_name.Goals as goal

pub returns : goal.returns
returns c = sym (primary_name-other c.args.self c.in_default.not-Named)
