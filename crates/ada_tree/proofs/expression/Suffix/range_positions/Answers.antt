use Rattle.std.proofs.Common.{sym}
use Rattle.ada_tree.proofs.LoneLevels.{range_positions-other}
use Rattle.ada_tree.proofs.expression.Suffix.range_positions.Goals as goal

pub returns-in_default : goal.returns-in_default
returns-in_default c = sym (range_positions-other c.args.self.now c.in_default.not-RangeAttribute)
