use Rattle.std.proofs.Common.{sym, ap, is_some}
use Rattle.ada_tree.proofs.LoneLevels.{selected_part-other}
use Rattle.ada_tree.proofs.expression.Suffix.is_selected.Goals as goal

pub returns-in_default : goal.returns-in_default
returns-in_default c = ap is_some (sym (selected_part-other c.args.self.now c.in_default.not-Selected))
