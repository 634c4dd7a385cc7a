use Rattle.std.proofs.Common.{sym}
use Rattle.ada_tree.proofs.LoneLevels.{selected_part-other}
use Rattle.ada_tree.proofs.expression.Suffix.into_part.Goals as goal

pub returns : goal.returns
returns c = sym (selected_part-other c.args.self c.in_default.not-Selected)
