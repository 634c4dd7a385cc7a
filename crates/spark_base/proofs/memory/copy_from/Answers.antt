use Rattle.std.proofs.Common.{arith}
use Rattle.std.proofs.lemmas.Grind.{common_steps}
use Rattle.spark_base.proofs.Pieces.{copied_piece}
use Rattle.spark_base.proofs.memory.copy_from.Goals as goal

pub returns-clause-copied : goal.returns-clause-copied
returns-clause-copied c = copied_piece c.args.bytes.now c.copy_from_slice.new.self _ c.args.at c.min-count.result (grind (arith, common_steps)) (grind (arith, common_steps))
