use Rattle.std.proofs.Common.{arith}
use Rattle.std.proofs.lemmas.Grind.{common_steps}
use Rattle.expression_lowering.specs.NumberIndexes.{key_of}
use Rattle.expression_lowering.proofs.Steps.{number_step}
use Rattle.expression_lowering.proofs.number_index.by_pos.Goals as goal

pub turns-preserved : goal.turns-preserved
turns-preserved c = (
  omega arith,
  λ pos. grind (arith, common_steps, number_step, c.in_ok-insert.ensures.updates.0 (key_of pos), c.turns.invariant.1 pos),
)
