use Rattle.std.proofs.Common.{arith}
use Rattle.std.proofs.lemmas.Grind.{common_steps}
use Rattle.typed_expressions.proofs.Numbers.{place_step}
use Rattle.typed_expressions.proofs.numbering.places.Goals as goal

pub turns-preserved : goal.turns-preserved
turns-preserved c = (
  omega arith,
  λ d. grind (arith, common_steps, place_step, c.in_ok-insert.ensures.updates.0 d, c.turns.invariant.1 d),
)
