use Rattle.flow_acts.proofs.Calls.{first_below, second_below}
use Rattle.flow_acts.proofs.writer.ActWriter.turn.Goals as goal

pub returns-in-Short-clause-below : goal.returns-in-Short-clause-below
returns-in-Short-clause-below c =
    let below = rw c.in-Short.is at c.node.ensures.below in
    c.operands.ensures.below c.args.e (first_below c.args.e _ _ below) (second_below c.args.e _ _ below)
