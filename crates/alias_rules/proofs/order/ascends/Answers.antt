use Rattle.std.proofs.Common.{arith}
use Rattle.alias_rules.proofs.Ascending.{ascends_by_next}
use Rattle.alias_rules.proofs.order.ascends.Goals as goal

pub returns : goal.returns
returns c = λ yes. ascends_by_next c.args.list.now (λ k within. c.list.invariant k (omega arith))
