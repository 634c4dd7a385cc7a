use Rattle.std.proofs.Common.{arith}
use Rattle.std.proofs.lemmas.Grind.{common_steps}
use Rattle.statement_rules.proofs.Swept.{swept}
use Rattle.statement_rules.proofs.cover.has_gap.Goals as goal

pub returns : goal.returns
returns c =
    let same = swept c.args.low c.args.high c.args.covers.now c.in_ok-sorted.sorted.items c.in_ok-sorted.ensures.permutation c.in_ok-sorted.ensures.sorted in
    grind (arith, common_steps, same)
