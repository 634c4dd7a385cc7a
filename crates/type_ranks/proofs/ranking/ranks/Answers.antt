use Rattle.std.proofs.Common.{arith}
use Rattle.type_ranks.proofs.Stages.{stage_last}
use Rattle.type_ranks.proofs.ranking.ranks.Goals as goal

pub returns : goal.returns
returns c rank are =
    let r = c.types.ranking in
    stage_last rank c.args.table.now are r.entered.items r.ranks.items r.last (c.types.invariant.1 rank are)
    (λ t within. c.types.invariant.2 t (omega (arith, c.types-test.false, within)))
