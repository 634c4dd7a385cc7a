use Rattle.std.proofs.Common.{◌+◌, ap, below_more, sym, ◌∙◌}
use Rattle.type_settled.specs.Orders.{is_ready}
use Rattle.type_settled.specs.Ranks.{IsRanked, is_lower}
use Rattle.type_settled.proofs.ranks.are_ranks.Goals as goal
use Rattle.type_settled.proofs.Ranked.{ranks_step}

pub types-preserved : goal.types-preserved
types-preserved c =
    let table = c.args.table.now in
    let ranks = c.args.ranks.now in
    let i = c.index-table-t.result in
    let ready = ap (λ r. is_ready (is_lower ranks (r + 1)) i) (sym c.rank-limit.ensures.value)
    ∙ sym c.parts_lower.ensures ∙ c.if-not-parts_lower.false in
    let based = ap (λ r. is_lower ranks (r + 1) i.base) (sym c.rank-limit.ensures.value) ∙ sym c.is_lower.ensures ∙ c.if-not-is_lower.false in
    below_more (IsRanked table ranks) c.types.t c.types.invariant
    (ranks_step table ranks c.types.t i c.types-test.true c.index-table-t.is ready based)
