use Rattle.std.proofs.Common.{◌≡◌, true, ap, length, length-set, set, subst, sym, ◌∙◌}
use Rattle.type_settled.specs.Holding.{AreLone}
use Rattle.type_settled.specs.Orders.{is_ready}
use Rattle.type_settled.specs.Ranks.{is_lower}
use Rattle.type_settled.proofs.ranks.lower_alone.Goals as goal
use Rattle.type_settled.proofs.ranks.lower_alone.Goals.{then-parts_lower, else-parts_lower}
use Rattle.type_settled.proofs.Ranked.{lone_step}

pub types-preserved : goal.types-preserved
types-preserved c =
    let table = c.args.table.now in
    let ranks = c.args.ranks.now in
    let i = c.index-table-t.result in
    elim c.if-parts_lower.branch [
      | then-parts_lower w ↦
          let same : c.if-parts_lower.made.items ≡ set c.types.made.items c.types.t true = ap (λ v. v.items) w.made-is in
          let ready = ap (λ r. is_ready (is_lower ranks r) i) (sym c.rank.ensures.value) ∙ sym c.parts_lower.ensures ∙ w.if-parts_lower.true in (
            ap length same ∙ length-set c.types.made.items c.types.t true ∙ c.types.invariant.0,
            lone_step table ranks c.types.made.items c.if-parts_lower.made.items c.types.t i c.requires c.types-test.true c.index-table-t.is ready
                same c.types.invariant.1,
          )
      | else-parts_lower w ↦
          let same : c.types.made.items ≡ c.if-parts_lower.made.items = sym (ap (λ v. v.items) w.made-is) in
          (ap length (sym same) ∙ c.types.invariant.0, subst (λ made. AreLone table made) same c.types.invariant.1)
    ]
