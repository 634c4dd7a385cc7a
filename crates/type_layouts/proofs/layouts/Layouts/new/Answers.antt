use Rattle.std.proofs.Common.{◌≡◌, ◌+◌, length, sym, subst, arith}
use Rattle.type_layouts.specs.Layouts.{IsLaid, AreLaid}
use Rattle.type_layouts.proofs.Rows.{laid_more}
use Rattle.type_layouts.proofs.layouts.Layouts.new.Goals as goal

pub types-preserved : goal.types-preserved
types-preserved c =
    let number : c.in-Ok.t ≡ 0 + length c.types.rows.items = omega (arith, c.in-Ok.ensures, c.types.invariant.1) in
    let here : IsLaid c.args.table.now (0 + length c.types.rows.items) c.in_ok-laid.field-0 = subst (λ k. IsLaid c.args.table.now k c.in_ok-laid.field-0) number c.in_ok-laid.ensures in (
      subst (λ rows. AreLaid c.args.table.now 0 rows) (sym c.in_ok-push.ensures.items)
          (laid_more c.args.table.now 0 c.types.rows.items c.in_ok-laid.field-0 c.types.invariant.0 here),
      omega (arith, c.in_ok-push.ensures.len, c.types.invariant.1),
    )
