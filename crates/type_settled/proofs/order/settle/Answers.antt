use Rattle.std.proofs.Common.{◌<◌, length, set, refl, ap, sym, ◌∙◌, arith}
use Rattle.type_settled.specs.Measures.{marked, part_in, info_measure}
use Rattle.type_settled.specs.Orders.{is_done, is_ready}
use Rattle.type_settled.proofs.order.settle.Goals as goal
use Rattle.type_settled.proofs.Orders.{ordered_step}

pub returns : goal.returns
returns c =
    let room : c.args.order.now.depth < length c.args.table.now = omega (arith, c.if-order-table.false) in
    let ready = ap (λ ds. is_ready (is_done ds) c.index-table-t.result) (sym c.deref-else-order-table.ensures.value)
    ∙ sym c.is_ready.ensures ∙ c.if-not-is_ready.false in
    let measure = c.info_measure.ensures
    ∙ ap (λ vs. info_measure (part_in c.args.unsound.now vs) c.index-table-t.result) c.deref-2.ensures.value in
    ordered_step (marked c.args.unsound.now) c.args.table.now c.args.order.now _ c.args.t c.index-table-t.result c.requires.ordered c.requires.within
    room c.index-table-t.is ready (ap (λ m. set c.args.order.now.values.items c.args.t m) measure) refl refl
