use Rattle.std.proofs.Common.{◌<◌, length, set, refl, ap, sym, ◌∙◌, arith}
use Rattle.type_settled.specs.Orders.{is_done, is_ready}
use Rattle.type_sizes.specs.Sizes.{shape_size}
use Rattle.type_sizes.proofs.Sized.{small_step, next_sized}
use Rattle.type_sizes.proofs.sizes.Sizes.settle.Goals as goal

pub shape_size-requires : goal.shape_size-requires
shape_size-requires c =
    let room : c.args.self.now.depth < length c.args.table.now = omega (arith, c.if-self-table.false) in
    let ready = ap (λ ds. is_ready (is_done ds) c.index-table-t.result) (sym c.deref.ensures.value)
    ∙ sym c.is_ready.ensures ∙ c.if-not-is_ready.false in
    rw c.deref-2.ensures.value
    (small_step c.args.table.now c.args.self.now c.args.t c.index-table-t.result c.requires.small c.requires.sized c.requires.within room
    c.index-table-t.is ready)

pub returns : goal.returns
returns c =
    let room : c.args.self.now.depth < length c.args.table.now = omega (arith, c.if-self-table.false) in
    let ready = ap (λ ds. is_ready (is_done ds) c.index-table-t.result) (sym c.deref.ensures.value)
    ∙ sym c.is_ready.ensures ∙ c.if-not-is_ready.false in
    let size = c.in_ok-size.ensures ∙ ap (λ vs. shape_size vs c.index-table-t.result.shape) c.deref-2.ensures.value in
    next_sized c.args.table.now c.args.self.now _ c.args.t c.index-table-t.result c.requires.sized c.requires.within room c.index-table-t.is ready
    (ap (λ z. set c.args.self.now.values.items c.args.t z) size) refl refl
