use Rattle.std.proofs.Common.{◌<◌, length, refl, ap, sym, ◌∙◌, arith}
use Rattle.type_settled.specs.Orders.{is_done, is_ready}
use Rattle.type_sorts.proofs.Sorted.{next_looks}
use Rattle.type_sorts.proofs.looked.Looked.settle.Goals as goal

pub returns : goal.returns
returns c =
    let room : c.args.self.now.depth < length c.args.table.now = omega (arith, c.if-self-table.false) in
    let ready = ap (λ ds. is_ready (is_done ds) c.index-table-t.result) (sym c.deref.ensures.value)
    ∙ sym c.is_ready.ensures ∙ c.if-not-is_ready.false in
    next_looks c.args.table.now c.args.self.now.done.items _ c.args.self.now.depth _ c.args.t c.index-table-t.result c.requires.looks c.requires.within room
    c.index-table-t.is ready refl refl
