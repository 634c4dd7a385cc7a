use Rattle.std.proofs.Common.{◌+◌, ◌<◌, length, refl, ap, sym, ◌∙◌, arith}
use Rattle.type_settled.specs.Reach.{holds, is_in}
use Rattle.type_settled.proofs.reach.find.Goals as goal
use Rattle.type_settled.proofs.Reached.{found_step}

pub returns : goal.returns
returns c =
    let room : c.args.found.now.depth + 1 < length c.args.table.now = omega (arith, c.if-room-le1.false) in
    let in_it = ap (λ ms. holds c.args.parents (is_in c.args.marks.now ms) c.index-table-t.result) (sym c.deref-else-room-le1.ensures.value)
    ∙ sym c.holds.ensures ∙ c.if-not-holds.false in
    found_step c.args.parents c.args.marks.now c.args.table.now c.args.found.now _ c.args.t c.index-table-t.result c.requires.right
    c.requires.within room c.index-table-t.is in_it refl refl
