use Rattle.std.proofs.Common.{◌≡◌, refl, ap, ◌∙◌, length, replicate, false}
use Rattle.type_settled.specs.Measures.{marked}
use Rattle.type_settled.proofs.order.begin.Goals as goal
use Rattle.type_settled.proofs.Orders.{ordered_first}

pub returns : goal.returns
returns c =
    let values : c.in_ok-vec.field-0.items ≡ replicate (length c.args.table.now) c.nothing.result =
    c.in_ok-vec.ensures.items_if_clones_equal (λ y h. h) in
    let done : c.in_ok-vec-2.field-0.items ≡ replicate (length c.args.table.now) false =
    c.in_ok-vec-2.ensures.items_if_clones_equal (λ y h. h) in
    ordered_first (marked c.args.unsound.now) c.args.table.now _
    (values ∙ ap (λ m. replicate (length c.args.table.now) m) c.nothing.ensures) done refl
