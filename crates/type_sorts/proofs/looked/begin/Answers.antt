use Rattle.std.proofs.Common.{◌≡◌, refl, length, replicate, false}
use Rattle.type_sorts.proofs.Sorted.{first_looks}
use Rattle.type_sorts.proofs.looked.begin.Goals as goal

pub returns : goal.returns
returns c =
    let done : c.in_ok-vec.field-0.items ≡ replicate (length c.args.table.now) false =
    c.in_ok-vec.ensures.items_if_clones_equal (λ y h. h) in
    first_looks c.args.table.now _ _ done refl
