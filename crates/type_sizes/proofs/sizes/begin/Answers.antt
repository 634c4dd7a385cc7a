use Rattle.std.proofs.Common.{◌≡◌, refl, length, replicate, false}
use Rattle.type_sizes.proofs.Sized.{first_sized}
use Rattle.type_sizes.proofs.sizes.begin.Goals as goal

pub returns : goal.returns
returns c =
    let done : c.in_ok-vec.field-0.items ≡ replicate (length c.args.table.now) false =
    c.in_ok-vec.ensures.items_if_clones_equal (λ y h. h) in
    first_sized c.args.table.now _ c.in_ok-nothing.ensures done refl
