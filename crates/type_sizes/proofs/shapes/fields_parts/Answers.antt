use Rattle.std.proofs.Common.{refl}
use Rattle.type_sizes.specs.Sizes.{parts_in}
use Rattle.type_sizes.proofs.AccessParts.{next_short, next_parts}
use Rattle.type_sizes.proofs.shapes.fields_parts.Goals as goal

pub add_fronts-requires : goal.add_fronts-requires
add_fronts-requires c =
    next_short (parts_in c.args.sizes.now) c.args.components.now c.components.i c.index-components-i.result c.in_ok-number.number
    c.parts_in.result.now c.components.made.items c.components-test.true c.components.invariant c.index-components-i.is c.in_ok-number.ensures
    c.parts_in.ensures c.requires

pub components-preserved : goal.components-preserved
components-preserved c =
    next_parts (parts_in c.args.sizes.now) c.args.components.now c.components.i c.index-components-i.result c.in_ok-number.number
    c.parts_in.result.now c.components.made.items c.components-test.true c.components.invariant c.index-components-i.is c.in_ok-number.ensures
    c.parts_in.ensures c.add_fronts.new.made.items _ c.in_ok-add_fronts.ensures refl
