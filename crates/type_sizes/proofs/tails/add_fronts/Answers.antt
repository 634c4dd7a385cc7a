use Rattle.type_sizes.proofs.AccessParts.{short_item}
use Rattle.type_sizes.proofs.tails.add_fronts.Goals as goal

pub with_front-requires : goal.with_front-requires
with_front-requires c =
    short_item c.args.sel c.args.tails.now c.tails.tail-index c.tail-item.result c.requires c.tails-test.true c.tail-item.is
