use Rattle.type_sizes.proofs.Sized.{whole_sized}
use Rattle.type_sizes.proofs.rounds.sizes.Goals as goal

pub returns-then-is_whole : goal.returns-then-is_whole
returns-then-is_whole c =
    whole_sized c.args.table.now c.in_ok-sizes.sizes c.in_ok-sizes.ensures (c.is_whole.ensures c.if-is_whole.true)
