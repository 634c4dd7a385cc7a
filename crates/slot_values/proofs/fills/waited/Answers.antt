use Rattle.slot_values.proofs.Scalars.{waited_whole}
use Rattle.slot_values.proofs.fills.waited.Goals as goal

pub push_waiting-requires : goal.push_waiting-requires
push_waiting-requires g c = waited_whole g.R.Store.Means c.args.memory.now c.args.table.now c.args.at c.args.words c.requires
