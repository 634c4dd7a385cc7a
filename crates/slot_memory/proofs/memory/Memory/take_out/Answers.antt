use Rattle.slot_memory.specs.Memory.{beyond}
use Rattle.slot_memory.specs.Spots.{spot_of}
use Rattle.slot_memory.proofs.Taking.{take_there, take_shows}
use Rattle.slot_memory.proofs.memory.Memory.take_out.Goals as goal

pub clear-requires : goal.clear-requires
clear-requires g c = take_there g.R.Store.Means c.args.self.now (beyond (spot_of c.args.spot) 0) c.requires.none c.requires.whole

pub returns-clause-settled : goal.returns-clause-settled
returns-clause-settled g c =
    take_shows g.R.Store.Means c.args.self.now (beyond (spot_of c.args.spot) 0) c.clear.new.self c.requires.none c.clear.ensures.cleared
