use Rattle.slot_words.proofs.Leaves.{local_stands}
use Rattle.slot_words.proofs.words.local.Goals as goal

pub local-requires : goal.local-requires
local-requires g c = local_stands _ _ _ c.requires
