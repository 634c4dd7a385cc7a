use Rattle.slot_words.proofs.Leaves.{global_stands}
use Rattle.slot_words.proofs.words.global.Goals as goal

pub global-requires : goal.global-requires
global-requires g c = global_stands _ _ _ c.requires
