use Rattle.slot_words.proofs.Leaves.{waiting_stands}
use Rattle.slot_words.proofs.words.waiting.Goals as goal

pub waiting-requires : goal.waiting-requires
waiting-requires g c = waiting_stands _ _ _ c.requires
