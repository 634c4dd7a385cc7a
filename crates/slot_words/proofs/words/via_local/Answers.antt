use Rattle.std.proofs.Common.{rules}
use Rattle.slot_words.proofs.Behind.{via_as}
use Rattle.slot_words.proofs.words.via_local.Goals as goal

pub behind-requires : goal.behind-requires
behind-requires g c = via_as _ _ _ _ _ _ _ _ c.requires c.local-pointer.ensures (search rules) (search rules)
