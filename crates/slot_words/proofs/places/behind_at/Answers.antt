use Rattle.std.proofs.Common.{rules}
use Rattle.slot_words.proofs.Spots.{behind_at_as}
use Rattle.slot_words.proofs.places.behind_at.Goals as goal

pub in_cell-requires : goal.in_cell-requires
in_cell-requires g c =
    behind_at_as _ _ _ _ _ _ _ _ _ _ c.requires.whole c.in_ok-names.ensures c.in_ok-index.ensures c.in_ok-pointer.ensures (search rules) (search rules)
