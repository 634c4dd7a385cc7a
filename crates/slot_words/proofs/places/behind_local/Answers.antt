use Rattle.std.proofs.Common.{rules}
use Rattle.slot_words.proofs.Spots.{behind_pointer, behind_as}
use Rattle.slot_words.proofs.places.behind_local.Goals as goal

pub local-pointer-requires : goal.local-pointer-requires
local-pointer-requires g c = behind_pointer _ _ _ _ c.requires

pub in_cell-requires : goal.in_cell-requires
in_cell-requires g c = behind_as _ _ _ _ _ _ _ c.requires c.local-pointer.ensures (search rules) (search rules)
