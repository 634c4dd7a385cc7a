use Rattle.std.proofs.Common.{rules}
use Rattle.slot_words.proofs.Spots.{behind_pointer, behind_as}
use Rattle.slot_words.proofs.places.behind.Goals as goal

pub word-requires-clause-whole : goal.word-requires-clause-whole
word-requires-clause-whole g c = behind_pointer _ _ _ _ c.requires.whole

pub in_cell-requires : goal.in_cell-requires
in_cell-requires g c = behind_as _ _ _ _ _ _ _ c.requires.whole c.in_ok-pointer.ensures (search rules) (search rules)
