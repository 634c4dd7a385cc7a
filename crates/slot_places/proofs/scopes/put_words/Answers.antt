use Rattle.slot_places.proofs.Ends.{put_known, put_changes}
use Rattle.slot_places.proofs.scopes.put_words.Goals as goal

pub store_words-requires : goal.store_words-requires
store_words-requires g c = put_known _ _ _ _ _ c.local_spot-spot.ensures c.requires.whole

pub returns-clause-put : goal.returns-clause-put
returns-clause-put g c = put_changes _ _ _ _ _ _ c.local_spot-spot.ensures c.store_words.ensures.stored
