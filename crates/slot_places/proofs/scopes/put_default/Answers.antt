use Rattle.slot_places.proofs.Ends.{default_known, default_put}
use Rattle.slot_places.proofs.scopes.put_default.Goals as goal

pub put_words-requires-clause-whole : goal.put_words-requires-clause-whole
put_words-requires-clause-whole g c = default_known _ _ _ _ _ _ _ c.clear.ensures c.in_ok-push_default.ensures.pushed c.words.ensures c.requires.whole

pub returns-clause-put : goal.returns-clause-put
returns-clause-put g c = default_put _ _ _ _ _ _ _ _ c.clear.ensures c.in_ok-push_default.ensures.pushed c.words.ensures c.put_words.ensures.put
