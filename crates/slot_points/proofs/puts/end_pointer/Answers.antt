use Rattle.std.proofs.Common.{rules, refl, pos}
use Rattle.slot_points.proofs.Words.{end_there, end_known, end_done}
use Rattle.slot_points.proofs.puts.end_pointer.Goals as goal

pub local-word-requires : goal.local-word-requires
local-word-requires g c = end_there _ _ _ c.requires

pub put_word-requires : goal.put_word-requires
put_word-requires g c = end_known _ _ _ _ (pos 0) c.requires c.local-word.ensures refl

pub returns-clause-put : goal.returns-clause-put
returns-clause-put g c = end_done _ _ _ _ _ (pos 0) _ c.local-word.ensures c.put_word.ensures.put refl (search rules)
