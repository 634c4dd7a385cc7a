use Rattle.std.proofs.Common.{rules, w64, to_z, of_z}
use Rattle.slot_points.proofs.Words.{one_there, one_changes}
use Rattle.slot_points.proofs.puts.put_word.Goals as goal

pub put-requires : goal.put-requires
put-requires g c = one_there _ _ _ _ c.requires

pub returns-clause-put : goal.returns-clause-put
returns-clause-put g c = one_changes _ _ _ _ _ (to_z w64 (of_z w64 c.args.word)) c.put.ensures (search rules)
