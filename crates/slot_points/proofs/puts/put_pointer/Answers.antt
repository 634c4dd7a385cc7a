use Rattle.std.proofs.lemmas.Result.{err_from_is_err_and}
use Rattle.std.proofs.Common.{rules, w64, to_z, of_z}
use Rattle.slot_points.proofs.Words.{pointer_reads, pointer_stops, pointer_known, pointer_done}
use Rattle.slot_points.proofs.puts.put_pointer.Goals as goal

pub operand-requires-clause-whole : goal.operand-requires-clause-whole
operand-requires-clause-whole g c = pointer_reads _ _ _ _ c.requires.whole

pub returns-in_err-word-clause-put : goal.returns-in_err-word-clause-put
returns-in_err-word-clause-put g c =
    let p = err_from_is_err_and c.from_residual.result c.from_residual.ensures.1 in
    rw (p.1, p.2) (pointer_stops _ _ _ _ _ c.in_err-word.ensures)

pub put_word-requires : goal.put_word-requires
put_word-requires g c = pointer_known _ _ _ _ _ (to_z w64 (of_z w64 c.in_ok-word.word)) c.requires.whole c.in_ok-word.ensures (search rules)

pub returns-clause-put : goal.returns-clause-put
returns-clause-put g c = pointer_done _ _ _ _ _ (to_z w64 (of_z w64 c.in_ok-word.word)) _ c.in_ok-word.ensures c.put_word.ensures.put (search rules)
