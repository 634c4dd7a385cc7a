use Rattle.std.proofs.lemmas.Result.{err_from_is_err_and}
use Rattle.std.proofs.Common.{rules, ◌≡◌, Ok, Err, ℤ, w64, to_z, of_z}
use Rattle.run_codes.specs.Flat.{checked}
use Rattle.code_rows.specs.Stops.{shown}
use Rattle.slot_points.proofs.Words.{put_reads, put_stops, put_bound_stops, put_known, put_done}
use Rattle.slot_points.proofs.puts.put.Goals as goal

pub evaluate-requires-clause-whole : goal.evaluate-requires-clause-whole
evaluate-requires-clause-whole g c = put_reads _ _ _ _ _ _ c.requires.whole

pub returns-in_err-value-clause-put : goal.returns-in_err-value-clause-put
returns-in_err-value-clause-put g c =
    let p = err_from_is_err_and c.from_residual.result c.from_residual.ensures.1 in
    rw (p.1, p.2) (put_stops _ _ _ _ _ _ _ c.in_err-value.ensures)

pub returns-in_err-word-clause-put : goal.returns-in_err-word-clause-put
returns-in_err-word-clause-put g c =
    let p = err_from_is_err_and c.from_residual-in_err-word.result c.from_residual-in_err-word.ensures.1 in
    let h : checked c.args.low c.args.high c.in_ok-value.value ≡ shown {A = ℤ} (Err c.in_err-word.field-0.0) = search rules in
    rw (p.1, p.2) (put_bound_stops _ _ _ _ _ _ _ _ c.in_ok-value.ensures h)

pub put_word-requires : goal.put_word-requires
put_word-requires g c =
    let h : checked c.args.low c.args.high c.in_ok-value.value ≡ shown {A = ℤ} (Ok c.in_ok-word.word) = search rules in
    put_known _ _ _ _ _ _ _ _ (to_z w64 (of_z w64 c.in_ok-word.word)) c.requires.whole c.in_ok-value.ensures h (search rules)

pub returns-clause-put : goal.returns-clause-put
returns-clause-put g c =
    let h : checked c.args.low c.args.high c.in_ok-value.value ≡ shown {A = ℤ} (Ok c.in_ok-word.word) = search rules in
    put_done _ _ _ _ _ _ _ _ (to_z w64 (of_z w64 c.in_ok-word.word)) _ c.in_ok-value.ensures h c.put_word.ensures.put (search rules)
