use Rattle.std.proofs.lemmas.Result.{err_from_is_err_and}
use Rattle.std.proofs.Common.{rules, ◌≡◌, Ok, Err, ℤ, w64, to_z, of_z}
use Rattle.run_codes.specs.Flat.{checked}
use Rattle.code_rows.specs.Stops.{shown}
use Rattle.slot_points.proofs.Words.{store_reads, store_stops, store_bound_stops, store_place, store_place_stops, store_known, store_done}
use Rattle.slot_points.proofs.stores.store.Goals as goal

pub evaluate-requires-clause-whole : goal.evaluate-requires-clause-whole
evaluate-requires-clause-whole g c = store_reads _ _ _ _ _ _ _ c.requires.whole

pub returns-in_err-value-clause-stored : goal.returns-in_err-value-clause-stored
returns-in_err-value-clause-stored g c =
    let p = err_from_is_err_and c.from_residual.result c.from_residual.ensures.1 in
    rw (p.1, p.2) (store_stops _ _ _ _ _ _ _ _ c.in_err-value.ensures)

pub returns-in_err-word-clause-stored : goal.returns-in_err-word-clause-stored
returns-in_err-word-clause-stored g c =
    let p = err_from_is_err_and c.from_residual-in_err-word.result c.from_residual-in_err-word.ensures.1 in
    let h : checked c.args.low c.args.high c.in_ok-value.value ≡ shown {A = ℤ} (Err c.in_err-word.field-0.0) = search rules in
    rw (p.1, p.2) (store_bound_stops _ _ _ _ _ _ _ _ c.in_ok-value.ensures _ h)

pub spot-requires-clause-whole : goal.spot-requires-clause-whole
spot-requires-clause-whole g c =
    let h : checked c.args.low c.args.high c.in_ok-value.value ≡ shown {A = ℤ} (Ok c.in_ok-word.word) = search rules in
    store_place _ _ _ _ _ _ _ _ c.in_ok-value.ensures _ h c.requires.whole

pub returns-in_err-spot-clause-stored : goal.returns-in_err-spot-clause-stored
returns-in_err-spot-clause-stored g c =
    let p = err_from_is_err_and c.from_residual-in_err-spot.result c.from_residual-in_err-spot.ensures.1 in
    let h : checked c.args.low c.args.high c.in_ok-value.value ≡ shown {A = ℤ} (Ok c.in_ok-word.word) = search rules in
    rw (p.1, p.2) (store_place_stops _ _ _ _ _ _ _ _ c.in_ok-value.ensures _ h _ c.in_err-spot.ensures)

pub put_at-requires : goal.put_at-requires
put_at-requires g c =
    let h : checked c.args.low c.args.high c.in_ok-value.value ≡ shown {A = ℤ} (Ok c.in_ok-word.word) = search rules in
    store_known _ _ _ _ _ _ _ _ c.in_ok-value.ensures _ h _ (to_z w64 (of_z w64 c.in_ok-word.word)) c.requires.whole c.in_ok-spot.ensures (search rules)

pub returns-clause-stored : goal.returns-clause-stored
returns-clause-stored g c =
    let h : checked c.args.low c.args.high c.in_ok-value.value ≡ shown {A = ℤ} (Ok c.in_ok-word.word) = search rules in
    store_done _ _ _ _ _ _ _ _ c.in_ok-value.ensures _ h _ (to_z w64 (of_z w64 c.in_ok-word.word)) _ c.in_ok-spot.ensures c.put_at.ensures.stored (search rules)
