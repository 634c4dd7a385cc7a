use Rattle.std.proofs.Common.{rules, w64, to_z, of_z}
use Rattle.std.proofs.lemmas.Result.{err_from_is_err_and}
use Rattle.slot_points.proofs.Choices.{test_reads, test_stops, test_found}
use Rattle.slot_points.proofs.branches.test.Goals as goal

pub evaluate_condition-requires-clause-whole : goal.evaluate_condition-requires-clause-whole
evaluate_condition-requires-clause-whole g c = test_reads _ _ _ _ _ c.requires.whole

pub returns-in_err-word : goal.returns-in_err-word
returns-in_err-word g c =
    let p = err_from_is_err_and c.from_residual.result c.from_residual.ensures.1 in
    rw (p.1, p.2) (test_stops _ _ _ _ _ _ c.in_err-word.ensures)

pub returns : goal.returns
returns g c = test_found _ _ _ _ _ _ (to_z w64 (of_z w64 c.in_ok-word.word)) _ c.in_ok-word.ensures c.led.ensures (search rules)
