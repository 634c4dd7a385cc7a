use Rattle.std.proofs.Common.{refl, sym, ◌≡◌, ◌∙◌, arith}
use Rattle.std.proofs.lemmas.Result.{err_from_is_err_and}
use Rattle.std.proofs.lemmas.Grind.{common_steps}
use Rattle.run_codes.specs.Points.{chosen}
use Rattle.code_rows.specs.Points.{choices_of}
use Rattle.slot_points.proofs.Choices.{range_is, choose_reads, choose_stops, choose_some, choose_none}
use Rattle.slot_points.proofs.branches.choose.Goals as goal

pub evaluate-requires-clause-whole : goal.evaluate-requires-clause-whole
evaluate-requires-clause-whole g c = choose_reads _ _ _ _ c.requires.whole

pub returns-in_err-word : goal.returns-in_err-word
returns-in_err-word g c =
    let p = err_from_is_err_and c.from_residual.result c.from_residual.ensures.1 in
    rw (p.1, p.2) (choose_stops _ _ _ _ _ c.in_err-word.ensures)

pub returns-in-Some : goal.returns-in-Some
returns-in-Some g c =
    let e : c.chosen.result ≡ chosen c.in_ok-word.word (choices_of c.args.rows.now c.args.choices) = grind (arith, common_steps, range_is) in
    choose_some _ _ _ _ _ _ _ c.in_ok-word.ensures (sym c.in-Some.is ∙ e) refl

pub returns-in-None : goal.returns-in-None
returns-in-None g c =
    let e : c.chosen.result ≡ chosen c.in_ok-word.word (choices_of c.args.rows.now c.args.choices) = grind (arith, common_steps, range_is) in
    choose_none _ _ _ _ _ _ _ c.in_ok-word.ensures (sym c.in-None.is ∙ e) refl refl
