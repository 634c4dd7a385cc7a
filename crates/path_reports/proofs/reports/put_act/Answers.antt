use Rattle.std.proofs.Common.{◌∙◌, ap, ◌++◌, map}
use Rattle.fact_questions.specs.Findings.{as_found}
use Rattle.move_rules.specs.MoveRules.{moves_found}
use Rattle.borrow_observe.specs.LoanRules.{loans_found}
use Rattle.report_lists.specs.Gains.{put_told}
use Rattle.flow_paths.specs.Printing.{printed_name}
use Rattle.path_reports.specs.Told.{report_found}
use Rattle.path_reports.proofs.Putting.{act_found}
use Rattle.path_reports.proofs.reports.put_act.Goals as goal

pub returns : goal.returns
returns c =
    let pos = c.args.placed.now.pos in
    let moves = moves_found c.args.placed.now.act c.args.tree.now in
    let loans = loans_found c.args.placed.now.act c.args.tree.now in
    let first = c.in_ok-test_moves.ensures ∙ ap (λ l. l ++ map as_found moves) c.new-found.ensures.items in
    c.in_ok-put_found.ensures
    ∙ ap (put_told (printed_name c.args.table.now c.args.objects.now) c.args.set.now)
    (ap (map (report_found pos)) c.deref.ensures.value
    ∙ act_found pos moves loans c.test_moves.new.found.items c.test_loans.new.found.items first c.in_ok-test_loans.ensures)
