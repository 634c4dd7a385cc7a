use Rattle.std.proofs.Common.{◌∙◌, ap, map, length}
use Rattle.fact_questions.specs.Findings.{found_among}
use Rattle.report_lists.specs.Gains.{put_told}
use Rattle.flow_paths.specs.Printing.{printed_name}
use Rattle.state_trees.specs.FactStates.{may_hold}
use Rattle.path_reports.specs.Told.{report_found}
use Rattle.path_reports.specs.Uses.{use_forbids}
use Rattle.path_reports.proofs.Putting.{reports_found}
use Rattle.path_reports.proofs.called.put_uses.Goals as goal

pub returns : goal.returns
returns c =
    let forbids = use_forbids (length c.args.objects.now) c.args.read.now c.args.written.now in
    c.in_ok-put_found.ensures
    ∙ ap (put_told (printed_name c.args.table.now c.args.objects.now) c.args.set.now)
    (ap (map (report_found c.args.pos)) (c.deref.ensures.value ∙ c.in_ok-found.ensures)
    ∙ reports_found c.args.pos (found_among forbids (may_hold c.args.tree.now)))
