use Rattle.std.proofs.Common.{◌∙◌}
use Rattle.report_lists.specs.Gains.{put_told}
use Rattle.flow_paths.specs.Printing.{printed_name}
use Rattle.path_check.specs.Told.{reports_in}
use Rattle.path_check.proofs.Complete.{all_put}
use Rattle.path_check.proofs.check.all_reports.Goals as goal

pub returns-clause-reports : goal.returns-clause-reports
returns-clause-reports g c =
    let table = c.infos-table.ensures in
    let objects = c.as_slice-objects.ensures in
    let new = c.new-set.ensures in
    all_put c.args.laid.now c.args.effects.now c.args.alias.now c.args.views.now c.put_reports.new.set c.put_reports-2.new.set c.put_paths.new.set _
    c.requires.alias c.requires.views
    (c.in_ok-put_reports.ensures ∙ (λ i. put_told (printed_name (table i) (objects i)) (new i) (reports_in c.args.alias.now)))
    (c.in_ok-put_reports-2.ensures ∙ (λ i. put_told (printed_name (table i) (objects i)) c.put_reports.new.set (reports_in c.args.views.now)))
    c.in_ok-put_paths.ensures.reports c.in_ok-in_order.ensures.ordered c.in_ok-in_order.ensures.reports
