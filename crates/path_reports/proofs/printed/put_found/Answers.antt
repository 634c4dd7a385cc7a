use Rattle.flow_paths.specs.Printing.{printed_name}
use Rattle.path_reports.proofs.Putting.{found_next, found_done}
use Rattle.std.proofs.Common.{◌∙◌, ap}
use Rattle.std.specs.BTreeSet.{insert_key}
use Rattle.report_lists.specs.PrintedReports.{printed_cmp}
use Rattle.path_reports.proofs.printed.put_found.Goals as goal

pub found-preserved : goal.found-preserved
found-preserved c =
    found_next (printed_name c.args.table.now c.args.objects.now) c.args.pos c.args.found.now c.found.one-index c.one-item.result c.one-item.result
    c.found.set c.insert.new.self _ c.found-test.true c.one-item.is
    (c.in_ok-insert.ensures.ok ∙ ap (insert_key printed_cmp c.found.set) c.in_ok-printed_report.ensures) c.found.invariant

pub returns : goal.returns
returns c =
    found_done (printed_name c.args.table.now c.args.objects.now) c.args.pos c.args.found.now c.found.one-index _ _ c.found-test.false c.found.invariant
