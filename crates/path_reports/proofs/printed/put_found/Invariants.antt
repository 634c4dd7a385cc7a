use Rattle.std.proofs.Common.{◌≡◌, map, drop}
use Rattle.report_lists.specs.Gains.{put_told}
use Rattle.flow_paths.specs.Printing.{printed_name}
use Rattle.path_reports.specs.Told.{report_found}
use Rattle.path_reports.proofs.printed.put_found.Given as goal

abbrev pub invariant-found : goal.invariant-found
invariant-found l =
    put_told (printed_name l.table l.objects) l.set (map (report_found l.pos) (drop l.one-index l.found))
    ≡ put_told (printed_name l.table l.objects) l.initial.set (map (report_found l.pos) l.found)
