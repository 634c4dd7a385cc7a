use Rattle.std.proofs.Common.{◌≡◌, ◌++◌, map, drop}
use Rattle.report_lists.specs.PrintedReports.{Printed}
use Rattle.path_check.specs.Told.{reports_in}
use Rattle.path_check.proofs.check.in_order.Given as goal

abbrev pub invariant-ordered : goal.invariant-ordered
invariant-ordered l =
    reports_in l.reports ++ map (λ (p : Printed). p.report) (drop l.printed-index l.printed-items) ≡ map (λ (p : Printed). p.report) l.printed-items
