use Rattle.std.proofs.Common.{◌≡◌, drop}
use Rattle.report_lists.specs.Gains.{put_told}
use Rattle.flow_paths.specs.Printing.{printed_name}
use Rattle.point_states.specs.Carries.{state_along, acts_of}
use Rattle.path_reports.specs.Told.{told_along}
use Rattle.path_reports.proofs.reports.put_acts.Given as goal

abbrev pub invariant-acts : goal.invariant-acts
invariant-acts l =
    (state_along (acts_of (drop l.placed-index l.acts)) l.tree ≡ state_along (acts_of l.acts) l.initial.tree)
    × (put_told (printed_name l.table l.objects) l.set (told_along (drop l.placed-index l.acts) l.tree)
    ≡ put_told (printed_name l.table l.objects) l.initial.set (told_along l.acts l.initial.tree))
