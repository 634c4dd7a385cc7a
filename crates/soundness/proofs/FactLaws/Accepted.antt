-- In an accepted program, each act of each control path is allowed by each fact before it.
use Rattle.std.proofs.Common.{◌≡◌, refl, [], Option, Some, None}
use Rattle.machine.specs.spark_base.Lists.{Has}
use Rattle.machine.specs.place_names.Rules.{Forbidden, forbids}
use Rattle.machine.specs.place_names.Reports.{report_at}
use Rattle.machine.specs.flow_paths.declared.report.Effects.{Effects}
use Rattle.machine.specs.flow_paths.Laid.{FlowSub, FlowProgram}
use Rattle.machine.specs.flow_paths.Effects.{path_points}
use Rattle.machine.specs.flow_paths.Reports.{AreReports, on_paths}
use Rattle.soundness.specs.FactLaws.Allowed.{ArePathsAllowed}

none_found : (o : Option Forbidden) → ((found : Forbidden) → o ≡ Some found → ⊥) → o ≡ None
none_found None never = refl
none_found (Some found) never = absurd (never found refl)

pub accepted_allows : (program : FlowProgram) (effects : Effects) → AreReports program effects []
    → (sub : FlowSub) → Has program.subs sub → ArePathsAllowed (path_points program effects sub)
accepted_allows program effects accepted sub has before last path front placed rest split fact holds =
    none_found (forbids placed.act fact) (λ found forbidden.
    accepted.complete (report_at placed.pos found) (on_paths sub has (record {
      before = before;
      last = last;
      path = path;
      front = front;
      placed = placed;
      rest = rest;
      split = split;
      fact = fact;
      holds = holds;
      found = found;
      forbidden = forbidden;
      reported = refl;
    })))
