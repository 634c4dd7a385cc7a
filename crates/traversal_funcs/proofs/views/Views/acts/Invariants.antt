use Rattle.std.proofs.Common.{◌≡◌, ◌++◌, map, take}
use Rattle.std.specs.List.{flat_map}
use Rattle.place_names.specs.declared.act.Placed.{Placed}
use Rattle.flow_paths.specs.Reports.{report_of}
use Rattle.traversal_funcs.specs.Instructions.{instruction}
use Rattle.traversal_funcs.specs.Lists.{act_reports}
use Rattle.traversal_funcs.proofs.views.Views.acts.Given as goal

abbrev pub invariant-acts : goal.invariant-acts
invariant-acts l =
    map report_of l.to.items ≡ map report_of l.initial.to.items
    ++ flat_map (λ (a : Placed). act_reports l.self (instruction l.self.rows.now l.point.instr) a.pos a.act) (take l.placed-index l.point.acts)
