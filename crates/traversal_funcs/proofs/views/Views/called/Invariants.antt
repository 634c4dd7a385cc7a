use Rattle.std.proofs.Common.{◌≡◌, ◌++◌, map, take}
use Rattle.flow_paths.specs.Reports.{report_of}
use Rattle.traversal_funcs.specs.Instructions.{instruction, procedure_of}
use Rattle.traversal_funcs.specs.Lists.{written_reports, called_by}
use Rattle.traversal_funcs.proofs.views.Views.called.Given as goal

abbrev pub invariant-written : goal.invariant-written
invariant-written l =
    map report_of l.to.items ≡ map report_of l.initial.to.items
    ++ written_reports l.point.pos (take l.g-index (called_by l.effects (procedure_of (instruction l.self.rows.now l.point.instr))))
