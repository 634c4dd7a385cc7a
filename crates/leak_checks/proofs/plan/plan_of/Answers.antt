use Rattle.std.proofs.Common.{subst}
use Rattle.flow_paths.specs.Printing.{printed_name}
use Rattle.laid_program.specs.Programs.{program_of}
use Rattle.leak_checks.specs.Plan.{AreSorted}
use Rattle.leak_checks.proofs.Ordered.{planned}
use Rattle.leak_checks.proofs.plan.plan_of.Goals as goal

pub returns-clause-plan : goal.returns-clause-plan
returns-clause-plan g c effects =
    let table = c.infos-table.result.now in
    let objects = c.as_slice-objects.result.now in
    let plan = c.in_ok-in_order.field-0.items in
    planned (program_of c.args.laid.now) effects table objects c.in_ok-lines.lines.items plan c.infos-table.ensures c.as_slice-objects.ensures
    (c.in_ok-lines.ensures.lines effects) (subst (λ l. AreSorted (printed_name table objects) l plan) c.deref.ensures.value c.in_ok-in_order.ensures)
