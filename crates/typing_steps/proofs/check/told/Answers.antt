use Rattle.std.proofs.Common.{map, true}
use Rattle.resolved_tree.specs.Nodes.{code_at}
use Rattle.type_definitions.specs.Whole.{fault_known, known_of, known_with, type_fault}
use Rattle.typing_steps.proofs.Faults.{first_told, not_memory, other_told, with_units}
use Rattle.typing_steps.proofs.check.told.Goals as goal

pub returns-in-Ok : goal.returns-in-Ok
unfolding type_fault
returns-in-Ok c =
    let program = with_units c.args.count (map (code_at c.args.rows.now) c.args.units.now) in
    first_told c.args.refusal (fault_known (known_of program) program.units) (fault_known (known_with true program) program.units)
    c.requires.said c.in-Ok.ensures

pub returns-in-Err : goal.returns-in-Err
unfolding type_fault
returns-in-Err c =
    let program = with_units c.args.count (map (code_at c.args.rows.now) c.args.units.now) in
    other_told c.args.refusal c.in-Err.other (fault_known (known_of program) program.units) (fault_known (known_with true program) program.units)
    (not_memory c.args.refusal c.is_memory.result c.is_memory.ensures.1 c.if-is_memory.false) c.requires.said c.in-Err.ensures
