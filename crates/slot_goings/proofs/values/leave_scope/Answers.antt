use Rattle.std.proofs.Common.{ap}
use Rattle.run_results.specs.Results.{leaks_of}
use Rattle.slot_goings.proofs.Left.{scope_can, scope_goes, scope_stops}
use Rattle.slot_goings.proofs.values.leave_scope.Goals as goal

pub end_scope-requires : goal.end_scope-requires
end_scope-requires g c =
    scope_can g.R.Store.Means c.args.memory.now c.args.table.now c.args.rows.now c.args.point c.args.at c.args.of c.args.next c.requires.whole

pub returns-in-Ok-clause-left : goal.returns-in-Ok-clause-left
returns-in-Ok-clause-left g c =
    scope_goes g.R.Store.Means c.args.memory.now c.args.table.now c.args.rows.now c.args.point c.args.at c.args.of c.args.next c.in-Ok.field-0 (leaks_of c.args.found.now.items)
    (leaks_of c.end_scope.new.leaks.items) c.end_scope.new.memory (ap leaks_of c.requires.none) c.in-Ok.ensures.ended

pub returns-in-Err-clause-left : goal.returns-in-Err-clause-left
returns-in-Err-clause-left g c =
    scope_stops g.R.Store.Means c.args.memory.now c.args.table.now c.args.rows.now c.args.point c.args.at c.args.of c.args.next c.in-Err.stop (leaks_of c.args.found.now.items)
    (leaks_of c.end_scope.new.leaks.items) c.end_scope.new.memory c.in-Err.ensures.ended
