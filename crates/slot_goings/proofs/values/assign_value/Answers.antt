use Rattle.std.proofs.Common.{ap}
use Rattle.run_results.specs.Results.{leaks_of}
use Rattle.slot_goings.proofs.Left.{assign_can, assign_goes, assign_stops}
use Rattle.slot_goings.proofs.values.assign_value.Goals as goal

pub assign-requires-clause-whole : goal.assign-requires-clause-whole
assign-requires-clause-whole g c =
    assign_can g.R.Store.Means c.args.memory.now c.args.table.now c.args.rows.now c.args.point c.args.place c.args.value c.args.of c.args.pos c.args.next c.requires.whole

pub returns-in-Ok-clause-left : goal.returns-in-Ok-clause-left
returns-in-Ok-clause-left g c =
    assign_goes g.R.Store.Means c.args.memory.now c.args.table.now c.args.rows.now c.args.point c.args.place c.args.value c.args.of c.args.pos c.args.next c.in-Ok.field-0 (leaks_of c.args.found.now.items)
    (leaks_of c.assign.new.leaks.items) c.assign.new.memory (ap leaks_of c.requires.none) c.in-Ok.ensures.assigned

pub returns-in-Err-clause-left : goal.returns-in-Err-clause-left
returns-in-Err-clause-left g c =
    assign_stops g.R.Store.Means c.args.memory.now c.args.table.now c.args.rows.now c.args.point c.args.place c.args.value c.args.of c.args.pos c.args.next c.in-Err.stop (leaks_of c.args.found.now.items)
    (leaks_of c.assign.new.leaks.items) c.assign.new.memory c.in-Err.ensures.assigned
