use Rattle.std.proofs.Common.{rules, ap}
use Rattle.std.proofs.lemmas.Int.{to_z-of_z}
use mir.Syntax.{w64}
use mir.Val.{SFits}
use Rattle.run_results.specs.Results.{leaks_of}
use Rattle.slot_goings.proofs.Left.{pointer_can, pointer_goes, pointer_stops}
use Rattle.slot_goings.proofs.values.leave_pointer.Goals as goal

pub end_pointer-word-requires : goal.end_pointer-word-requires
end_pointer-word-requires g c =
    pointer_can g.R.Store.Means c.args.memory.now c.args.table.now c.args.rows.now c.args.point c.args.at c.args.next c.requires.whole

pub returns-in-Ok-clause-left : goal.returns-in-Ok-clause-left
returns-in-Ok-clause-left g c =
    let given : SFits w64 c.end_pointer-word.result = search rules in
    let found = rw (to_z-of_z w64 c.end_pointer-word.result given) at c.in-Ok.ensures.pushed in
    pointer_goes g.R.Store.Means c.args.memory.now c.args.table.now c.args.rows.now c.args.point c.args.at c.args.next c.end_pointer-word.result (leaks_of c.args.found.now.items)
    (leaks_of c.push_leak.new.leaks.items) c.end_pointer-word.new.memory (ap leaks_of c.requires.none) c.end_pointer-word.ensures.put found

pub returns-in-Err-clause-left : goal.returns-in-Err-clause-left
returns-in-Err-clause-left g c =
    pointer_stops g.R.Store.Means c.args.memory.now c.args.table.now c.args.rows.now c.args.point c.args.at c.args.next c.in-Err.stop (leaks_of c.push_leak.new.leaks.items)
    c.end_pointer-word.new.memory c.in-Err.ensures.memory
