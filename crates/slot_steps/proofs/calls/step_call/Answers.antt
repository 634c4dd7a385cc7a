use Rattle.std.proofs.Common.{refl, ap}
use Rattle.run_results.specs.Results.{leaks_of}
use Rattle.slot_tells.proofs.slot_parts.Sights.{taken_below}
use Rattle.slot_steps.proofs.Called.{call_there, call_can, call_goes, call_halts}
use Rattle.slot_steps.proofs.calls.step_call.Goals as goal

pub call-requires-clause-there : goal.call-requires-clause-there
call-requires-clause-there g c =
    call_there g.R.Store.Means c.args.codes.now c.args.table.now c.args.point c.args.k c.args.parts.now c.requires.at c.args.sub c.args.actuals c.args.next c.requires.does

pub call-requires-clause-below : goal.call-requires-clause-below
call-requires-clause-below g c = taken_below g.R.Store.Means c.args.codes.now c.args.table.now c.args.point c.args.k c.args.parts.now c.requires.at

pub call-requires-clause-can : goal.call-requires-clause-can
call-requires-clause-can g c =
    call_can g.R.Store.Means c.args.codes.now c.args.table.now c.args.point c.args.k c.args.parts.now c.requires.at c.args.sub c.args.actuals c.args.next c.requires.does

pub returns-in-Ok : goal.returns-in-Ok
returns-in-Ok g c =
    call_goes g.R.Store.Means c.args.codes.now c.args.table.now c.args.point c.args.k c.args.parts.now c.requires.at c.args.sub c.args.actuals c.args.next c.requires.does c.in-Ok.field-0 c.tell.result
    (record c.args.parts.now { memory = c.call.new.memory; frames = c.call.new.frames; hand = c.call.new.hand; found = c.call.new.found; words = c.call.new.words }) c.tell.new.parts
    (leaks_of c.clear.new.self.items) (ap leaks_of c.clear.ensures.items) c.in-Ok.ensures.called c.in-Ok.ensures.next c.in-Ok.ensures.words c.in-Ok.ensures.lent refl refl c.tell.ensures.told c.tell.ensures.rest c.tell.ensures.memory

pub returns-in-Err : goal.returns-in-Err
returns-in-Err g c =
    call_halts g.R.Store.Means c.args.codes.now c.args.table.now c.args.point c.args.k c.args.parts.now c.requires.at c.args.sub c.args.actuals c.args.next c.requires.does
    (record { stop = c.in-Err.stop; made = c.made.result })
    (record c.args.parts.now { memory = c.call.new.memory; frames = c.call.new.frames; hand = c.call.new.hand; found = c.call.new.found; words = c.call.new.words })
    (leaks_of c.clear.new.self.items) (leaks_of c.call.new.found.items) (ap leaks_of c.clear.ensures.items) c.in-Err.ensures.called c.made.ensures c.in-Err.ensures.lent refl refl
