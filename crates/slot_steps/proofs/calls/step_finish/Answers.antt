use Rattle.std.proofs.Common.{refl}
use Rattle.slot_steps.proofs.Finished.{finish_can, finish_goes, finish_halts}
use Rattle.slot_steps.proofs.calls.step_finish.Goals as goal

pub finish-requires-clause-can : goal.finish-requires-clause-can
finish-requires-clause-can g c =
    finish_can g.R.Store.Means c.args.codes.now c.args.table.now c.args.point c.args.k c.args.parts.now c.requires.at c.requires.does

pub returns-in-Ok : goal.returns-in-Ok
returns-in-Ok g c =
    finish_goes g.R.Store.Means c.args.codes.now c.args.table.now c.args.point c.args.k c.args.parts.now c.requires.at c.requires.does c.in-Ok.others
    (record c.args.parts.now { memory = c.finish.new.memory; frames = c.finish.new.frames; hand = c.finish.new.hand; words = c.finish.new.words }) c.in-Ok.ensures.finished c.in-Ok.ensures.words
    c.in-Ok.ensures.lent refl refl

pub returns-in-Err : goal.returns-in-Err
returns-in-Err g c =
    finish_halts g.R.Store.Means c.args.codes.now c.args.table.now c.args.point c.args.k c.args.parts.now c.requires.at c.requires.does
    (record { stop = c.in-Err.stop; made = c.made.result })
    (record c.args.parts.now { memory = c.finish.new.memory; frames = c.finish.new.frames; hand = c.finish.new.hand; words = c.finish.new.words }) c.in-Err.ensures.finished c.made.ensures c.in-Err.ensures.lent refl refl
