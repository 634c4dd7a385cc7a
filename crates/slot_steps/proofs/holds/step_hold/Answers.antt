use Rattle.std.proofs.Common.{refl}
use Rattle.slot_tells.proofs.slot_parts.Sights.{within_at, taken_below}
use Rattle.slot_steps.proofs.Held.{hold_there, hold_can, hold_goes, hold_halts}
use Rattle.slot_steps.proofs.holds.step_hold.Goals as goal

pub hold-requires-clause-within : goal.hold-requires-clause-within
hold-requires-clause-within g c = within_at g.R.Store.Means c.args.codes.now c.args.table.now c.args.point c.args.k c.args.parts.now c.requires.at

pub hold-requires-clause-there : goal.hold-requires-clause-there
hold-requires-clause-there g c =
    hold_there g.R.Store.Means c.args.codes.now c.args.table.now c.args.point c.args.k c.args.parts.now c.requires.at c.args.value c.args.of c.args.next c.requires.does

pub hold-requires-clause-waits : goal.hold-requires-clause-waits
hold-requires-clause-waits g c = taken_below g.R.Store.Means c.args.codes.now c.args.table.now c.args.point c.args.k c.args.parts.now c.requires.at

pub hold-requires-clause-whole : goal.hold-requires-clause-whole
hold-requires-clause-whole g c =
    hold_can g.R.Store.Means c.args.codes.now c.args.table.now c.args.point c.args.k c.args.parts.now c.requires.at c.args.value c.args.of c.args.next c.requires.does

pub returns-in-Ok : goal.returns-in-Ok
returns-in-Ok g c =
    hold_goes g.R.Store.Means c.args.codes.now c.args.table.now c.args.point c.args.k c.args.parts.now c.requires.at c.args.value c.args.of c.args.next c.requires.does _
    (record c.args.parts.now { memory = c.hold.new.memory; frames = c.hold.new.frames; hand = c.hold.new.hand }) c.in-Ok.ensures.held refl c.in-Ok.ensures.lent refl refl

pub returns-in-Err : goal.returns-in-Err
returns-in-Err g c =
    hold_halts g.R.Store.Means c.args.codes.now c.args.table.now c.args.point c.args.k c.args.parts.now c.requires.at c.args.value c.args.of c.args.next c.requires.does
    (record { stop = c.in-Err.stop; made = c.made.result })
    (record c.args.parts.now { memory = c.hold.new.memory; frames = c.hold.new.frames; hand = c.hold.new.hand }) c.in-Err.ensures.held c.in-Err.ensures.lent refl refl c.made.ensures
