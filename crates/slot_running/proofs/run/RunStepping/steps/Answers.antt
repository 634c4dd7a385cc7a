use Rattle.std.proofs.Common.{Some, None}
use Rattle.slot_running.proofs.Runs.{steps_kept, steps_can, steps_on, steps_over, steps_lent}
use Rattle.slot_running.proofs.run.RunStepping.steps.Goals as goal

pub turns-requires-clause-kept : goal.turns-requires-clause-kept
turns-requires-clause-kept g c =
    steps_kept g.R.Store.Means c.args.self.now c.self.inside.codes c.self.inside.table c.self.inside.input.now c.self.inside.parts c.self.inside.over c.self.view_is c.args.limit c.requires.going
    c.self.invariant.1

pub turns-requires-clause-can : goal.turns-requires-clause-can
turns-requires-clause-can g c =
    steps_can g.R.Store.Means c.args.self.now c.self.inside.codes c.self.inside.table c.self.inside.input.now c.self.inside.parts c.self.inside.over c.self.view_is c.args.limit c.requires.going

pub returns-in-Ok-default-None-clause-led : goal.returns-in-Ok-default-None-clause-led
returns-in-Ok-default-None-clause-led g c =
    steps_on g.R.Store.Means c.args.self.now c.self.inside.codes c.self.inside.table c.self.inside.input.now c.self.inside.parts c.self.inside.over c.self.view_is c.args.limit c.requires.going
    c.in-Ok-default-None.made c.turns.new.parts (rw c.in-Ok-default-None.field-0-1-is at c.in-Ok-default-None.ensures)

pub returns-in-Ok-default-Some-clause-led : goal.returns-in-Ok-default-Some-clause-led
returns-in-Ok-default-Some-clause-led g c =
    steps_over g.R.Store.Means c.args.self.now c.self.inside.codes c.self.inside.table c.self.inside.input.now c.self.inside.parts c.self.inside.over c.self.view_is c.args.limit c.requires.going
    c.in-Ok-default-Some.made c.turns.new.parts c.in-Ok-default-Some.over (rw c.in-Ok-default-Some.field-0-1-is at c.in-Ok-default-Some.ensures)

pub returns-in-Ok-default-None-clause-lent : goal.returns-in-Ok-default-None-clause-lent
returns-in-Ok-default-None-clause-lent g c =
    steps_lent g.R.Store.Means c.args.self.now c.self.inside.codes c.self.inside.table c.self.inside.input.now c.self.inside.parts c.self.inside.over c.self.view_is c.args.limit c.requires.going
    None c.in-Ok-default-None.made c.turns.new.parts (rw c.in-Ok-default-None.field-0-1-is at c.in-Ok-default-None.ensures)

pub returns-in-Ok-default-Some-clause-lent : goal.returns-in-Ok-default-Some-clause-lent
returns-in-Ok-default-Some-clause-lent g c =
    steps_lent g.R.Store.Means c.args.self.now c.self.inside.codes c.self.inside.table c.self.inside.input.now c.self.inside.parts c.self.inside.over c.self.view_is c.args.limit c.requires.going
    (Some c.in-Ok-default-Some.over) c.in-Ok-default-Some.made c.turns.new.parts (rw c.in-Ok-default-Some.field-0-1-is at c.in-Ok-default-Some.ensures)
