use Rattle.std.proofs.Common.{ap, refl}
use Rattle.slot_memory.specs.Memory.{Elsewhere}
use Rattle.slot_tells.proofs.slot_parts.Sights.{sound_at, does_at}
use Rattle.slot_tells.proofs.slot_parts.Leads.{halts_by}
use Rattle.slot_steps.proofs.Values.{values_can, values_halt, values_steps, waits_told, words_told}
use Rattle.slot_steps.proofs.changes.step_values.Goals as goal

pub change_values-requires-clause-sound : goal.change_values-requires-clause-sound
change_values-requires-clause-sound g c = sound_at g.R.Store.Means c.args.codes.now c.args.table.now c.args.point.now c.args.k c.args.parts.now c.requires.at

pub change_values-requires-clause-there : goal.change_values-requires-clause-there
change_values-requires-clause-there g c = does_at g.R.Store.Means c.args.codes.now c.args.table.now c.args.point.now c.args.k c.args.parts.now c.requires.at

pub change_values-requires-clause-whole : goal.change_values-requires-clause-whole
change_values-requires-clause-whole g c =
    values_can g.R.Store.Means c.args.codes.now c.args.table.now c.args.point.now c.args.k c.args.parts.now c.requires.at c.requires.group

pub go-requires-clause-waits : goal.go-requires-clause-waits
go-requires-clause-waits g c =
    waits_told g.R.Store.Means c.args.codes.now c.args.table.now c.args.point.now c.args.k c.args.parts.now c.requires.at c.requires.group
    (record c.args.parts.now { memory = c.change_values.new.memory; hand = c.change_values.new.hand; found = c.change_values.new.found }) c.tell.new.parts
    c.in_ok-tell-in-Ok.ensures.rest refl c.in-Ok.ensures.elsewhere

pub go-requires-clause-words : goal.go-requires-clause-words
go-requires-clause-words g c =
    words_told g.R.Store.Means c.args.codes.now c.args.table.now c.args.point.now c.args.k c.args.parts.now c.requires.at c.requires.group
    (record c.args.parts.now { memory = c.change_values.new.memory; hand = c.change_values.new.hand; found = c.change_values.new.found }) c.tell.new.parts
    c.in_ok-tell-in-Ok.ensures.rest refl refl

pub returns-in_ok-tell-in-Ok : goal.returns-in_ok-tell-in-Ok
returns-in_ok-tell-in-Ok g c =
    values_steps g.R.Store.Means c.args.codes.now c.args.table.now c.args.point.now c.args.k c.args.parts.now c.requires.at c.requires.group c.in-Ok.next
    (record c.args.parts.now { memory = c.change_values.new.memory; hand = c.change_values.new.hand; found = c.change_values.new.found }) c.tell.new.parts
    c.go.new.parts c.go.result c.in-Ok.ensures.elsewhere refl refl refl c.in-Ok.ensures.left c.in_ok-tell-in-Ok.ensures.told c.in_ok-tell-in-Ok.ensures.rest c.go.ensures.led c.go.ensures.memory

pub returns-in-Err : goal.returns-in-Err
returns-in-Err g c =
    halts_by g.R.Store.Means c.args.codes.now c.args.table.now c.args.point.now c.args.k c.args.parts.now c.requires.at
    (record { stop = c.in-Err.stop; made = c.made.result })
    (record c.args.parts.now { memory = c.change_values.new.memory; hand = c.change_values.new.hand; found = c.change_values.new.found })
    (λ other. ap (λ (e : Elsewhere). e.lent) c.in-Err.ensures.elsewhere) refl refl
    (λ other h stands fine. values_halt g.R.Store.Means c.args.codes.now c.args.table.now c.args.point.now c.args.k c.args.parts.now c.requires.at c.requires.group h stands fine
    c.in-Err.stop c.made.result _ c.change_values.new.memory c.in-Err.ensures.left c.made.ensures other)
