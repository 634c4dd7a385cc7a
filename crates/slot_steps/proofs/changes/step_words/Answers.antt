use Rattle.std.proofs.Common.{ap, refl}
use Rattle.slot_memory.specs.Memory.{Elsewhere}
use Rattle.code_rows.specs.Points.{next_of, program_of}
use Rattle.slot_tells.specs.slot_parts.Goes.{IsLed}
use Rattle.slot_tells.proofs.slot_parts.Sights.{does_at, taken_below, below_by}
use Rattle.slot_tells.proofs.slot_parts.Leads.{goes_by, halts_by, leads_by}
use Rattle.slot_steps.proofs.Words.{words_whole, words_go, words_halt}
use Rattle.slot_steps.proofs.changes.step_words.Goals as goal

pub change_words-requires-clause-there : goal.change_words-requires-clause-there
change_words-requires-clause-there g c = does_at g.R.Store.Means c.args.codes.now c.args.table.now c.args.point.now c.args.k c.args.parts.now c.requires.at

pub change_words-requires-clause-whole : goal.change_words-requires-clause-whole
change_words-requires-clause-whole g c = words_whole g.R.Store.Means c.args.codes.now c.args.table.now c.args.point.now c.args.k c.args.parts.now c.requires.at c.requires.group

pub go-requires-clause-waits : goal.go-requires-clause-waits
go-requires-clause-waits g c =
    below_by c.args.parts.now.frames c.args.k c.args.parts.now.memory c.change_words.new.memory c.change_words.ensures.elsewhere
    (taken_below g.R.Store.Means c.args.codes.now c.args.table.now c.args.point.now c.args.k c.args.parts.now c.requires.at)

pub returns-in-Ok : goal.returns-in-Ok
returns-in-Ok g c =
    leads_by g.R.Store.Means c.args.codes.now c.args.table.now c.args.point.now c.args.k c.args.parts.now c.requires.at c.go.result c.go.new.parts
    (IsLed c.args.table.now (program_of c.args.codes.now) c.args.k (next_of c.in-Ok.next) (record c.args.parts.now { memory = c.change_words.new.memory }) c.go.new.parts)
    c.go.ensures.led c.go.ensures.memory
    (λ led. goes_by g.R.Store.Means c.args.codes.now c.args.table.now c.args.point.now c.args.k c.args.parts.now c.requires.at
    c.change_words.new.memory c.change_words.ensures.elsewhere (next_of c.in-Ok.next) c.go.new.parts led.to led.words led.output led.leaks
    (λ h stands fine. words_go g.R.Store.Means c.args.codes.now c.args.table.now c.args.point.now c.args.k c.args.parts.now c.requires.at c.requires.group h stands fine
    c.in-Ok.next c.change_words.new.memory c.in-Ok.ensures.changed))

pub returns-in-Err : goal.returns-in-Err
returns-in-Err g c =
    halts_by g.R.Store.Means c.args.codes.now c.args.table.now c.args.point.now c.args.k c.args.parts.now c.requires.at
    (record { stop = c.in-Err.stop; made = c.made.result }) (record c.args.parts.now { memory = c.change_words.new.memory }) (λ other. ap (λ (e : Elsewhere). e.lent) c.change_words.ensures.elsewhere) refl refl
    (λ other h stands fine. words_halt g.R.Store.Means c.args.codes.now c.args.table.now c.args.point.now c.args.k c.args.parts.now c.requires.at c.requires.group h stands fine
    c.in-Err.stop c.made.result c.change_words.new.memory c.in-Err.ensures.changed c.made.ensures other)
