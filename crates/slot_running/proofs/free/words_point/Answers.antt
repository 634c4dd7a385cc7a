use Rattle.code_rows.specs.Points.{next_of}
use Rattle.slot_tells.proofs.slot_parts.Sights.{taken_below, below_by}
use Rattle.slot_tells.proofs.slot_parts.Leads.{goes_by}
use Rattle.slot_steps.proofs.Words.{words_whole, words_go}
use Rattle.slot_running.proofs.Points.{on_turn}
use Rattle.slot_running.proofs.Idle.{stays}
use Rattle.slot_running.proofs.free.words_point.Goals as goal

pub change_words-requires-clause-whole : goal.change_words-requires-clause-whole
change_words-requires-clause-whole g c = words_whole g.R.Store.Means c.args.codes.now c.args.table.now c.args.point.now c.args.k c.args.parts.now c.requires.at c.requires.free.1

pub go_free-requires-clause-waits : goal.go_free-requires-clause-waits
go_free-requires-clause-waits g c =
    below_by c.args.parts.now.frames c.args.k c.args.parts.now.memory c.change_words.new.memory c.change_words.ensures.elsewhere
    (taken_below g.R.Store.Means c.args.codes.now c.args.table.now c.args.point.now c.args.k c.args.parts.now c.requires.at)

pub returns-then-go_free-clause-goes : goal.returns-then-go_free-clause-goes
returns-then-go_free-clause-goes g c =
    let led = c.go_free.ensures c.if-go_free.true in
    λ goes. on_turn g.R.Store.Means c.args.codes.now c.args.table.now c.args.point.now c.args.k c.args.parts.now c.go_free.new.parts c.requires.at
    (goes_by g.R.Store.Means c.args.codes.now c.args.table.now c.args.point.now c.args.k c.args.parts.now c.requires.at
    c.change_words.new.memory c.change_words.ensures.elsewhere (next_of c.in-Ok.next) c.go_free.new.parts led.to led.words led.output led.leaks
    (λ h stands fine. words_go g.R.Store.Means c.args.codes.now c.args.table.now c.args.point.now c.args.k c.args.parts.now c.requires.at c.requires.free.1 h stands fine
    c.in-Ok.next c.change_words.new.memory c.in-Ok.ensures.changed))

pub returns-in-Err-Raises-clause-stays : goal.returns-in-Err-Raises-clause-stays
returns-in-Err-Raises-clause-stays g c =
    λ stopped. stays g.R.Store.Means c.args.codes.now c.args.table.now c.args.point.now c.args.k c.args.parts.now c.requires.at c.requires.free.1
    c.in-Err-Raises.field-0-0 c.change_words.new.memory (rw c.in-Err-Raises.field-0-is at c.in-Err-Raises.ensures.changed)
