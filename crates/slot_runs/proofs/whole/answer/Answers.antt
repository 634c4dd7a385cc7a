use Rattle.std.proofs.Common.{map, string_bytes, refl, ap, ◌∙◌}
use Rattle.slot_runs.specs.Turns.{Untold}
use Rattle.run_results.proofs.Fronts.{all_front}
use Rattle.slot_runs.specs.Tellings.{Sinks}
use Rattle.slot_runs.proofs.Kept.{for_err}
use Rattle.slot_runs.proofs.Owed.{none_cut, output_cut, lines_cut}
use Rattle.slot_runs.proofs.whole.answer.Goals as goal

pub returns-in_err-tell_leaks-clause-front : goal.returns-in_err-tell_leaks-clause-front
returns-in_err-tell_leaks-clause-front g c =
    let old : Sinks = record { output = g.K.Sink.written c.args.out.now; lines = g.K.Sink.written c.args.err.now } in
    for_err _ (none_cut (map string_bytes c.args.files.now) old c.args.told.now.lines.items c.args.told.now.leaked (g.S.Stepping.untold c.args.run.now))

pub returns-in_err-write_all-clause-front : goal.returns-in_err-write_all-clause-front
returns-in_err-write_all-clause-front g c =
    let old : Sinks = record { output = g.K.Sink.written c.args.out.now; lines = g.K.Sink.written c.args.err.now } in
    let new : Sinks = record { output = g.K.Sink.written c.write_all.new.sink; lines = g.K.Sink.written c.args.err.now } in
    for_err _
    (output_cut (map string_bytes c.args.files.now) old new c.args.told.now.lines.items c.args.told.now.leaked (g.S.Stepping.untold c.args.run.now) c.output.result.now
    (c.output.ensures ∙ ap (λ (x : Untold). x.output) c.in_ok-tell_leaks.ensures.untold) c.in_err-write_all.ensures.front refl)

pub returns-in_err-write_all-2-clause-front : goal.returns-in_err-write_all-2-clause-front
returns-in_err-write_all-2-clause-front g c =
    let files = map string_bytes c.args.files.now in
    let old : Sinks = record { output = g.K.Sink.written c.args.out.now; lines = g.K.Sink.written c.args.err.now } in
    let now : Sinks = record { output = g.K.Sink.written c.write_all.new.sink; lines = g.K.Sink.written c.args.err.now } in
    let new : Sinks = record { output = g.K.Sink.written c.write_all.new.sink; lines = g.K.Sink.written c.write_all-2.new.sink } in
    let s : Untold = g.S.Stepping.untold c.args.run.now in
    for_err _
    (lines_cut files old new c.args.told.now.lines.items c.deref.result.now c.args.told.now.leaked s s.leaks
    (output_cut files old now c.args.told.now.lines.items c.args.told.now.leaked s c.output.result.now
    (c.output.ensures ∙ ap (λ (x : Untold). x.output) c.in_ok-tell_leaks.ensures.untold)
    (all_front old.output now.output c.output.result.now c.in_ok-write_all.ensures.written) refl)
    refl (c.deref.ensures.value ∙ c.in_ok-tell_leaks.ensures.lines) c.in_err-write_all-2.ensures.front)
