use Rattle.std.proofs.Common.{map, string_bytes, refl, ap, ◌∙◌}
use Rattle.slot_runs.specs.Turns.{Untold}
use Rattle.slot_runs.specs.Tellings.{Sinks}
use Rattle.slot_runs.proofs.Kept.{on_ok, on_err, for_err}
use Rattle.slot_runs.proofs.Owed.{tells_on, tells_output, output_cut, flushed_cut, lines_cut}
use Rattle.slot_runs.proofs.told.tell.Goals as goal

pub returns-clause-told : goal.returns-clause-told
returns-clause-told g c =
    on_ok c.tell_lines.result
    (λ flushed. tells_on (map string_bytes c.args.files.now)
    (record { output = g.K.Sink.written c.args.out.now; lines = g.K.Sink.written c.args.err.now }) (record { output = g.K.Sink.written c.tell_output.new.out; lines = g.K.Sink.written c.tell_lines.new.err })
    c.args.told.now.lines.items c.tell_leaks.new.told.lines.items c.tell_lines.new.told.lines.items c.args.told.now.leaked c.tell_lines.new.told.leaked
    (g.S.Stepping.untold c.args.run.now) (g.S.Stepping.untold c.tell_output.new.run) (g.S.Stepping.untold c.tell_leaks.new.run)
    c.tell_output.ensures.untold c.in_ok-tell_output.ensures.flushed
    c.in_ok-tell_leaks.ensures.untold c.in_ok-tell_leaks.ensures.lines (c.tell_lines.ensures.leaked ∙ c.in_ok-tell_leaks.ensures.leaked) flushed)
    c.tell_lines.ensures.flushed

pub returns-then-is_empty-clause-told : goal.returns-then-is_empty-clause-told
returns-then-is_empty-clause-told g c =
    tells_output (map string_bytes c.args.files.now)
    (record { output = g.K.Sink.written c.args.out.now; lines = g.K.Sink.written c.args.err.now }) (g.K.Sink.written c.tell_output.new.out)
    c.args.told.now.lines.items c.args.told.now.leaked (g.S.Stepping.untold c.args.run.now) (g.S.Stepping.untold c.tell_output.new.run)
    c.tell_output.ensures.untold c.in_ok-tell_output.ensures.flushed

pub returns-in_err-tell_output-clause-front : goal.returns-in_err-tell_output-clause-front
returns-in_err-tell_output-clause-front g c =
    let old : Sinks = record { output = g.K.Sink.written c.args.out.now; lines = g.K.Sink.written c.args.err.now } in
    let new : Sinks = record { output = g.K.Sink.written c.tell_output.new.out; lines = g.K.Sink.written c.args.err.now } in
    let s : Untold = g.S.Stepping.untold c.args.run.now in
    for_err _ (output_cut (map string_bytes c.args.files.now) old new c.args.told.now.lines.items c.args.told.now.leaked s s.output refl c.in_err-tell_output.ensures.front refl)

pub returns-in_err-tell_leaks-clause-front : goal.returns-in_err-tell_leaks-clause-front
returns-in_err-tell_leaks-clause-front g c =
    let old : Sinks = record { output = g.K.Sink.written c.args.out.now; lines = g.K.Sink.written c.args.err.now } in
    let new : Sinks = record { output = g.K.Sink.written c.tell_output.new.out; lines = g.K.Sink.written c.args.err.now } in
    for_err _
    (flushed_cut (map string_bytes c.args.files.now) old new c.args.told.now.lines.items c.args.told.now.leaked (g.S.Stepping.untold c.args.run.now)
    (g.S.Stepping.untold c.tell_output.new.run).output c.in_ok-tell_output.ensures.flushed refl)

pub returns-clause-front : goal.returns-clause-front
returns-clause-front g c =
    let files = map string_bytes c.args.files.now in
    let old : Sinks = record { output = g.K.Sink.written c.args.out.now; lines = g.K.Sink.written c.args.err.now } in
    let now : Sinks = record { output = g.K.Sink.written c.tell_output.new.out; lines = g.K.Sink.written c.args.err.now } in
    let new : Sinks = record { output = g.K.Sink.written c.tell_output.new.out; lines = g.K.Sink.written c.tell_lines.new.err } in
    let s : Untold = g.S.Stepping.untold c.args.run.now in
    let t : Untold = g.S.Stepping.untold c.tell_output.new.run in
    on_err c.tell_lines.result
    (λ cut. lines_cut files old new c.args.told.now.lines.items c.tell_leaks.new.told.lines.items c.args.told.now.leaked s t.leaks
    (flushed_cut files old now c.args.told.now.lines.items c.args.told.now.leaked s t.output c.in_ok-tell_output.ensures.flushed refl)
    (ap (λ (x : Untold). x.leaks) c.tell_output.ensures.untold) c.in_ok-tell_leaks.ensures.lines cut)
    c.tell_lines.ensures.front
