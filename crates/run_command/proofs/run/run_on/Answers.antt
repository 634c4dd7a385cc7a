use Rattle.std.proofs.Common.{rules, ◌≡◌, ◌++◌, List, ℕ, map, string_bytes, refl}
use Rattle.machine.specs.Run.{Run, run}
use Rattle.laid_program.specs.Programs.{program_of}
use Rattle.run_results.specs.Results.{ending_of}
use Rattle.run_results.proofs.Fronts.{none_front}
use Rattle.slot_runs.specs.Tellings.{Sinks}
use Rattle.run_command.specs.Counts.{asked_line, slots_of}
use Rattle.run_command.specs.Endings.{ending_line}
use Rattle.run_command.specs.Runs.{last_lines}
use Rattle.run_command.proofs.Counted.{slots_known}
use Rattle.run_command.proofs.Fronts.{at_err, cut_told, ended_told, last_told, ended_tells}
use Rattle.run_command.proofs.run.run_on.Goals as goal

pub returns-in_err-ran-clause-front : goal.returns-in_err-ran-clause-front
returns-in_err-ran-clause-front g c =
    let r : Run = run (program_of c.args.program.now.laid) c.args.input.now c.args.steps in
    let old : Sinks = record { output = g.K.Sink.written c.args.out.now; lines = g.K.Sink.written c.args.err.now } in
    let new : Sinks = record { output = g.K.Sink.written c.execute.new.out; lines = g.K.Sink.written c.execute.new.err } in
    at_err _ (cut_told (map string_bytes c.args.program.now.laid.names.items) c.args.steps c.args.stats r old new c.in_err-ran.ensures.fronts)

pub returns-in_err-text-clause-front : goal.returns-in_err-text-clause-front
returns-in_err-text-clause-front g c =
    let files = map string_bytes c.args.program.now.laid.names.items in
    let r : Run = run (program_of c.args.program.now.laid) c.args.input.now c.args.steps in
    let old : Sinks = record { output = g.K.Sink.written c.args.out.now; lines = g.K.Sink.written c.args.err.now } in
    let now : Sinks = record { output = g.K.Sink.written c.execute.new.out; lines = g.K.Sink.written c.execute.new.err } in
    let last : List ℕ = last_lines files c.args.steps c.args.stats r in
    at_err _ (ended_told files c.args.steps c.args.stats r c.in_ok-ran.ran old now now.lines last c.in_ok-ran.ensures.executed refl (none_front now.lines _))

pub returns-in_err-write_all-clause-front : goal.returns-in_err-write_all-clause-front
returns-in_err-write_all-clause-front g c =
    let files = map string_bytes c.args.program.now.laid.names.items in
    let r : Run = run (program_of c.args.program.now.laid) c.args.input.now c.args.steps in
    let old : Sinks = record { output = g.K.Sink.written c.args.out.now; lines = g.K.Sink.written c.args.err.now } in
    let now : Sinks = record { output = g.K.Sink.written c.execute.new.out; lines = g.K.Sink.written c.execute.new.err } in
    let counted : c.slots-slots.result ≡ slots_of r.peaks =
    slots_known g.R.Store.Means c.execute.new.store (program_of c.args.program.now.laid) c.args.input.now c.args.steps c.slots-slots.result c.in_ok-ran.ensures.left c.slots-slots.ensures in
    let line : c.deref.result.now
    ≡ ending_line files c.args.steps (ending_of c.in_ok-ran.ran.ending)
    ++ asked_line c.args.stats c.in_ok-ran.ran.steps c.in_ok-ran.ran.made c.in_ok-ran.ran.freed c.in_ok-ran.ran.leaked c.slots-slots.result = search rules in
    at_err _
    (last_told files c.args.steps c.args.stats r c.in_ok-ran.ran c.slots-slots.result old now (g.K.Sink.written c.write_all.new.sink) c.deref.result.now
    c.in_ok-ran.ensures.executed counted line c.in_err-write_all.ensures.front)

pub returns-clause-told : goal.returns-clause-told
returns-clause-told g c =
    let files = map string_bytes c.args.program.now.laid.names.items in
    let r : Run = run (program_of c.args.program.now.laid) c.args.input.now c.args.steps in
    let old : Sinks = record { output = g.K.Sink.written c.args.out.now; lines = g.K.Sink.written c.args.err.now } in
    let now : Sinks = record { output = g.K.Sink.written c.execute.new.out; lines = g.K.Sink.written c.execute.new.err } in
    let counted : c.slots-slots.result ≡ slots_of r.peaks =
    slots_known g.R.Store.Means c.execute.new.store (program_of c.args.program.now.laid) c.args.input.now c.args.steps c.slots-slots.result c.in_ok-ran.ensures.left c.slots-slots.ensures in
    let line : c.deref.result.now
    ≡ ending_line files c.args.steps (ending_of c.in_ok-ran.ran.ending)
    ++ asked_line c.args.stats c.in_ok-ran.ran.steps c.in_ok-ran.ran.made c.in_ok-ran.ran.freed c.in_ok-ran.ran.leaked c.slots-slots.result = search rules in
    ended_tells files c.args.steps c.args.stats r c.in_ok-ran.ran c.slots-slots.result old now (g.K.Sink.written c.write_all.new.sink) c.deref.result.now c.ending_status.result
    c.in_ok-ran.ensures.executed counted line c.in_ok-write_all.ensures.written c.ending_status.ensures
