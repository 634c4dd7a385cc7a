use Rattle.std.proofs.Common.{subst, map, string_bytes}
use Rattle.std.specs.Prelude.{IfOk, OnErr}
use Rattle.laid_program.specs.Programs.{program_of}
use Rattle.machine.specs.Run.{Run, run}
use Rattle.slot_runs.specs.Tellings.{Sinks, HaveFronts}
use Rattle.slot_runs.proofs.Kept.{if_ok, on_err}
use Rattle.slot_executor.specs.Executes.{IsExecuted, IsLeft}
use Rattle.slot_executor.proofs.Runs.{can_start, writes_executed, writes_left, cuts_fronts}
use Rattle.slot_executor.proofs.started.run_started.Goals as goal

pub run_whole-requires : goal.run_whole-requires
run_whole-requires g c = record {
  known = can_start c.args.laid.now (g.S.Stepping.setting c.args.run.now) (g.S.Stepping.untold c.args.run.now) (g.S.Stepping.Stands c.args.run.now) c.requires.started c.requires.same c.args.steps;
}

pub returns-clause-executed : goal.returns-clause-executed
returns-clause-executed g c =
    let old : Sinks = record { output = g.K.Sink.written c.args.out.now; lines = g.K.Sink.written c.args.err.now } in
    let new : Sinks = record { output = g.K.Sink.written c.run_whole.new.out; lines = g.K.Sink.written c.run_whole.new.err } in
    let whole : Run = run (program_of c.args.laid.now) (g.S.Stepping.setting c.args.run.now).input c.args.steps in
    subst (λ names. IfOk c.run_whole.result (λ ran. IsExecuted (map string_bytes names) whole ran old new)) c.deref.ensures.value
    (if_ok {Q = λ ran. IsExecuted (map string_bytes c.deref.result.now) whole ran old new} c.run_whole.result
    (λ ran written. writes_executed c.args.laid.now (g.S.Stepping.setting c.args.run.now) (g.S.Stepping.untold c.args.run.now) (g.S.Stepping.Stands c.args.run.now) c.requires.started c.requires.same c.args.steps
    (map string_bytes c.deref.result.now) ran old new (g.S.Stepping.Stands c.run_whole.new.run) written)
    c.run_whole.ensures.written)

pub returns-clause-fronts : goal.returns-clause-fronts
returns-clause-fronts g c =
    let old : Sinks = record { output = g.K.Sink.written c.args.out.now; lines = g.K.Sink.written c.args.err.now } in
    let new : Sinks = record { output = g.K.Sink.written c.run_whole.new.out; lines = g.K.Sink.written c.run_whole.new.err } in
    let whole : Run = run (program_of c.args.laid.now) (g.S.Stepping.setting c.args.run.now).input c.args.steps in
    subst (λ names. OnErr c.run_whole.result (HaveFronts (map string_bytes names) old new whole.output whole.leaks)) c.deref.ensures.value
    (on_err {Q = HaveFronts (map string_bytes c.deref.result.now) old new whole.output whole.leaks} c.run_whole.result
    (λ cut. cuts_fronts c.args.laid.now (g.S.Stepping.setting c.args.run.now) (g.S.Stepping.untold c.args.run.now) (g.S.Stepping.Stands c.args.run.now) c.requires.started c.requires.same c.args.steps
    (map string_bytes c.deref.result.now) old new cut)
    c.run_whole.ensures.cut)

pub returns-clause-left : goal.returns-clause-left
returns-clause-left g c =
    let old : Sinks = record { output = g.K.Sink.written c.args.out.now; lines = g.K.Sink.written c.args.err.now } in
    let new : Sinks = record { output = g.K.Sink.written c.run_whole.new.out; lines = g.K.Sink.written c.run_whole.new.err } in
    if_ok {Q = λ ran. IsLeft (program_of c.args.laid.now) (g.S.Stepping.setting c.args.run.now).input c.args.steps (g.S.Stepping.Stands c.run_whole.new.run)} c.run_whole.result
    (λ ran written. writes_left c.args.laid.now (g.S.Stepping.setting c.args.run.now) (g.S.Stepping.untold c.args.run.now) (g.S.Stepping.Stands c.args.run.now) c.requires.started c.requires.same c.args.steps
    (map string_bytes c.deref.result.now) ran old new (g.S.Stepping.Stands c.run_whole.new.run) written)
    c.run_whole.ensures.written
