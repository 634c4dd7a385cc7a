use Rattle.std.proofs.Common.{ℕ, List, map, string_bytes, subst, sym, ap, rules}
use Rattle.std.specs.Prelude.{IfOk, OnErr}
use Rattle.machine.specs.Run.{Run, run}
use Rattle.laid_program.specs.Programs.{program_of}
use Rattle.slot_runs.specs.Turns.{Setting}
use Rattle.slot_runs.specs.Tellings.{Sinks, HaveFronts}
use Rattle.slot_runs.proofs.Owed.{none_had}
use Rattle.slot_executor.specs.Executes.{AreSame, IsExecuted}
use Rattle.slot_execute.proofs.Started.{started, fitting_left}
use Rattle.slot_execute.proofs.programs.run_fitting.Goals as goal

pub run_started-ran-requires-clause-started : goal.run_started-ran-requires-clause-started
run_started-ran-requires-clause-started g c =
    started c.args.laid.now c.args.codes c.requires.ready g.R.Store.Means _ c.args.input.now c.is_declaring-declares.result c.in-Ok.run' c.requires.fits c.is_declaring-declares.ensures c.in-Ok.ensures

pub run_started-ran-requires-clause-same : goal.run_started-ran-requires-clause-same
run_started-ran-requires-clause-same g c =
    subst (AreSame (program_of c.args.laid.now)) (sym (ap (λ (s : Setting). s.input) c.in-Ok.ensures.setting)) c.requires.same

pub returns-in_default-clause-fronts : goal.returns-in_default-clause-fronts
returns-in_default-clause-fronts g c = none_had _ (record { output = g.K.Sink.written c.args.out.now; lines = g.K.Sink.written c.args.err.now }) _ _

pub returns-clause-executed : goal.returns-clause-executed
returns-clause-executed g c =
    let old : Sinks = record { output = g.K.Sink.written c.args.out.now; lines = g.K.Sink.written c.args.err.now } in
    let new : Sinks = record { output = g.K.Sink.written c.run_started-ran.new.out; lines = g.K.Sink.written c.run_started-ran.new.err } in
    subst (λ bytes. IfOk c.run_started-ran.result (λ ran. IsExecuted (map string_bytes c.args.laid.now.names.items) (run (program_of c.args.laid.now) bytes c.args.steps) ran old new))
    (ap (λ (s : Setting). s.input) c.in-Ok.ensures.setting) c.run_started-ran.ensures.executed

pub returns-clause-fronts : goal.returns-clause-fronts
returns-clause-fronts g c =
    let old : Sinks = record { output = g.K.Sink.written c.args.out.now; lines = g.K.Sink.written c.args.err.now } in
    let new : Sinks = record { output = g.K.Sink.written c.run_started-ran.new.out; lines = g.K.Sink.written c.run_started-ran.new.err } in
    let whole : List ℕ → Run = λ bytes. run (program_of c.args.laid.now) bytes c.args.steps in
    subst (λ bytes. OnErr c.run_started-ran.result (HaveFronts (map string_bytes c.args.laid.now.names.items) old new (whole bytes).output (whole bytes).leaks))
    (ap (λ (s : Setting). s.input) c.in-Ok.ensures.setting) c.run_started-ran.ensures.fronts

-- the store is given back
pub returns-clause-left : goal.returns-clause-left
returns-clause-left g c =
    fitting_left g.R.Store.Means (program_of c.args.laid.now) c.args.input.now c.args.steps c.in-Ok.run' c.run_started-ran.new.run _ _ c.run_started-ran.result
    (λ lent. search (rules, lent)) c.in-Ok.ensures.lent (ap (λ (s : Setting). s.input) c.in-Ok.ensures.setting) c.run_started-ran.ensures.left c.run_started-ran.ensures.lent
