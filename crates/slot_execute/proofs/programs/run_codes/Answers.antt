use Rattle.std.proofs.Common.{sym, map, string_bytes}
use Rattle.laid_program.specs.Programs.{program_of}
use Rattle.machine.specs.Run.{Run, run}
use Rattle.slot_heap.specs.Heaps.{Knows, no_heap}
use Rattle.slot_runs.specs.Tellings.{Sinks}
use Rattle.slot_runs.proofs.Kept.{if_ok, for_err}
use Rattle.slot_runs.proofs.Owed.{none_had}
use Rattle.slot_executor.specs.Executes.{MayEnd, IsExecuted}
use Rattle.slot_execute.proofs.Started.{unfit}
use Rattle.slot_execute.proofs.NoSteps.{none_executed}
use Rattle.slot_execute.proofs.programs.run_codes.Goals as goal

pub run_unfit-requires-clause-unfit : goal.run_unfit-requires-clause-unfit
run_unfit-requires-clause-unfit g c = unfit c.args.laid.now c.args.codes c.requires.ready c.args.main c.requires.main (sym c.if-not-fits.ensures)

pub returns-then-not-fits-clause-executed : goal.returns-then-not-fits-clause-executed
returns-then-not-fits-clause-executed g c =
    let sinks : Sinks = record { output = g.K.Sink.written c.args.out.now; lines = g.K.Sink.written c.args.err.now } in
    let whole : Run = run (program_of c.args.laid.now) c.args.input.now c.args.steps in
    let files = map string_bytes c.args.laid.now.names.items in
    if_ok {Q = λ ran. IsExecuted files whole ran sinks sinks} c.run_unfit.result
    (λ ran is. none_executed files whole ran sinks c.run_unfit.ensures.output c.run_unfit.ensures.leaks is)
    c.run_unfit.ensures.ran

pub returns-then-not-fits-clause-fronts : goal.returns-then-not-fits-clause-fronts
returns-then-not-fits-clause-fronts g c =
    for_err _ (none_had _ (record { output = g.K.Sink.written c.args.out.now; lines = g.K.Sink.written c.args.err.now }) _ _)

pub returns-then-not-fits-clause-left : goal.returns-then-not-fits-clause-left
returns-then-not-fits-clause-left g c =
    if_ok {Q = λ ran. Knows g.R.Store.Means c.args.store.now (MayEnd (program_of c.args.laid.now) c.args.input.now c.args.steps)} c.run_unfit.result
    (λ ran is. (no_heap, (c.requires.store, c.run_unfit.ensures.ends)))
    c.run_unfit.ensures.ran
