use Rattle.std.proofs.Common.{map, string_bytes, sym, subst}
use Rattle.std.specs.Prelude.{IfOk, OnErr}
use Rattle.machine.specs.Run.{Run, run}
use Rattle.laid_program.specs.declared.laid.Laid.{Laid}
use Rattle.laid_program.specs.Programs.{program_of}
use Rattle.path_check.specs.declared.accepted.AcceptedProgram.{AcceptedProgram}
use Rattle.slot_heap.specs.Heaps.{Knows}
use Rattle.slot_executor.specs.Executes.{AreSame, MayEnd, IsExecuted}
use Rattle.slot_runs.specs.Tellings.{Sinks, HaveFronts}
use Rattle.slot_runs.proofs.Owed.{none_had}
use Rattle.accepted_runs.proofs.Kept.{accepted_soundly}
use Rattle.accepted_runs.proofs.AcceptedCells.Main.{accepted_leaves}
use Rattle.slot_execute.proofs.Same.{accepted_are_same}
use Rattle.slot_execute.proofs.Left.{answer_leaves}
use Rattle.slot_execute.proofs.programs.execute.Goals as goal

pub returns-in_default-clause-fronts : goal.returns-in_default-clause-fronts
returns-in_default-clause-fronts g c = none_had _ (record { output = g.K.Sink.written c.args.out.now; lines = g.K.Sink.written c.args.err.now }) _ _

pub returns-in_default-lower_ready-clause-fronts : goal.returns-in_default-lower_ready-clause-fronts
returns-in_default-lower_ready-clause-fronts g c = none_had _ (record { output = g.K.Sink.written c.args.out.now; lines = g.K.Sink.written c.args.err.now }) _ _

-- what may come of its runs gives the same
pub run_codes-requires-clause-same : goal.run_codes-requires-clause-same
run_codes-requires-clause-same g c =
    subst (λ (l : Laid). AreSame (program_of l) c.args.input.now) (sym c.laid-laid.ensures.value) (accepted_are_same c.args.program.now c.requires.main c.args.input.now)

-- what is accepted runs soundly
pub returns-in_default-lower_ready-clause-sound : goal.returns-in_default-lower_ready-clause-sound
returns-in_default-lower_ready-clause-sound g c = accepted_soundly c.args.program.now c.args.input.now c.requires.main

pub returns-clause-sound : goal.returns-clause-sound
returns-clause-sound g c = accepted_soundly c.args.program.now c.args.input.now c.requires.main

-- what is laid out is the program
pub returns-clause-executed : goal.returns-clause-executed
returns-clause-executed g c =
    let old : Sinks = record { output = g.K.Sink.written c.args.out.now; lines = g.K.Sink.written c.args.err.now } in
    let new : Sinks = record { output = g.K.Sink.written c.run_codes.new.out; lines = g.K.Sink.written c.run_codes.new.err } in
    subst (λ (l : Laid). IfOk c.run_codes.result (λ ran. IsExecuted (map string_bytes l.names.items) (run (program_of l) c.args.input.now c.args.steps) ran old new))
    c.laid-laid.ensures.value c.run_codes.ensures.executed

pub returns-clause-fronts : goal.returns-clause-fronts
returns-clause-fronts g c =
    let old : Sinks = record { output = g.K.Sink.written c.args.out.now; lines = g.K.Sink.written c.args.err.now } in
    let new : Sinks = record { output = g.K.Sink.written c.run_codes.new.out; lines = g.K.Sink.written c.run_codes.new.err } in
    let whole : Laid → Run = λ l. run (program_of l) c.args.input.now c.args.steps in
    subst (λ (l : Laid). OnErr c.run_codes.result (HaveFronts (map string_bytes l.names.items) old new (whole l).output (whole l).leaks))
    c.laid-laid.ensures.value c.run_codes.ensures.fronts

-- the slots and the cells of the machine's run are left
pub returns-clause-left : goal.returns-clause-left
returns-clause-left g c =
    let a : AcceptedProgram = c.args.program.now in
    answer_leaves (program_of a.laid) c.args.input.now c.args.steps (accepted_are_same a c.requires.main c.args.input.now) (accepted_leaves a c.requires.main)
    g.R.Store.Means c.run_codes.new.store c.run_codes.result
    (subst (λ (l : Laid). IfOk c.run_codes.result (λ ran. Knows g.R.Store.Means c.run_codes.new.store (MayEnd (program_of l) c.args.input.now c.args.steps)))
    c.laid-laid.ensures.value c.run_codes.ensures.left)
