-- A run in memory.
use Rattle.std.specs.Prelude.{[]}
use Rattle.spark_base.specs.declared.limits.TheConstants.{STEPS}
use Rattle.laid_program.specs.declared.laid.Laid.{Laid}
use Rattle.laid_program.specs.Programs.{program_of}
use Rattle.machine.specs.Run.{Run, run}
use Rattle.run_codes.specs.Points.{ran_of}
use Rattle.run_results.specs.declared.ran.Ran.{Ran}
use Rattle.run_results.specs.Results.{IsRun}

-- The run of a program without input, in as many steps as any run may take.
abbrev pub run_of : Laid → Run
run_of laid = run (program_of laid) [] STEPS

-- These are the counts of a run.
abbrev pub HasCounts : Run → Ran → Type 0
HasCounts run ran = IsRun (ran_of run) ran
