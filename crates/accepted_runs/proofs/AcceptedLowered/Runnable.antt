-- What passes is lowered, and passes the tests before a run.
use Rattle.std.proofs.Common.{◌≡◌, ℕ, List, sym, ap, ◌∙◌}
use Rattle.machine.specs.spark_base.declared.limits.TheConstants.{TOKENS}
use Rattle.ada_tree.specs.declared.unit.SourceUnit.{SourceUnit}
use Rattle.machine.specs.flow_paths.declared.report.Effects.{Effects}
use Rattle.laid_program.specs.declared.laid.Laid.{Laid}
use Rattle.laid_program.specs.Programs.{program_of}
use Rattle.program_check.specs.Sources.{flow_of}
use Rattle.run_codes.specs.Programs.{lowered_program}
use Rattle.run_ready.specs.Tests.{IsReady}
use Rattle.accepted_runs.proofs.TestedFiles.Main.{parsed_ready}
use Rattle.accepted_runs.specs.Passed.{Passes}
use Rattle.accepted_runs.proofs.Parsed.{are_parsed}
use Rattle.accepted_runs.specs.AcceptedLowered.Runs.{IsRunnable}
use Rattle.accepted_runs.proofs.AcceptedLowered.Main.{passed_lowered}

passed_ready : (texts : List (List ℕ)) (trees : List (List SourceUnit)) (effects : Effects) → Passes texts trees effects
    → (laid : Laid) → program_of laid ≡ flow_of trees → IsReady laid
passed_ready texts trees effects passes =
    parsed_ready trees passes.cuts (are_parsed texts 0 TOKENS passes.cuts trees passes.cut passes.parsed) passes.named passes.typed

pub passed_runnable : (texts : List (List ℕ)) (trees : List (List SourceUnit)) (effects : Effects) → Passes texts trees effects
    → (laid : Laid) → flow_of trees ≡ program_of laid → IsRunnable laid
passed_runnable texts trees effects passes laid is = record {
  lowered = λ none. passed_lowered texts trees effects passes (ap lowered_program is ∙ none);
  tested = passed_ready texts trees effects passes laid (sym is);
}
