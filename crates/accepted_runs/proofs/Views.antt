-- The runs of programs that `check` accepts are sound.
use Rattle.std.proofs.Common.{ℕ, List}
use Rattle.machine.specs.spark_base.declared.limits.TheConstants.{TOKENS}
use Rattle.ada_tree.specs.declared.unit.SourceUnit.{SourceUnit}
use Rattle.machine.specs.type_definitions.Whole.{known_of}
use Rattle.typing_steps.specs.Programs.{program_of}
use Rattle.machine.specs.flow_paths.declared.report.Effects.{Effects}
use Rattle.settled_types.specs.OrderLaws.Orderly.{typed_of}
use Rattle.viewed_steps.specs.Ready.{IsReady}
use Rattle.viewed_steps.proofs.Main.{ready_sound}
use Rattle.accepted_runs.proofs.ViewedFiles.Files.{parsed_called_ready}
use Rattle.accepted_runs.specs.Passed.{Passes}
use Rattle.accepted_runs.proofs.Parsed.{are_parsed}
use Rattle.accepted_runs.proofs.Runs.{RunsAreSound}
use Rattle.accepted_runs.specs.Mains.{HasMain}

-- Such a program is ready, as the laws on its steps ask.
pub passed_ready : (texts : List (List ℕ)) (trees : List (List SourceUnit)) (effects : Effects) → Passes texts trees effects → HasMain trees
    → IsReady (known_of (program_of trees)).table (typed_of (program_of trees)) effects
passed_ready texts trees effects passes main =
    parsed_called_ready trees passes.cuts (are_parsed texts 0 TOKENS passes.cuts trees passes.cut passes.parsed) passes.named passes.typed main.0 main.1
    effects passes.effects_are passes.none

pub passed_sound : (texts : List (List ℕ)) (trees : List (List SourceUnit)) (effects : Effects) → Passes texts trees effects → HasMain trees
    → RunsAreSound trees
passed_sound texts trees effects passes main input =
    ready_sound (known_of (program_of trees)).table (typed_of (program_of trees)) effects input (passed_ready texts trees effects passes main)
