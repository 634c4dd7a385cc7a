-- With null in moved places, the runs of programs that `check` accepts give the same.
use Rattle.std.proofs.Common.{ℕ, List}
use Rattle.machine.specs.spark_base.declared.limits.TheConstants.{TOKENS}
use Rattle.ada_tree.specs.declared.unit.SourceUnit.{SourceUnit}
use Rattle.machine.specs.type_definitions.Whole.{known_of}
use Rattle.typing_steps.specs.Programs.{program_of}
use Rattle.machine.specs.flow_paths.declared.report.Effects.{Effects}
use Rattle.program_check.specs.Sources.{flow_of}
use Rattle.settled_types.specs.OrderLaws.Orderly.{typed_of}
use Rattle.sound_files.proofs.TypedFiles.Main.{parsed_steps}
use Rattle.recycled_runs.proofs.ViewedFacts.NullPlaces.Typed.{typed_compared}
use Rattle.recycled_runs.proofs.ViewedFacts.ViewedNulls.Runs.{viewed_runs}
use Rattle.accepted_runs.specs.Passed.{Passes}
use Rattle.accepted_runs.proofs.Parsed.{are_parsed}
use Rattle.accepted_runs.proofs.Runs.{RunsAreWithNull}
use Rattle.accepted_runs.specs.Mains.{HasMain}
use Rattle.accepted_runs.proofs.Views.{passed_ready}

pub passed_with_null : (texts : List (List ℕ)) (trees : List (List SourceUnit)) (effects : Effects) → Passes texts trees effects → HasMain trees
    → RunsAreWithNull trees
passed_with_null texts trees effects passes main input =
    viewed_runs (known_of (program_of trees)).table (typed_of (program_of trees)) effects input (passed_ready texts trees effects passes main)
    (typed_compared (flow_of trees)
    (parsed_steps trees passes.cuts (are_parsed texts 0 TOKENS passes.cuts trees passes.cut passes.parsed) passes.named passes.typed))
