-- In runs of programs that `check` accepts, no leak check fails that the leak plan excuses.
use Rattle.std.proofs.Common.{ℕ, List}
use Rattle.ada_tree.specs.declared.unit.SourceUnit.{SourceUnit}
use Rattle.machine.specs.type_definitions.Whole.{known_of}
use Rattle.typing_steps.specs.Programs.{program_of}
use Rattle.machine.specs.flow_paths.declared.report.Effects.{Effects}
use Rattle.settled_types.specs.OrderLaws.Orderly.{typed_of}
use Rattle.recycled_runs.proofs.ViewedFacts.Runs.{run_holds}
use Rattle.accepted_runs.specs.Passed.{Passes}
use Rattle.accepted_runs.proofs.Runs.{RunsHold}
use Rattle.accepted_runs.specs.Mains.{HasMain}
use Rattle.accepted_runs.proofs.Views.{passed_ready}

pub passed_hold : (texts : List (List ℕ)) (trees : List (List SourceUnit)) (effects : Effects) → Passes texts trees effects → HasMain trees
    → RunsHold trees effects
passed_hold texts trees effects passes main input =
    run_holds (known_of (program_of trees)).table (typed_of (program_of trees)) effects (passed_ready texts trees effects passes main) input
