-- What holds of the runs of the program of some files.
use Rattle.std.proofs.Common.{ℕ, List}
use Rattle.ada_tree.specs.declared.unit.SourceUnit.{SourceUnit}
use Rattle.machine.specs.type_definitions.Whole.{known_of}
use Rattle.typing_steps.specs.Programs.{program_of}
use Rattle.machine.specs.flow_paths.declared.report.Effects.{Effects}
use Rattle.soundness.specs.Sound.{RunIsSound}
use Rattle.program_check.specs.Sources.{flow_of}
use Rattle.settled_types.specs.OrderLaws.Orderly.{typed_of}
use Rattle.soundness.specs.ExactFacts.Exact.{RunHolds}
use Rattle.recycled_runs.specs.ViewedFacts.NullPlaces.Cleared.{RunsWithNull}

-- Each moment of each run of such a program is well owned, and none is a trap.
abbrev pub RunsAreSound : List (List SourceUnit) → Type 0
RunsAreSound trees = (input : List ℕ) → RunIsSound (known_of (program_of trees)).table (typed_of (program_of trees)) input

-- At no step of any run a leak check fails that the leak plan excuses.
abbrev pub RunsHold : List (List SourceUnit) → Effects → Type 0
RunsHold trees effects = (input : List ℕ) → RunHolds (flow_of trees) effects input

-- With each budget a run gives the same with null in moved places.
abbrev pub RunsAreWithNull : List (List SourceUnit) → Type 0
RunsAreWithNull trees = (input : List ℕ) → RunsWithNull (flow_of trees) input
