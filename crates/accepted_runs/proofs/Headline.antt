-- The run of a program whose texts pass is sound.
use Rattle.std.proofs.Common.{ℕ, List}
use Rattle.ada_tree.specs.declared.unit.SourceUnit.{SourceUnit}
use Rattle.machine.specs.flow_paths.declared.report.Effects.{Effects}
use Rattle.soundness.specs.Sound.{RunIsSound}
use Rattle.machine.specs.type_definitions.Whole.{known_of}
use Rattle.typing_steps.specs.Programs.{program_of}
use Rattle.program_check.specs.Sources.{flow_of}
use Rattle.settled_types.specs.OrderLaws.Orderly.{typed_of}
use Rattle.accepted_runs.specs.Passed.{Passes}
use Rattle.accepted_runs.specs.Mains.{HasMain}
use Rattle.accepted_runs.specs.Headline.{IsSoundRun}
use Rattle.accepted_runs.proofs.Views.{passed_sound}
use Rattle.accepted_runs.proofs.ViewFacts.{passed_hold}

pub passed_run : (texts : List (List ℕ)) (trees : List (List SourceUnit)) (effects : Effects) → Passes texts trees effects → HasMain trees
    → (input : List ℕ) → IsSoundRun (flow_of trees) input
passed_run texts trees effects passes main input =
    let sound : RunIsSound (known_of (program_of trees)).table (typed_of (program_of trees)) input = passed_sound texts trees effects passes main input in
    record {
      no_trap = sound.no_trap;
      owned = sound.owned;
      effects = effects;
      are_effects = passes.effects_are;
      excused = passed_hold texts trees effects passes main input;
    }
