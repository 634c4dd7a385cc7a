-- The types of files without a fault of typing are settled, where positions are as in a text.
use Rattle.std.proofs.Common.{◌≡◌, List, IsTrue, None}
use Rattle.ada_tree.specs.declared.unit.SourceUnit.{SourceUnit}
use Rattle.name_events.specs.Identified.{identified}
use Rattle.machine.specs.type_definitions.Whole.{type_fault, known_of}
use Rattle.typing_steps.specs.Programs.{program_of}
use Rattle.machine.specs.typed_tree.Programs.{TypedProgram}
use Rattle.machine.specs.flow_paths.Laid.{flow_program}
use Rattle.type_sizes.specs.Formed.{all_formed}
use Rattle.type_rules.proofs.Formed.{files_formed}
use Rattle.settled_types.specs.Orderly.{at_start, IsOrderly}
use Rattle.settled_types.specs.OrderlyFiles.Apart.{AreApart}
use Rattle.settled_types.specs.OrderlyFiles.Ended.{AllEnded}
use Rattle.settled_types.proofs.OrderlyFiles.Main.{files_in_order}
use Rattle.soundness.specs.PartOffsets.Parts.{IsSettled}
use Rattle.soundness.specs.Typed.{OwnsByShape}
use Rattle.sound_files.proofs.ReadyTypes.Settled.{settled, owns}

module _ (files : List (List SourceUnit)) (apart : AreApart (identified files)) (ended : AllEnded at_start (program_of files).units)
    (none : type_fault (program_of files) ≡ None) where
  formed : IsTrue (all_formed (program_of files).units)
  formed = files_formed (identified files) files

  orderly : IsOrderly (program_of files)
  orderly = files_in_order files apart ended

  -- what `Accepted` asks of types
  pub files_settled : (typed : TypedProgram) → IsSettled (flow_program (known_of (program_of files)).table typed).table
  files_settled typed = settled (program_of files) formed orderly none typed

  -- and what `IsReady` does
  pub files_own : (typed : TypedProgram) → OwnsByShape (flow_program (known_of (program_of files)).table typed).table
  files_own typed = owns (program_of files) formed orderly none typed
