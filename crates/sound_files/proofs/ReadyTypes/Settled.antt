-- The types of a program without a fault of typing are settled, and own by their definitions.
use Rattle.std.proofs.Common.{◌≡◌, sym, subst, IsTrue, None}
use Rattle.machine.specs.resolved_tree.Trees.{Program}
use Rattle.machine.specs.type_definitions.Whole.{type_fault, known_of}
use Rattle.machine.specs.typed_tree.Programs.{TypedProgram}
use Rattle.machine.specs.flow_paths.Laid.{flow_program}
use Rattle.type_sizes.specs.Formed.{all_formed}
use Rattle.settled_types.specs.Wholes.{AreWhole}
use Rattle.settled_types.specs.Orderly.{IsOrderly}
use Rattle.settled_types.proofs.Main.{whole}
use Rattle.soundness.specs.PartOffsets.Parts.{IsSettled}
use Rattle.soundness.specs.Typed.{OwnsByShape}
use Rattle.soundness.proofs.Points.{flow_table}

module _ (p : Program) (formed : IsTrue (all_formed p.units)) (are : IsOrderly p) (none : type_fault p ≡ None) where
  wholes : AreWhole (known_of p).table
  wholes = whole p formed are none

  table_settled : IsSettled (known_of p).table
  table_settled = record { word_law = wholes.word_law; part_law = wholes.part_law; plain = wholes.plain }

  -- what `Accepted` asks of types
  pub settled : (typed : TypedProgram) → IsSettled (flow_program (known_of p).table typed).table
  settled typed = subst IsSettled (sym (flow_table (known_of p).table typed)) table_settled

  -- and what `IsReady` does
  pub owns : (typed : TypedProgram) → OwnsByShape (flow_program (known_of p).table typed).table
  owns typed = subst OwnsByShape (sym (flow_table (known_of p).table typed)) wholes.own_law
