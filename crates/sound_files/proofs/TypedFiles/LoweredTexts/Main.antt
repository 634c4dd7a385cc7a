-- The law: a text that has no fault of typing and is meant is lowered.
use Rattle.std.proofs.Common.{◌≡◌, ℕ, ◌≤◌, true, map, None}
use Rattle.machine.specs.spark_base.Lists.{Has}
use Rattle.machine.specs.resolved_tree.Trees.{Program}
use Rattle.machine.specs.type_definitions.Whole.{known_of, type_fault}
use Rattle.machine.specs.typed_tree.Programs.{TypedSub, program_objects, elaboration, over_units, subs_in}
use Rattle.machine.specs.flow_paths.Objects.{is_package_object}
use Rattle.machine.specs.flow_paths.Laid.{typing_of}
use Rattle.settled_types.specs.OrderLaws.ScopeLaws.Code.{Once, body_seen}
use Rattle.settled_types.proofs.OrderLaws.Parts.{number_of}
use Rattle.settled_types.specs.GatheredLaws.Made.{IsMade}
use Rattle.settled_types.proofs.GatheredLaws.Laws.{program_laws}
use Rattle.soundness.specs.TypedLaws.Fine.{Laws}
use Rattle.sound_files.specs.TypedFiles.TypedRuns.Meant.{typed_in, laid_in, site_in}
use Rattle.sound_files.specs.TypedFiles.TypedTexts.Meant.{IsMeant}
use Rattle.sound_files.proofs.TypedFiles.TypedTexts.Main.{types_sorted, text_typed, text_counted}
use Rattle.run_codes.specs.Lowered.{max_position}
use Rattle.run_codes.specs.Programs.{lowered_program}
use Rattle.settled_types.specs.OrderLaws.PackageValues.Calls.{calls_nothing}
use Rattle.sound_files.specs.TypedFiles.LoweredFiles.Code.{code_literals}
use Rattle.sound_files.proofs.TypedFiles.LoweredFiles.Programs.{code_lowered}

module _ (p : Program) (none : type_fault p ≡ None) (text : IsMeant p) where
  laws : Laws (known_of p) (IsMade p.units)
  laws = program_laws p text.formed text.orderly none text.views text.apart

  -- No two declarations of objects have one number, names are in scope, initial values of package
  -- objects call no function, and literals are words.
  pub text_lowered : Once (map number_of (program_objects (known_of p) p.units))
      → ((sub : TypedSub) → Has (over_units (subs_in (site_in p)) 1 p.units) sub → body_seen (is_package_object (typing_of (known_of p).table (typed_in p))) sub ≡ true)
      → body_seen (is_package_object (typing_of (known_of p).table (typed_in p))) (elaboration (site_in p) p.units) ≡ true
      → calls_nothing (elaboration (site_in p) p.units).body ≡ true
      → ((sub : TypedSub) → Has (typed_in p).subs sub → (n : ℕ) → Has (code_literals sub.body) n → n ≤ max_position)
      → lowered_program (laid_in p) ≡ None → ⊥
  text_lowered once seen values no_calls words =
      code_lowered (known_of p).table (known_of p) p.units text.written once seen values no_calls words
      (record { owns = laws.owns; sorted = types_sorted p none text; whole = laws.whole; listed = laws.listed }) (text_typed p none text) (text_counted p none text)
