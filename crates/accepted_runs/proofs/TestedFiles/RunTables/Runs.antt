-- What runs ask of an accepted program holds of files whose positions are as in a text; so what such a program gives as
-- it is lowered and run, the machine's run gives.
use Rattle.std.proofs.Common.{◌≡◌, ℕ, List, [], ◌∷◌, refl, sym, subst, IsTrue, Some, None}
use Rattle.ada_lexer.specs.Tokens.{Cut}
use Rattle.ada_tree.specs.declared.unit.SourceUnit.{SourceUnit}
use Rattle.name_events.specs.Identified.{identified}
use Rattle.name_events.specs.Outline.{source_events}
use Rattle.name_events.specs.Faults.{name_fault}
use Rattle.machine.specs.resolved_tree.Trees.{Program}
use Rattle.machine.specs.type_definitions.Types.{Table}
use Rattle.machine.specs.type_definitions.Entries.{boolean}
use Rattle.machine.specs.type_definitions.Whole.{outside, type_fault, known_of}
use Rattle.type_sizes.specs.Formed.{all_formed}
use Rattle.typing_steps.specs.Programs.{program_of}
use Rattle.type_rules.proofs.Formed.{files_formed}
use Rattle.settled_types.specs.Orderly.{IsOrderly, at_start}
use Rattle.settled_types.specs.OrderlyFiles.Apart.{AreApart}
use Rattle.settled_types.specs.OrderlyFiles.Ended.{AllEnded}
use Rattle.settled_types.proofs.OrderlyFiles.Main.{files_in_order}
use Rattle.settled_types.specs.FilePositions.Order.{Ascends, event_positions}
use Rattle.settled_types.specs.FilePositions.Texts.{AreParsed}
use Rattle.settled_types.proofs.FilePositions.Ascending.{events_ascend}
use Rattle.settled_types.proofs.FilePositions.Main.{files_apart, files_ended}
use Rattle.machine.specs.typed_tree.Programs.{TypedProgram}
use Rattle.machine.specs.flow_paths.Laid.{FlowProgram, flow_program}
use Rattle.machine.specs.Run as machine_run
use Rattle.machine.specs.Typed.{Position, sorts}
use Rattle.settled_types.proofs.NamedFiles.Library.{procedures}
use Rattle.sound_files.proofs.MeantFiles.Told.{files_followed}
use Rattle.sound_files.proofs.MeantFiles.Bodies.{files_have_bodies}
use Rattle.sound_files.specs.CalledSubs.Called.{HaveBodies}
use Rattle.sound_files.proofs.CalledSubs.Main.{calls_within}
use Rattle.settled_types.specs.OrderLaws.Orderly.{typed_of}
use Rattle.settled_types.proofs.OrderLaws.Faults.{units_faultless}
use Rattle.sound_files.proofs.Once.{files_once}
use Rattle.sound_files.proofs.Written.{files_written}
use Rattle.run_codes.specs.Related.{IsTable}
use Rattle.run_codes.specs.Points.{lowered_run}
use Rattle.run_fills.specs.Filled.{HasParts}
use Rattle.run_points.specs.Outcomes.{GivesAlike}
use Rattle.run_points.specs.Turns.{HasTypes}
use Rattle.run_points.specs.Frames.{HasFrames}
use Rattle.run_points.proofs.LoweredRuns.{lowered_gives}
use Rattle.accepted_runs.specs.TestedFiles.RunTables.Calls.{CallsStand}
use Rattle.accepted_runs.proofs.TestedFiles.RunTables.Programs.{program_table, program_parts, program_truth}
use Rattle.accepted_runs.proofs.TestedFiles.RunTables.Entered.{can_enter}
use Rattle.accepted_runs.proofs.TestedFiles.RunTables.Frames.{has_frames}

-- The table of what is laid out is that of the types.
same_table : (table : Table) (typed : TypedProgram) → (flow_program table typed).table ≡ table
unfolding flow_program
same_table table typed = refl

-- Of resolved code that declares in order.
pub program_types : (p : Program) → IsTrue (all_formed p.units) → IsOrderly p → type_fault p ≡ None → (typed : TypedProgram) → HasTypes (flow_program (known_of p).table typed)
program_types p formed orderly none typed =
    let table : Table = (known_of p).table in
    let same = sym (same_table table typed) in
    record {
      laws = subst IsTable same (program_table p formed orderly none);
      parts = subst HasParts same (program_parts p formed orderly none);
      truth = subst (λ t. sorts t boolean ≡ Position ∷ []) same (program_truth p formed orderly none);
    }

module _ (files : List (List SourceUnit)) where
  abbrev p : Program
  p = program_of files

  abbrev flow : FlowProgram
  flow = flow_program (known_of p).table (typed_of p)

  -- Of files whose identifiers stand apart, and whose full types end after the marks up to there.
  pub files_types : AreApart (identified files) → AllEnded at_start p.units → type_fault p ≡ None → HasTypes flow
  files_types apart ended none = program_types p (files_formed (identified files) files) (files_in_order files apart ended) none (typed_of p)

  -- Each subprogram that is declared has a body, since no rule of names is broken.
  files_bodies : Ascends (event_positions (source_events files)) → name_fault files ≡ None → HaveBodies p
  unfolding name_fault
  files_bodies up named d has = files_have_bodies files (identified files) (files_followed files up named) named d has

  pub files_calls : Ascends (event_positions (source_events files)) → name_fault files ≡ None → CallsStand flow
  files_calls up named n k sub e result low is = calls_within p (files_bodies up named) n k sub e result is

  pub files_frames : AreApart (identified files) → Ascends (event_positions (source_events files)) → name_fault files ≡ None → type_fault p ≡ None → HasFrames flow
  files_frames apart up named none =
      has_frames (known_of p).table (typed_of p)
      (can_enter (known_of p).table (known_of p) p.units
      (λ u has. files_written (identified files) (outside (known_of p)) files (procedures files named) u has (units_faultless p none u has))
      (files_once files apart (known_of p))) (files_calls up named)

  -- So it is of files that are parsed from texts.
  pub parsed_types : (texts : List (List Cut)) → AreParsed 0 texts files → type_fault p ≡ None → HasTypes flow
  parsed_types texts parsed = files_types (files_apart texts files parsed) (files_ended (identified files) texts files parsed)

  pub parsed_frames : (texts : List (List Cut)) → AreParsed 0 texts files → name_fault files ≡ None → type_fault p ≡ None → HasFrames flow
  parsed_frames texts parsed = files_frames (files_apart texts files parsed) (events_ascend texts files parsed)

  -- Where there is a main procedure, the run of what is lowered is the machine's.
  pub parsed_gives : (texts : List (List Cut)) → AreParsed 0 texts files → name_fault files ≡ None → type_fault p ≡ None
      → (main : ℕ) → flow.main ≡ Some main → (input : List ℕ) (n : ℕ) → GivesAlike (machine_run.run flow input n) (lowered_run flow input n)
  parsed_gives texts parsed named none main is input n =
      lowered_gives flow input n (parsed_types texts parsed none) (parsed_frames texts parsed named none) main is
