-- Programs of files that break no rule of names and of typing pass the tests before their runs.
use Rattle.std.proofs.Common.{◌≡◌, true, List, ap, ◌∙◌, refl, sym, subst, IsTrue, None}
use Rattle.ada_lexer.specs.Tokens.{Cut}
use Rattle.ada_tree.specs.declared.unit.SourceUnit.{SourceUnit}
use Rattle.name_events.specs.Identified.{identified}
use Rattle.name_events.specs.Outline.{source_events}
use Rattle.name_events.specs.Faults.{name_fault}
use Rattle.machine.specs.spark_base.Lists.{Has}
use Rattle.machine.specs.resolved_tree.Trees.{Program, Code}
use Rattle.machine.specs.type_definitions.Types.{Table}
use Rattle.machine.specs.type_definitions.Whole.{outside, type_fault, known_of}
use Rattle.type_sizes.specs.Formed.{all_formed}
use Rattle.typing_steps.specs.Programs.{program_of}
use Rattle.type_rules.proofs.Formed.{files_formed}
use Rattle.settled_types.specs.Orderly.{IsOrderly, at_start}
use Rattle.settled_types.proofs.Main.{finite}
use Rattle.settled_types.specs.OrderlyFiles.Apart.{AreApart}
use Rattle.settled_types.specs.OrderlyFiles.Ended.{AllEnded}
use Rattle.settled_types.proofs.OrderlyFiles.Main.{files_in_order}
use Rattle.settled_types.specs.FilePositions.Order.{Ascends, event_positions}
use Rattle.settled_types.specs.FilePositions.Texts.{AreParsed}
use Rattle.settled_types.proofs.FilePositions.Ascending.{events_ascend}
use Rattle.settled_types.proofs.FilePositions.Main.{files_apart, files_ended}
use Rattle.machine.specs.flow_paths.Laid.{FlowProgram, flow_program}
use Rattle.laid_program.specs.declared.laid.Laid.{Laid}
use Rattle.laid_program.specs.Programs as laid_programs
use Rattle.settled_types.proofs.NamedFiles.Library.{procedures}
use Rattle.settled_types.specs.OrderLaws.Written.{is_unit}
use Rattle.settled_types.specs.OrderLaws.Orderly.{typed_of}
use Rattle.settled_types.proofs.OrderLaws.Faults.{units_faultless}
use Rattle.sound_files.proofs.Once.{files_once}
use Rattle.sound_files.proofs.Written.{files_written}
use Rattle.settled_types.specs.TableLaws.Ranks.{IsFit}
use Rattle.run_ready.specs.Tests.{IsReady}
use Rattle.accepted_runs.proofs.TestedFiles.RunTables.Programs.{small, program_listed}
use Rattle.accepted_runs.proofs.TestedFiles.RunTables.Entered.{can_enter}
use Rattle.accepted_runs.proofs.TestedFiles.RunTables.Runs.{files_calls}
use Rattle.accepted_runs.proofs.TestedFiles.Fit.{finite_fit}
use Rattle.accepted_runs.proofs.TestedFiles.Formals.{formals_ascend}
use Rattle.accepted_runs.specs.TestedFiles.Tested.{IsTested}
use Rattle.accepted_runs.proofs.TestedFiles.Subs.{flow_tested}
use Rattle.accepted_runs.proofs.TestedFiles.Rows.{rows_tested}

-- The table of resolved code that declares in order is fit.
pub program_fit : (p : Program) → IsTrue (all_formed p.units) → IsOrderly p → type_fault p ≡ None → IsFit (known_of p).table
program_fit p formed orderly none =
    finite_fit (known_of p).table (finite p formed orderly none) (small p formed orderly none) (program_listed p formed orderly none)

same_table : (table : Table) (typed : _) → (flow_program table typed).table ≡ table
unfolding flow_program
same_table table typed = refl

module _ (files : List (List SourceUnit)) where
  abbrev p : Program
  p = program_of files

  abbrev flow : FlowProgram
  flow = flow_program (known_of p).table (typed_of p)

  as_written : name_fault files ≡ None → type_fault p ≡ None → (u : Code) → Has p.units u → is_unit u ≡ true
  as_written named none u has = files_written (identified files) (outside (known_of p)) files (procedures files named) u has (units_faultless p none u has)

  tested : AreApart (identified files) → Ascends (event_positions (source_events files)) → name_fault files ≡ None → type_fault p ≡ None → IsTested flow
  tested apart up named none =
      let written = as_written named none in
      let once = files_once files apart (known_of p) in
      flow_tested (known_of p).table (typed_of p) (can_enter (known_of p).table (known_of p) p.units written once)
      (formals_ascend (known_of p) p.units written once) (files_calls files up named)

  pub files_ready : AreApart (identified files) → AllEnded at_start p.units → Ascends (event_positions (source_events files)) → name_fault files ≡ None
      → type_fault p ≡ None → (laid : Laid) → laid_programs.program_of laid ≡ flow → IsReady laid
  files_ready apart ended up named none laid is = record {
    types = subst IsFit (sym (same_table (known_of p).table (typed_of p)) ∙ ap (λ (q : FlowProgram). q.table) (sym is))
        (program_fit p (files_formed (identified files) files) (files_in_order files apart ended) none);
    frames = rows_tested laid (subst IsTested (sym is) (tested apart up named none));
  }

  -- So it is of files that are parsed from texts.
  pub parsed_ready : (texts : List (List Cut)) → AreParsed 0 texts files → name_fault files ≡ None → type_fault p ≡ None
      → (laid : Laid) → laid_programs.program_of laid ≡ flow → IsReady laid
  parsed_ready texts parsed named none =
      files_ready (files_apart texts files parsed) (files_ended (identified files) texts files parsed) (events_ascend texts files parsed) named none
