-- The table of types of files without a fault of typing, and the types of what they declare.
use Rattle.std.proofs.Common.{◌≡◌, ◌≤◌, inr, false, List, length, IsTrue, None, true, []}
use Rattle.ada_tree.specs.declared.unit.SourceUnit.{SourceUnit}
use Rattle.name_events.specs.Outline.{source_events}
use Rattle.name_events.specs.Identified.{identified}
use Rattle.name_events.specs.Faults.{name_fault}
use Rattle.machine.specs.resolved_tree.Trees.{Code, Program}
use Rattle.machine.specs.type_definitions.Whole.{at_first, outside, known_of, type_fault}
use Rattle.machine.specs.type_definitions.Types.{full, is_scalar}
use Rattle.machine.specs.type_definitions.Entries.{integer, boolean}
use Rattle.typing_steps.specs.Programs.{program_of}
use Rattle.machine.specs.typed_tree.Programs.{site_of}
use Rattle.type_sizes.specs.Formed.{all_formed}
use Rattle.type_rules.proofs.Formed.{files_formed}
use Rattle.soundness.specs.TypedLaws.Fine.{Laws}
use Rattle.soundness.proofs.TypedLaws.TypedPoints.Values.{truth, numbers}
use Rattle.settled_types.specs.Orderly.{at_start, IsOrderly as IsInOrder}
use Rattle.settled_types.specs.OrderlyFiles.Apart.{AreApart}
use Rattle.settled_types.specs.OrderlyFiles.Ended.{AllEnded}
use Rattle.settled_types.proofs.OrderlyFiles.Main.{files_in_order}
use Rattle.settled_types.specs.FilePositions.Order.{Ascends, event_positions}
use Rattle.settled_types.specs.GatheredLaws.Made.{IsMade}
use Rattle.settled_types.specs.GatheredLaws.Views.{AreViews}
use Rattle.settled_types.proofs.GatheredLaws.Components.{components_left}
use Rattle.settled_types.proofs.GatheredLaws.Laws.{program_laws}
use Rattle.settled_types.proofs.NamedFiles.Records.{records_apart}
use Rattle.sound_files.specs.MeantFiles.Typed.{AreTyped as AreDeclared}
use Rattle.sound_files.proofs.MeantFiles.Main.{first_table, files_kept, files_typed}
use Rattle.settled_types.proofs.OrderLaws.Faults.{units_faultless}
use Rattle.settled_types.specs.Stamped.{AllOpen}
use Rattle.settled_types.proofs.Main.{second, rows_first, rows_second}
use Rattle.settled_types.proofs.Faultless.{program_open}
use Rattle.settled_types.proofs.NamedFiles.Library.{procedures}
use Rattle.settled_types.specs.SteadyTypes.Flat.{IsFlatUnit}
use Rattle.settled_types.specs.SteadyTypes.Kept.{AreKept}
use Rattle.settled_types.proofs.SteadyTypes.Main.{alike, steady}
use Rattle.sound_files.proofs.Flat.{unit_flat}
use Rattle.sound_files.proofs.Written.{files_written}
use Rattle.machine.specs.spark_base.Lists.{Has}

-- There is a row for each declaration.
long : (p : Program) → IsInOrder p → AllOpen (known_of p) p.units → p.count ≤ length (known_of p).table
unfolding known_of
long p orderly opens = (rows_second p orderly opens).long

first_long : (p : Program) (orderly : IsInOrder p) (opens : AllOpen (known_of p) p.units) → p.count ≤ length (second p orderly opens)
first_long p orderly opens = (rows_first p orderly opens).long

module _ (files : List (List SourceUnit)) where
  abbrev p : Program
  p = program_of files

  module _ (apart : AreApart (identified files)) (ended : AllEnded at_start p.units) (up : Ascends (event_positions (source_events files))) (named : name_fault files ≡ None)
      (none : type_fault p ≡ None) (views : AreViews p.units (known_of p).table) where
    formed : IsTrue (all_formed p.units)
    formed = files_formed (identified files) files

    orderly : IsInOrder p
    orderly = files_in_order files apart ended

    opens : AllOpen (known_of p) p.units
    opens = program_open p formed none

    -- The table of types is as typed expressions ask.
    pub table_laws : Laws (known_of p) (IsMade p.units)
    table_laws = program_laws p formed orderly none views (components_left p (records_apart (identified files) files named))

    -- Integer and Boolean are scalar.
    pub integers_scalar : is_scalar (full (known_of p).table integer) ≡ true
    integers_scalar = numbers (site_of (known_of p) p.units) [] [] (IsMade p.units) table_laws

    pub truths_scalar : is_scalar (full (known_of p).table boolean) ≡ true
    truths_scalar = truth (site_of (known_of p) p.units) [] [] (IsMade p.units) table_laws

    flat : (u : Code) → Has p.units u → IsFlatUnit u
    flat u has = unit_flat u (files_written (identified files) (outside (known_of p)) files (procedures files named) u has (units_faultless p none u has))

    kept : AreKept (first_table files) p.units (outside (record (at_first false p.count) { table = (at_first false p.count).table }))
    kept = files_kept files up named (first_long p orderly opens)

    -- Objects and formals have the types that are indicated for them.
    pub files_declared : (u : Code) → Has p.units u → AreDeclared (IsMade p.units) (outside (known_of p)) u
    files_declared =
        files_typed files up named (IsMade p.units) (λ m has. inr has) (long p orderly opens) (steady p orderly opens flat kept) (alike p orderly opens flat kept)
