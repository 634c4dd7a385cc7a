-- The resolved code of files that break no rule of names and of types, and whose positions are as in a text, is orderly.
use Rattle.std.proofs.Common.{◌≡◌, ℕ, List, Some, None}
use Rattle.ada_tree.specs.declared.unit.SourceUnit.{SourceUnit}
use Rattle.name_events.specs.Outline.{source_events}
use Rattle.name_events.specs.Identified.{identified}
use Rattle.name_events.specs.Faults.{name_fault}
use Rattle.machine.specs.resolved_tree.Trees.{Program}
use Rattle.typing_steps.specs.Programs.{program_of}
use Rattle.machine.specs.type_definitions.Types.{Table}
use Rattle.machine.specs.type_definitions.Whole.{outside, known_of, type_fault}
use Rattle.settled_types.specs.Orderly.{at_start}
use Rattle.settled_types.specs.OrderlyFiles.Apart.{AreApart}
use Rattle.settled_types.specs.OrderlyFiles.Ended.{AllEnded}
use Rattle.settled_types.proofs.OrderlyFiles.Main.{files_in_order}
use Rattle.settled_types.specs.FilePositions.Order.{Ascends, event_positions}
use Rattle.settled_types.specs.GatheredLaws.Made.{IsMade}
use Rattle.settled_types.specs.GatheredLaws.Views.{AreViews}
use Rattle.settled_types.specs.OrderLaws.Orderly.{typed_of, IsOrderly}
use Rattle.settled_types.proofs.OrderLaws.Faults.{units_faultless}
use Rattle.sound_files.proofs.SeenFiles.Main.{files_seen}
use Rattle.sound_files.proofs.Whole.{whole}
use Rattle.sound_files.proofs.Once.{files_once}
use Rattle.sound_files.proofs.Written.{files_written}
use Rattle.settled_types.proofs.NamedFiles.Library.{procedures}
use Rattle.sound_files.proofs.Known.{formals_known}
use Rattle.sound_files.proofs.Laws.{files_declared}

module _ (files : List (List SourceUnit)) where
  abbrev p : Program
  p = program_of files

  abbrev table : Table
  table = (known_of p).table

  module _ (apart : AreApart (identified files)) (ended : AllEnded at_start p.units) (up : Ascends (event_positions (source_events files))) (named : name_fault files ≡ None) (no_fault : type_fault p ≡ None) where
    -- The resolved code of the files is orderly.
    pub files_orderly : AreViews p.units table → (main : ℕ) → (typed_of p).main ≡ Some main → IsOrderly p
    files_orderly views main is_main = record {
      written = λ u has. files_written (identified files) (outside (known_of p)) files (procedures files named) u has (units_faultless p no_fault u has);
      once = files_once files apart (known_of p);
      formals = formals_known p (IsMade p.units) (files_declared files apart ended up named no_fault views);
      seen = files_seen files up named (files_once files apart (known_of p));
      whole = whole p (files_in_order files apart ended);
      main = main;
      is_main = is_main;
    }
