-- The program that files make, and the first sentence on types that it breaks.
use Rattle.std.specs.Prelude.{List, length, Option, None}
use Rattle.ada_tree.specs.declared.unit.SourceUnit.{SourceUnit}
use Rattle.name_events.specs.Denotes.{decl_infos}
use Rattle.name_events.specs.Identified.{identified}
use Rattle.resolved_tree.specs.Trees.{Code, Program}
use Rattle.tree_lowering.specs.Lowered.{lowered_files}
use Rattle.type_definitions.specs.declared.table.Known.{Known}
use Rattle.type_definitions.specs.Faults.{first}
use Rattle.type_definitions.specs.Whole.{TypeFault, decided, sentence_faults}

-- Its declarations are those of the files, the predefined ones included, and its code stands for
-- the units of the files in order.
abbrev pub program_of : List (List SourceUnit) → Program
program_of files = record { count = length (decl_infos files); units = lowered_files (identified files) files }

-- The first of K1 to K8 that units break, where no type exceeds a limit.
abbrev pub sentence_fault : Known → List Code → Option TypeFault
sentence_fault known units = decided None (first (sentence_faults known units))
