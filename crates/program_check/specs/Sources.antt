-- The programs that files mean, laid out (docs/FLOW.md, "Points").
use Rattle.std.specs.Prelude.{ℕ, List}
use Rattle.ada_tree.specs.declared.unit.SourceUnit.{SourceUnit}
use Rattle.place_names.specs.Names.{Name}
use Rattle.resolved_tree.specs.Trees.{Program}
use Rattle.type_definitions.specs.Whole.{known_of}
use Rattle.typing_steps.specs.Programs as files
use Rattle.typed_tree.specs.Programs.{typed_program}
use Rattle.flow_paths.specs.Laid.{FlowProgram, flow_program}
use Rattle.flow_paths.specs.Printing.{printed_name}

-- The layout of the typed program that code means.
abbrev pub laid_code : Program → FlowProgram
laid_code p = flow_program (known_of p).table (typed_program (known_of p) p.units)

-- That of the code of some files.
abbrev pub flow_of : List (List SourceUnit) → FlowProgram
flow_of trees = laid_code (files.program_of trees)

-- How its names are printed.
abbrev pub printed_in : FlowProgram → Name → List ℕ
printed_in program m = printed_name program.table program.objects m
