-- Programs that are laid out (docs/FLOW.md, "Points").
use Rattle.std.specs.Prelude.{◌≡◌, ℕ, List, map, Option, None}
use Rattle.ada_tree.specs.declared.unit.SourceUnit.{SourceUnit}
use Rattle.source_trees.specs.Trees.{AreNamed}
use Rattle.resolved_tree.specs.Trees.{Program}
use Rattle.type_definitions.specs.Types.{Table}
use Rattle.type_definitions.specs.Whole.{known_of, type_fault}
use Rattle.typing_steps.specs.Programs as files
use Rattle.typed_tree.specs.declared.object.Object.{Object}
use Rattle.typed_tree.specs.Nodes.{TypedNodes}
use Rattle.typed_tree.specs.Programs.{TypedProgram, typed_program}
use Rattle.flow_paths.specs.declared.point.LaidSub.{LaidSub}
use Rattle.flow_paths.specs.Laid.{FlowProgram, flow_program}
use Rattle.flow_paths.specs.Limits.{lay_fault}
use Rattle.flow_paths.specs.Stands.{flow_sub_of}

-- The program whose subprograms have these points, over the trees in rows.
abbrev pub program_with : Table → TypedNodes → List Object → List ℕ → List LaidSub → Option ℕ → FlowProgram
program_with table rows objects scopes subs main = record {
  table = table;
  objects = objects;
  scopes = scopes;
  subs = map (flow_sub_of rows) subs;
  main = main;
}

-- The layout of the program of some files that break no rule of names and no sentence on types, with no
-- name, no subprogram and no list of facts beyond its limit.
pub record IsLayout (program : FlowProgram) : Type 0 where
  pub trees : List (List SourceUnit)
  pub named : AreNamed trees
  pub code : Program
  pub meant : code ≡ files.program_of trees
  pub no_fault : type_fault code ≡ None
  pub types : program.table ≡ (known_of code).table
  pub source : TypedProgram
  pub typed : source ≡ typed_program (known_of code) code.units
  pub laid : program ≡ flow_program program.table source
  pub within : lay_fault program ≡ None
