-- The trees of a program, as `resolve` takes them.
use Rattle.std.specs.Prelude.{List, map}
use Rattle.ada_tree.specs.declared.trees.Trees.{Trees}
use Rattle.ada_tree.specs.declared.unit.SourceUnit.{SourceUnit}

-- The trees that a program holds, for each file.
abbrev pub trees_of : List Trees → List (List SourceUnit)
trees_of files = map (λ file. file.units) files
