use Rattle.std.proofs.Common.{take}
use Rattle.name_resolve.specs.Inputs.{trees_of}
use Rattle.spark_tool.specs.Lexing.{cuts_of}
use Rattle.source_trees.specs.Trees.{AreTreesOf}
use Rattle.spark_tool.proofs.parsing.parse_all.Given as goal

abbrev pub invariant-files : goal.invariant-files
invariant-files l = AreTreesOf (cuts_of (take l.file-index l.files)) (trees_of l.trees.items)
