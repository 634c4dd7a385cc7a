use Rattle.std.proofs.Common.{◌≡◌, is_some, drop}
use Rattle.ada_tree.specs.Lone.{selected_parts}
use Rattle.ada_tree.proofs.lone.are_selected.Given as goal

abbrev pub invariant-suffixes : goal.invariant-suffixes
invariant-suffixes l = is_some (selected_parts l.suffixes) ≡ is_some (selected_parts (drop l.suffix-index l.suffixes))
