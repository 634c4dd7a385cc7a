use Rattle.std.proofs.Common.{◌≡◌, ◌++◌}
use Rattle.std.specs.List.{filter_map}
use Rattle.ada_tree.specs.Lone.{selected_part}
use Rattle.ada_tree.proofs.expression.Name.into_dotted.Given as goal

abbrev pub invariant-suffixes : goal.invariant-suffixes
invariant-suffixes l =
    l.parts ++ filter_map selected_part l.suffix-iterator.rest.items
    ≡ filter_map selected_part l.initial.suffix-iterator.rest.items
