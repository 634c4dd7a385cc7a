use Rattle.std.proofs.Common.{◌<◌, ℕ, get_or}
use Rattle.resolved_tree.specs.Nodes.{code_at}
use Rattle.typed_objects.specs.Walks.{package_number}
use Rattle.typed_objects.proofs.packages.end.Given as goal

abbrev pub invariant-units : goal.invariant-units
invariant-units l = (k d : ℕ) → k < l.unit-index → package_number (code_at l.rows (get_or l.units k d)) < l.end
