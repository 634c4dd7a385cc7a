use Rattle.std.proofs.Common.{◌≡◌, length}
use Rattle.type_settled.specs.Holding.{AreLone}
use Rattle.type_settled.proofs.ranks.lower_alone.Given as goal

abbrev pub invariant-types : goal.invariant-types
invariant-types l = (length l.made.items ≡ length l.table) × AreLone l.table l.made.items
