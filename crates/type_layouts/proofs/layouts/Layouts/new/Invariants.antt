use Rattle.std.proofs.Common.{◌≡◌, length}
use Rattle.type_layouts.specs.Layouts.{AreLaid}
use Rattle.type_layouts.proofs.layouts.Layouts.new.Given as goal

abbrev pub invariant-types : goal.invariant-types
invariant-types l = AreLaid l.table 0 l.rows.items × (length l.rows.items ≡ l.i)
