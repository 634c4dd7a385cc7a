-- Programs that can be run.
use Rattle.std.specs.Prelude.{◌≡◌, ℕ, List, Some}
use Rattle.ada_tree.specs.declared.unit.SourceUnit.{SourceUnit}
use Rattle.typing_steps.specs.Programs.{program_of}
use Rattle.settled_types.specs.OrderLaws.Orderly.{typed_of}

-- There is a main procedure.
abbrev pub HasMain : List (List SourceUnit) → Type 0
HasMain trees = (main : ℕ) × ((typed_of (program_of trees)).main ≡ Some main)
