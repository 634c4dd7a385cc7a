use Rattle.std.proofs.Common.{◌≡◌, ◌≤◌, ◌++◌}
use Rattle.run_lowering.specs.Takes.{IsTakes}
use Rattle.run_codes.specs.Programs.{taken_types}
use Rattle.program_lowering.specs.Taken.{known, tree}
use Rattle.program_lowering.proofs.trees.Trees.+taken.Given as goal

abbrev pub decreases-taken : goal.decreases-taken
decreases-taken l = l.e

abbrev pub invariant-parts : goal.invariant-parts
invariant-parts l =
    (l.at ≤ l.e)
    × IsTakes l.self.typing.table.now l.found
    × (l.found.types.items ++ taken_types (known l.self) (tree l.self l.at)
    ≡ l.initial.found.types.items ++ taken_types (known l.self) (tree l.self l.e))

abbrev pub decreases-parts : goal.decreases-parts
decreases-parts l = l.at
