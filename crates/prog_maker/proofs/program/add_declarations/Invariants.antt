use Rattle.std.proofs.Common.{◌≡◌, ◌++◌}
use Rattle.prog_maker.specs.Texts.{declaration, for_each}
use Rattle.prog_maker.proofs.program.add_declarations.Given as goal

abbrev pub invariant-numbers : goal.invariant-numbers
invariant-numbers l = l.text.items ≡ l.initial.text.items ++ for_each declaration l.k
