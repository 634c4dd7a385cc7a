use Rattle.std.proofs.Common.{◌≡◌, ◌++◌}
use Rattle.prog_maker.specs.Texts.{body, for_each}
use Rattle.prog_maker.proofs.program.add_bodies.Given as goal

abbrev pub invariant-numbers : goal.invariant-numbers
invariant-numbers l = l.text.items ≡ l.initial.text.items ++ for_each body l.k
