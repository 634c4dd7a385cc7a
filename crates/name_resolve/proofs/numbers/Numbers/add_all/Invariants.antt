use Rattle.std.proofs.Common.{List, ℕ, take, ◌++◌}
use Rattle.name_resolve.specs.Stands.{NumbersStand}
use Rattle.name_resolve.proofs.numbers.Numbers.add_all.Given as goal

abbrev pub invariant-turns : goal.invariant-turns
invariant-turns l = (listed : List ℕ) → NumbersStand l.initial.self listed → NumbersStand l.self (listed ++ take l.number-index l.numbers)
