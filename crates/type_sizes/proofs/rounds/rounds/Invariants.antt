use Rattle.std.proofs.Common.{◌≡◌, ℕ, get_or}
use Rattle.type_table.specs.Sizes.{no_size}
use Rattle.type_sizes.specs.Sizes.{sized}
use Rattle.type_sizes.proofs.rounds.rounds.Given as goal

abbrev pub invariant-rounds : goal.invariant-rounds
invariant-rounds l = (t : ℕ) → get_or l.sizes.items t no_size ≡ sized l._round l.table t
