use Rattle.std.proofs.Common.{◌<◌, ℕ}
use Rattle.type_settled.specs.Ranks.{IsRanked}
use Rattle.type_settled.proofs.ranks.are_ranks.Given as goal

abbrev pub invariant-types : goal.invariant-types
invariant-types l = (k : ℕ) → k < l.t → IsRanked l.table l.ranks k
