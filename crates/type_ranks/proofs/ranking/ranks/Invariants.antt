use Rattle.std.proofs.Common.{◌≡◌, ◌<◌, ℕ, [], true}
use Rattle.type_ranks.specs.Stages.{is_entered, IsSound}
use Rattle.type_ranks.proofs.ranking.ranks.Given as goal

abbrev pub invariant-types : goal.invariant-types
invariant-types l =
    (l.ranking.stack.items ≡ [])
    × IsSound l.table l.ranking.entered.items l.ranking.ranks.items l.ranking.last []
    × ((k : ℕ) → k < l.t → is_entered l.ranking.entered.items k ≡ true)
