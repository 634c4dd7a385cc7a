use Rattle.std.proofs.Common.{◌≡◌, ◌+◌, true, length}
use Rattle.type_ranks.specs.Stages.{is_entered, IsSound, Keeps, work}
use Rattle.type_ranks.proofs.ranking.Ranking.visit.Given as goal

abbrev pub invariant-types : goal.invariant-types
invariant-types l =
    IsSound l.table l.self.entered.items l.self.ranks.items l.self.last l.self.stack.items
    × Keeps l.fn.self.entered.items l.self.entered.items
    × (is_entered l.self.entered.items l.t ≡ true)

-- what is left to be done
abbrev pub decreases-types : goal.decreases-types
decreases-types l = work l.table l.self.entered.items + length l.self.stack.items
