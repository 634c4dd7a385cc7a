use Rattle.std.proofs.Common.{◌≡◌, ◌-◌, ◌≤◌, [], length, take}
use Rattle.type_definitions.specs.Statements.{doubled}
use Rattle.statement_rules.proofs.cover.count_apart.Given as goal

abbrev pub invariant-halves : goal.invariant-halves
invariant-halves l = (l.low ≤ l.high) × (l.high ≤ length l.covers) × (doubled [] (take l.low l.covers) ≡ [])

abbrev pub decreases-halves : goal.decreases-halves
decreases-halves l = l.high - l.low
