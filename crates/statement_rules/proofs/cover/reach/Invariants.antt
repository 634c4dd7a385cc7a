use Rattle.std.proofs.Common.{◌≡◌, drop}
use Rattle.statement_rules.specs.Sweep.{reach}
use Rattle.statement_rules.proofs.cover.reach.Given as goal

abbrev pub invariant-covers : goal.invariant-covers
invariant-covers l = reach l.value (drop l.cover-index l.sorted) ≡ reach l.low l.sorted
