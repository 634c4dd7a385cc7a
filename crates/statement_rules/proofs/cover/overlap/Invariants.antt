use Rattle.std.proofs.Common.{◌≡◌, drop}
use Rattle.statement_rules.specs.Sweep.{overlap}
use Rattle.statement_rules.proofs.cover.overlap.Given as goal

abbrev pub invariant-covers : goal.invariant-covers
invariant-covers l = overlap l.from (drop l.cover-index l.sorted) ≡ overlap l.initial.from l.sorted
