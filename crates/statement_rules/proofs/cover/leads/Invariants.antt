use Rattle.std.proofs.Common.{◌≡◌, drop}
use Rattle.statement_rules.specs.Sweep.{leads}
use Rattle.statement_rules.proofs.cover.leads.Given as goal

abbrev pub invariant-covers : goal.invariant-covers
invariant-covers l = leads l.fault (drop l.cover-index l.covers) ≡ leads l.fault l.covers
