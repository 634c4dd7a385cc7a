use Rattle.std.proofs.Common.{◌≡◌, drop}
use Rattle.type_definitions.specs.Statements.{any_meets}
use Rattle.statement_rules.proofs.cover.any_meets.Given as goal

abbrev pub invariant-others : goal.invariant-others
invariant-others l = any_meets l.k (drop l.m-index l.before) ≡ any_meets l.k l.before
