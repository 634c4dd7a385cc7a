use Rattle.std.proofs.Common.{◌≡◌, [], take, drop}
use Rattle.type_definitions.specs.Faults.{noted}
use Rattle.type_definitions.specs.Statements.{doubled}
use Rattle.statement_rules.proofs.cover.compared.Given as goal

abbrev pub invariant-covers : goal.invariant-covers
invariant-covers l = noted l.found (doubled (take l.i l.covers) (drop l.i l.covers)) ≡ noted l.initial.found (doubled [] l.covers)
