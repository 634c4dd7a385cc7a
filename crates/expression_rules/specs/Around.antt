-- Where a checker is.
use Rattle.type_definitions.specs.Names.{Context}
use Rattle.expression_rules.specs.declared.checker.Checker.{Checker}

abbrev pub context : Checker → Context
context k = record {
  known = k.settled.now.known;
  home = k.home;
  within = k.within;
  sub = k.sub;
  in_loop = k.in_loop;
  starts = k.starts;
}
