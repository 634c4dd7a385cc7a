-- Where a reader stands.
use Rattle.type_definitions.specs.Names.{Context}
use Rattle.expression_types.specs.declared.reader.Reader.{Reader}

abbrev pub here : Reader → Context
here r = record {
  known = r.known.now;
  home = r.home;
  within = r.within;
  sub = r.sub;
  in_loop = r.in_loop;
  starts = r.starts;
}
