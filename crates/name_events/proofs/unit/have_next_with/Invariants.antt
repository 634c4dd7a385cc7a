use Rattle.std.specs.Prelude.{drop, map}
use Rattle.name_events.specs.Collected.{Adding}
use Rattle.name_events.specs.ExpressionOutline.{next_dotted_name}
use Rattle.name_events.specs.Outline.{has_with}
use Rattle.name_events.proofs.unit.have_next_with.Given as goal

abbrev pub invariant-turns : goal.invariant-turns
invariant-turns l = Adding l.initial.events l.events (map has_with (map next_dotted_name (drop l.next-index l.rest))) (map has_with (map next_dotted_name l.rest))
