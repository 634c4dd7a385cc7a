use Rattle.std.specs.Prelude.{drop, map}
use Rattle.name_events.specs.Collected.{Adding}
use Rattle.name_events.specs.ExpressionOutline.{mention, next_dotted_name}
use Rattle.name_events.proofs.item.mention_next.Given as goal

abbrev pub invariant-turns : goal.invariant-turns
invariant-turns l = Adding l.initial.events l.events (map (mention l.clause) (map next_dotted_name (drop l.next-index l.rest))) (map (mention l.clause) (map next_dotted_name l.rest))
