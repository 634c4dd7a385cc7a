use Rattle.std.specs.Prelude.{drop, map}
use Rattle.name_events.specs.Collected.{Adding}
use Rattle.name_events.specs.ExpressionOutline.{declares, next_name}
use Rattle.name_events.proofs.item.declare_next.Given as goal

abbrev pub invariant-turns : goal.invariant-turns
invariant-turns l = Adding l.initial.events l.events (map (declares l.form) (map next_name (drop l.next-index l.rest))) (map (declares l.form) (map next_name l.rest))
