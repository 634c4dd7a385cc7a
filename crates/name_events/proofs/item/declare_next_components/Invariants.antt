use Rattle.std.specs.Prelude.{drop, map}
use Rattle.name_events.specs.declared.event.Event.TheVariants as e
use Rattle.name_events.specs.Collected.{Adding}
use Rattle.name_events.specs.ExpressionOutline.{folded_identifier, next_name}
use Rattle.name_events.proofs.item.declare_next_components.Given as goal

abbrev pub invariant-turns : goal.invariant-turns
invariant-turns l = Adding l.initial.events l.events (map (λ id. e.DeclaresComponent (folded_identifier id)) (map next_name (drop l.next-index l.rest))) (map (λ id. e.DeclaresComponent (folded_identifier id)) (map next_name l.rest))
