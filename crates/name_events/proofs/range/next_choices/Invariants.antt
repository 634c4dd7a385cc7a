use Rattle.std.specs.Prelude.{drop}
use Rattle.std.specs.List.{flat_map}
use Rattle.name_events.specs.Collected.{Adding}
use Rattle.name_events.specs.ExpressionOutline.{next_choice_events}
use Rattle.name_events.proofs.range.next_choices.Given as goal

abbrev pub invariant-turns : goal.invariant-turns
invariant-turns l = Adding l.initial.events l.events (flat_map next_choice_events (drop l.tree-index l.trees)) (flat_map next_choice_events l.trees)
