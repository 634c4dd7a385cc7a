use Rattle.std.specs.Prelude.{drop}
use Rattle.std.specs.List.{flat_map}
use Rattle.name_events.specs.Collected.{Adding}
use Rattle.name_events.specs.Outline.{body_part_events}
use Rattle.name_events.proofs.unit.body_parts.Given as goal

abbrev pub invariant-turns : goal.invariant-turns
invariant-turns l = Adding l.initial.events l.events (flat_map body_part_events (drop l.tree-index l.trees)) (flat_map body_part_events l.trees)
