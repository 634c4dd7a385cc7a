use Rattle.std.specs.Prelude.{drop}
use Rattle.std.specs.List.{flat_map}
use Rattle.name_events.specs.Collected.{Adding}
use Rattle.name_events.specs.Outline.{unit_events}
use Rattle.name_events.proofs.event_list.EventList.add_file.Given as goal

abbrev pub invariant-turns : goal.invariant-turns
invariant-turns l = Adding l.initial.self l.self (flat_map unit_events (drop l.tree-index l.units)) (flat_map unit_events l.units)
