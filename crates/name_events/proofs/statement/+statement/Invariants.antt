use Rattle.std.specs.Prelude.{drop}
use Rattle.std.specs.List.{flat_map}
use Rattle.name_events.specs.Collected.{Adding}
use Rattle.name_events.specs.Outline.{elsif_events, stmt_events, when_events}
use Rattle.name_events.proofs.statement.+statement.Given as goal

abbrev pub invariant-next_stmts-turns : goal.invariant-next_stmts-turns
invariant-next_stmts-turns l = Adding l.initial.events l.events (flat_map stmt_events (drop l.tree-index l.trees)) (flat_map stmt_events l.trees)

abbrev pub invariant-elsifs-turns : goal.invariant-elsifs-turns
invariant-elsifs-turns l = Adding l.initial.events l.events (flat_map elsif_events (drop l.tree-index l.trees)) (flat_map elsif_events l.trees)

abbrev pub invariant-whens-turns : goal.invariant-whens-turns
invariant-whens-turns l = Adding l.initial.events l.events (flat_map when_events (drop l.tree-index l.trees)) (flat_map when_events l.trees)
