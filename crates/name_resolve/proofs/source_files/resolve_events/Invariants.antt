use Rattle.std.proofs.Common.{drop}
use Rattle.name_resolve.specs.Stands.{Stands}
use Rattle.name_resolve.proofs.Occurrences.{Goes}
use Rattle.name_resolve.proofs.source_files.resolve_events.Given as goal

abbrev pub invariant-turns : goal.invariant-turns
invariant-turns l = Goes (Stands l.whole) l.initial.known l.known l.events (drop l.event-index l.events) l.found
