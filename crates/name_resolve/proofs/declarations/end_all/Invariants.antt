use Rattle.std.proofs.Common.{List, filter, take, nat_eq, ◌++◌}
use Rattle.name_events.specs.Declarations.{Name, Entry}
use Rattle.name_resolve.specs.Stands.{HoldersStand, IndexStands, StandFor}
use Rattle.name_resolve.proofs.declarations.end_all.Given as goal

abbrev pub invariant-turns : goal.invariant-turns
invariant-turns l =
    (HoldersStand l.initial.ended.last l.initial.holders → HoldersStand l.ended.last l.holders)
    × ((words : List Name) (waiting before : List Entry) → StandFor words l.pending waiting → IndexStands words l.initial.ended before
    → IndexStands words l.ended (before ++ filter (λ d. nat_eq l.region d.1.region) (take l.entry-index waiting)))
