-- Leak checks and a store never stop.
use Rattle.std.proofs.Common.{ℕ, List, Option, ℤ}
use Rattle.spark_base.specs.declared.position.Pos.{Pos}
use Rattle.type_definitions.specs.Types.{Table}
use Rattle.run_codes.specs.Flat.{Given, Spot, kinds}
use Rattle.handled_runs.specs.Slots.{Slots}
use Rattle.handled_runs.specs.Changes.{stored}
use Rattle.handled_runs.specs.Assigned.{checked_at}
use Rattle.slot_words.proofs.Never.{Never, never_given, never_then, checked_never, stored_never}
use Rattle.slot_places.specs.Steps.{stored_leaking, stored_checked}

pub stored_checked_never : (table : Table) (q : Spot) (of : ℕ) (checks : Option Pos) (zs : List ℤ) (k : Slots) → Never (stored_checked table q of checks zs k)
stored_checked_never table q of checks zs k =
    never_then (checked_at table k q of checks) (stored_leaking table of zs k q) (checked_never table k q of checks)
    (λ leaks. never_then (stored k q (kinds table of) zs) (λ t. Given (record { leaks = leaks; memory = t })) (stored_never k q (kinds table of) zs) (λ t. never_given (record { leaks = leaks; memory = t })))
