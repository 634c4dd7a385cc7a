use Rattle.std.proofs.Common.{◌≡◌, true, ◌++◌, List, drop, ℤ}
use Rattle.run_values.specs.declared.value.Kind.{Kind}
use Rattle.run_codes.specs.Flat.{Given, are_pointers}
use Rattle.run_results.specs.Results.{leaks_of}
use Rattle.handled_runs.specs.Slots.{held}
use Rattle.handled_runs.specs.Leaks.{leaks_in}
use Rattle.slot_memory.specs.Memory.{Ghosts, Stands, slots}
use Rattle.slot_memory.specs.Spots.{spot_of}
use Rattle.slot_hand.proofs.spots.find_pointers.Given as goal

abbrev pub invariant-offsets : goal.invariant-offsets
invariant-offsets g l =
    (s : Ghosts) → Stands g.R.Store.Means l.memory s → (ks : List Kind) (zs : List ℤ) → are_pointers ks l.offsets ≡ true → held (slots l.memory s) (spot_of l.spot) ks ≡ Given zs
    → leaks_of l.leaks.items ++ leaks_in s.numbers l.pos zs (drop l.i l.offsets) ≡ leaks_of l.initial.leaks.items ++ leaks_in s.numbers l.pos zs l.offsets
