-- What a release changes: over numbers, as points do it, and over a heap that uses its slots again.
use Rattle.std.specs.Prelude.{◌≡◌, ℕ, zero, suc, List, [], ◌∷◌, length, nat_lt, slice_get, Option, Some, None, ℤ, pos, negsuc, unsigned_abs, if◌then◌else◌}
use Rattle.numbered_cells.specs.spark_base.declared.position.Pos.{Pos}
use Rattle.numbered_cells.specs.type_definitions.Types.{Table}
use Rattle.numbered_cells.specs.run_values.declared.value.Value.{Value}
use Rattle.numbered_cells.specs.run_values.declared.value.Kind.{Kind}
use Rattle.numbered_cells.specs.run_values.declared.value.Kind.TheVariants as sort
use Rattle.numbered_cells.specs.machine.Words.{access_offsets}
use Rattle.numbered_cells.specs.machine.Evaluate.{Twice}
use Rattle.numbered_cells.specs.slot_heap.Heaps.{words_at}
use Rattle.numbered_cells.specs.kept_cells.Cells.{Cell}
use Rattle.numbered_cells.specs.run_codes.Codes.{Place}
use Rattle.numbered_cells.specs.run_codes.Flat.{Flat, Got, Given, Stops, Broken, Traps, and_then, kinds, most_cells, Spot, InCell}
use Rattle.numbered_cells.specs.run_codes.Flat as flat
use Rattle.numbered_cells.specs.run_codes.Points as points
use Rattle.handled_runs.specs.Slots.{Slots, spot, held}
use Rattle.handled_runs.specs.Changes.{stored, without_cell}
use Rattle.handled_runs.specs.Leaks.{leaks_at, AreLeaked}
use Rattle.handled_runs.specs.Looks.{LooksAt}
use Rattle.handled_runs.specs.Alike.{StandAt}
use Rattle.handled_runs.specs.Assigned.{Left}

-- ---- over numbers

abbrev pub flat_freed : Table → ℕ → Pos → Spot → Flat → ℕ → Cell → Got (Left Flat)
flat_freed table of at q m k c =
    if c.freed then Stops (Traps Twice)
    else and_then (points.leaks_at table m (InCell k 0) of at)
    (λ leaks. and_then (flat.stored m q (sort.Access ∷ []) (pos 0 ∷ [])) (λ n. Given (record { leaks = leaks; memory = flat.without_cell n k (length c.words) })))

abbrev pub flat_cell : Table → ℕ → Pos → Spot → Flat → ℕ → Option Cell → Got (Left Flat)
flat_cell table of at q m k None = Broken
flat_cell table of at q m k (Some c) = if nat_lt k most_cells then flat_freed table of at q m k c else Broken

abbrev pub flat_named : Table → ℕ → Pos → Spot → Flat → ℕ → Got (Left Flat)
flat_named table of at q m zero = Given (record { leaks = []; memory = m })
flat_named table of at q m (suc k) = flat_cell table of at q m k (slice_get m.cells k)

abbrev pub flat_at : Table → ℕ → Pos → Spot → Flat → List ℤ → Got (Left Flat)
flat_at table of at q m (w ∷ []) = flat_named table of at q m (unsigned_abs w)
flat_at table of at q m _ = Broken

abbrev pub flat_released : Table → Place → ℕ → Pos → Flat → Got (Left Flat)
flat_released table p of at m = and_then (flat.spot m p) (λ q. and_then (flat.words_at m q (sort.Access ∷ [])) (flat_at table of at q m))

-- ---- over slots

abbrev pub cell_at : Table → ℕ → Pos → Spot → Slots → ℕ → Option (List Value) → Got (Left Slots)
cell_at table of at q s h None = Broken
cell_at table of at q s h (Some ws) =
    and_then (leaks_at table s (InCell h 0) of at)
    (λ leaks. and_then (stored s q (sort.Access ∷ []) (pos 0 ∷ [])) (λ t. Given (record { leaks = leaks; memory = without_cell t h (length ws) })))

abbrev pub named : Table → ℕ → Pos → Spot → Slots → ℕ → Got (Left Slots)
named table of at q s zero = Given (record { leaks = []; memory = s })
named table of at q s (suc h) = cell_at table of at q s h (words_at s.heap.cells h)

abbrev pub released_at : Table → ℕ → Pos → Spot → Slots → List ℤ → Got (Left Slots)
released_at table of at q s (w ∷ []) = named table of at q s (unsigned_abs w)
released_at table of at q s _ = Broken

abbrev pub released : Table → Place → ℕ → Pos → Slots → Got (Left Slots)
released table p of at s = and_then (spot s p) (λ q. and_then (held s q (sort.Access ∷ [])) (released_at table of at q s))

-- ---- what is asked

-- What isn't gone of the words of its cell names cells that are there.
abbrev pub IsOwner : Table → Flat → ℕ → ℤ → Type 0
IsOwner table m of (pos zero) = Unit {0}
IsOwner table m of (pos (suc k)) =
    (zs : List ℤ) → flat.words_at m (InCell k 0) (kinds table of) ≡ Given zs → AreLeaked m.cells zs (access_offsets table of)
IsOwner table m of (negsuc k) = Unit {0}

abbrev pub LooksFor : Table → Flat → List Kind → List Kind → Place → ℕ → Type 0
LooksFor table m here taken p of =
    LooksAt m here taken p
    × ((q : Spot) → flat.spot m p ≡ Given q → StandAt m here q (sort.Access ∷ [])
    × ((z : ℤ) → flat.words_at m q (sort.Access ∷ []) ≡ Given (z ∷ []) → IsOwner table m of z))
