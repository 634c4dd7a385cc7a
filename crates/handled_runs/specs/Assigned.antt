-- What stores and releases change: over numbers, as points do it, and over a heap that uses its slots again.
use Rattle.std.specs.Prelude.{◌≡◌, ℕ, List, [], Option, Some, None, ℤ}
use Rattle.numbered_cells.specs.spark_base.declared.position.Pos.{Pos}
use Rattle.numbered_cells.specs.type_definitions.Types.{Table}
use Rattle.numbered_cells.specs.run_values.declared.value.Kind.{Kind}
use Rattle.numbered_cells.specs.machine.Words.{access_offsets}
use Rattle.numbered_cells.specs.machine.States.{Leak}
use Rattle.numbered_cells.specs.run_codes.Codes.{Place}
use Rattle.numbered_cells.specs.run_codes.Flat.{Flat, Got, Given, Stops, Broken, Stop, Traps, and_then, kinds, are_pointers, most_cells, Spot, InStack, InCell}
use Rattle.numbered_cells.specs.run_codes.Flat as flat
use Rattle.numbered_cells.specs.run_codes.Points as points
use Rattle.handled_runs.specs.Slots.{Slots, spot}
use Rattle.handled_runs.specs.Changes.{stored, settled}
use Rattle.handled_runs.specs.Leaks.{leaks_at, AreLeaked}
use Rattle.handled_runs.specs.Beside.{GotsAlike, Beside}
use Rattle.handled_runs.specs.Alike.{LooksThere}

-- The leak checks that were made, and the memory then.
pub record Left (M : Type 0) : Type 0 where
  pub leaks : List Leak
  pub memory : M

-- ---- a value of a type goes to a place

abbrev pub flat_assigned : Table → Place → ℕ → Option Pos → List ℤ → Flat → Got (Left Flat)
flat_assigned table p of checks zs m =
    and_then (flat.spot m p) (λ q. and_then (points.checked_at table m q of checks)
    (λ leaks. and_then (flat.stored m q (kinds table of) zs) (λ n. Given (record { leaks = leaks; memory = n }))))

abbrev pub checked_at : Table → Slots → Spot → ℕ → Option Pos → Got (List Leak)
checked_at table s q of None = Given []
checked_at table s q of (Some p) = leaks_at table s q of p

abbrev pub assigned : Table → Place → ℕ → Option Pos → List ℤ → Slots → Got (Left Slots)
assigned table p of checks zs s =
    and_then (spot s p) (λ q. and_then (settled s)
    (λ k. and_then (checked_at table k q of checks) (λ leaks. and_then (stored k q (kinds table of) zs) (λ t. Given (record { leaks = leaks; memory = t })))))

-- What is asked of the place: words of the type stand there, and where they are checked, what isn't gone of them names a
-- cell that is there.
abbrev pub WhereChecked : Option Pos → Type 0 → Type 0
WhereChecked None P = Unit {0}
WhereChecked (Some p) P = P

abbrev pub LooksTo : Table → ℕ → Flat → List Kind → List Kind → Place → ℕ → Option Pos → Type 0
LooksTo table base m here taken p of checks =
    LooksThere base here taken p (kinds table of)
    × WhereChecked checks ((q : Spot) → flat.spot m p ≡ Given q → (zs : List ℤ) → flat.words_at m q (kinds table of) ≡ Given zs
    → AreLeaked m.cells zs (access_offsets table of))

-- ---- the same outcome

-- Memories with the leak checks that were made.
abbrev pub AreLeft : List ℕ → List Kind → List Kind → Left Flat → Left Slots → Type 0
AreLeft handles here taken a b = (b.leaks ≡ a.leaks) × Beside handles here taken a.memory b.memory

abbrev pub LeftAlike : List ℕ → List Kind → List Kind → Got (Left Flat) → Got (Left Slots) → Type 0
LeftAlike handles here taken = GotsAlike (AreLeft handles here taken)
