-- Leak checks over a heap that uses its slots again. They tell the number of a handle.
use Rattle.std.specs.Prelude.{ℕ, zero, suc, List, [], ◌∷◌, flat_map, get_or, ℤ, pos, negsuc}
use Rattle.numbered_cells.specs.spark_base.declared.position.Pos.{Pos}
use Rattle.numbered_cells.specs.type_definitions.Types.{Table}
use Rattle.numbered_cells.specs.run_values.declared.value.Value.{Value}
use Rattle.numbered_cells.specs.machine.Words.{access_offsets}
use Rattle.numbered_cells.specs.machine.States.{Leak}
use Rattle.numbered_cells.specs.kept_cells.Cells.{Cell}
use Rattle.numbered_cells.specs.run_codes.Flat.{Got, Given, and_then, kinds, Spot}
use Rattle.numbered_cells.specs.Follows.{IsThere}
use Rattle.handled_runs.specs.Slots.{Slots, held}

abbrev pub leak : (ℕ → ℕ) → Pos → ℤ → List Leak
leak numbers p (pos (suc h)) = record { number = numbers h; pos = p } ∷ []
leak numbers p _ = []

abbrev pub leaks_in : (ℕ → ℕ) → Pos → List ℤ → List ℕ → List Leak
leaks_in numbers p zs offsets = flat_map (λ o. leak numbers p (get_or zs o (pos 0))) offsets

-- The checks of a spot with words of a type.
abbrev pub leaks_at : Table → Slots → Spot → ℕ → Pos → Got (List Leak)
leaks_at table s q of p = and_then (held s q (kinds table of)) (λ zs. Given (leaks_in s.numbers p zs (access_offsets table of)))

-- What is looked at and isn't gone names a cell that is there.
abbrev pub IsLeaked : List Cell → ℤ → Type 0
IsLeaked cells (pos (suc n)) = (ws : List Value) × IsThere cells n ws
IsLeaked cells (pos zero) = Unit {0}
IsLeaked cells (negsuc n) = Unit {0}

abbrev pub AreLeaked : List Cell → List ℤ → List ℕ → Type 0
AreLeaked cells zs [] = Unit {0}
AreLeaked cells zs (o ∷ offsets) = IsLeaked cells (get_or zs o (pos 0)) × AreLeaked cells zs offsets
