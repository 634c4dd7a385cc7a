-- What is answered where leak checks are made.
use Rattle.std.specs.Prelude.{◌≡◌, ◌≢◌, ℕ, true, false, ℤ, List, ◌++◌, Result, Ok, Err}
use Rattle.run_values.specs.declared.value.Kind.{Kind}
use Rattle.machine.specs.States.{Leak}
use Rattle.run_codes.specs.Flat.{Got, Given, Stops, Spot, and_then, is_broken, are_pointers}
use Rattle.handled_runs.specs.Slots.{Slots, held}
use Rattle.code_rows.specs.declared.stop.Stop.{Stop}
use Rattle.code_rows.specs.declared.stop.Stop.TheVariants as stop
use Rattle.code_rows.specs.Stops.{stop_of}

-- The leaks that are got are appended to others, but where there is too little memory.
abbrev pub Finds : {U : Type 0} → Got (List Leak) → Result U Stop → List Leak → List Leak → Type 0
Finds got (Ok u) old new = and_then got (λ found. Given (old ++ found)) ≡ Given new
Finds got (Err s) old new = s ≢ stop.Memory → got ≡ Stops (stop_of s)

-- Words are got, but where there is too little memory.
abbrev pub Reads : {U : Type 0} → Got (List ℤ) → Result U Stop → List ℤ → Type 0
Reads got (Ok u) words = got ≡ Given words
Reads got (Err s) words = s ≢ stop.Memory → got ≡ Stops (stop_of s)

-- Words of some kinds stand at a spot, access values at these offsets among them.
pub record HasPointers (s : Slots) (q : Spot) (offsets : List ℕ) : Type 0 where
  pub kinds : List Kind
  pub pointers : are_pointers kinds offsets ≡ true
  pub whole : is_broken (held s q kinds) ≡ false
