-- What points change before the run goes on in the same frame, and where they lead: the parts of a step (`handled_steps`,
-- specs/Steps.antt) that need no state beside the memory.
--
-- A memory stands for many slots, which differ in what no code keeps. In one of them nothing fails, and what is answered
-- comes about in each of them in which nothing does.
use Rattle.std.specs.Prelude.{◌≡◌, ◌≢◌, ℕ, Bool, ℤ, List, Result, Ok, Err, if◌then◌else◌}
use Rattle.spark_base.specs.declared.position.Pos.{Pos}
use Rattle.type_definitions.specs.Types.{Table}
use Rattle.machine.specs.States.{Leak}
use Rattle.slot_heap.specs.Heaps.{Heap}
use Rattle.run_codes.specs.Flat.{Got, Given, Stops, Broken, Stop as Reason, and_then}
use Rattle.code_rows.specs.declared.stop.Stop.{Stop}
use Rattle.code_rows.specs.declared.stop.Stop.TheVariants as stop
use Rattle.code_rows.specs.Stops.{stop_of}
use Rattle.code_rows.specs.declared.rows.Rows.{Rows}
use Rattle.code_rows.specs.declared.point.Does.{Does}
use Rattle.code_rows.specs.declared.point.Does.TheVariants as does
use Rattle.code_rows.specs.Rows.{code_at, place_of}
use Rattle.code_rows.specs.Values.{fill_at}
use Rattle.code_rows.specs.Points.{choices_of}
use Rattle.handled_runs.specs.Slots.{Slots}
use Rattle.handled_runs.specs.Leaks.{leak}
use Rattle.handled_runs.specs.Values as values
use Rattle.handled_runs.specs.Values.{Fills}
use Rattle.handled_runs.specs.Assigned.{Left, assigned}
use Rattle.handled_runs.specs.Released.{released}
use Rattle.slot_memory.specs.Memory.{Kept, Ghosts, Stands, Shows, slots}
use Rattle.slot_points.specs.Changing.{With}
use Rattle.slot_points.specs.Steps.{tested, chosen_by, put_checked, put_pointer, stored_checked, started, turned, ended_pointer}
use Rattle.slot_places.specs.Steps.{ended_scope}

-- ---- single words

-- It is done, and the point n is the next one.
abbrev pub going : ℕ → Got (With Unit) → Got (With ℕ)
going n got = and_then got (λ x. Given (record { memory = x.memory; answer = n }))

-- Nothing is changed.
abbrev pub led : Slots → Got ℕ → Got (With ℕ)
led s got = and_then got (λ n. Given (record { memory = s; answer = n }))

abbrev pub turning : ℕ → ℕ → Got (With Bool) → Got (With ℕ)
turning turn leave got = and_then got (λ x. Given (record { memory = x.memory; answer = if x.answer then turn else leave }))

-- The number of the next point, where one word is stored at most.
abbrev pub words_changed : Rows → Does → Slots → Got (With ℕ)
words_changed rows (does.Go n) s = Given (record { memory = s; answer = n })
words_changed rows (does.Put at v low high n) s = going n (put_checked at (code_at rows.nodes v) low high s)
words_changed rows (does.PutPointer at v n) s = going n (put_pointer at (code_at rows.nodes v) s)
words_changed rows (does.Store p v low high k n) s = going n (stored_checked (place_of (code_at rows.nodes) p) (code_at rows.nodes v) low high k s)
words_changed rows (does.Test c holds fails) s = led s (tested (code_at rows.nodes c) holds fails s)
words_changed rows (does.Choose c r) s = led s (chosen_by (code_at rows.nodes c) (choices_of rows r) s)
words_changed rows (does.Start at counter low high first last n) s =
    going n (started at counter (code_at rows.nodes low) (code_at rows.nodes high) first last s)
words_changed rows (does.Next at counter reversed without turn leave) s = turning turn leave (turned at counter reversed without s)
words_changed rows _ s = Broken

-- ---- values of any type

-- The memory then, with the next point and the leak checks that fail, or what stops it, and the memory then.
pub data Change : Type 0 where
  Leads : Slots → ℕ → List Leak → Change
  Halts : Reason → Slots → Change
  Fails : Change

abbrev pub left : ℕ → Slots → Got (Left Slots) → Change
left n s (Given l) = Leads l.memory n l.leaks
left n s (Stops x) = Halts x s
left n s Broken = Fails

-- After a value.
abbrev pub on_value : values.Outcome → (List ℤ → Slots → Change) → Change
on_value (values.Gives zs t) f = f zs t
on_value (values.Ends x t) f = Halts x t
on_value values.Fails f = Fails

abbrev pub pointer_left : Pos → ℕ → Slots → Got (With ℤ) → Change
pointer_left pos n s (Given x) = Leads x.memory n (leak s.numbers pos x.answer)
pointer_left pos n s (Stops x) = Halts x s
pointer_left pos n s Broken = Fails

-- Which changes may come, where there may be leak checks.
abbrev pub ValuesChange : Table → Rows → Pos → Does → Slots → Change → Type 0
ValuesChange table rows pos (does.Assign p v of checks n) s r =
    (g : values.Outcome) × Fills table (fill_at rows.nodes rows.fills v) s g
    × (r ≡ on_value g (λ zs t. left n t (assigned table (place_of (code_at rows.nodes) p) of checks zs t)))
ValuesChange table rows pos (does.Release p of at n) s r = r ≡ left n s (released table (place_of (code_at rows.nodes) p) of at s)
ValuesChange table rows pos (does.EndPointer at n) s r = r ≡ pointer_left pos n s (ended_pointer at s)
ValuesChange table rows pos (does.EndScope at of n) s r = r ≡ left n s (ended_scope table at of pos s)
ValuesChange table rows pos _ s r = r ≡ Fails

-- ---- what is asked, and what is answered

pub record CanChange {R : Type 0} (Means : R → Heap → Type 0) (m : Kept R) (Comes : Slots → Change → Type 0) : Type 0 where
  pub ghosts : Ghosts
  pub stands : Stands Means m ghosts
  pub whole : Comes (slots m ghosts) Fails → ⊥

-- It leads to a point, with some leaks.
pub record IsLed {R : Type 0} (Means : R → Heap → Type 0) (Comes : Change → Type 0) (n : ℕ) (leaks : List Leak) (now : Kept R) : Type 0 where
  pub after : Slots
  pub comes : Comes (Leads after n leaks)
  pub shows : Shows Means now after

-- It stops.
pub record IsHalted {R : Type 0} (Means : R → Heap → Type 0) (Comes : Change → Type 0) (x : Stop) (now : Kept R) : Type 0 where
  pub after : Slots
  pub comes : Comes (Halts (stop_of x) after)
  pub shows : Shows Means now after

-- Nothing is told where there is too little memory.
abbrev pub Answers : {R : Type 0} → (R → Heap → Type 0) → (Change → Type 0) → Result ℕ Stop → List Leak → Kept R → Type 0
Answers Means Comes (Ok n) leaks now = IsLed Means Comes n leaks now
Answers Means Comes (Err x) leaks now = x ≢ stop.Memory → IsHalted Means Comes x now

pub record Changing {R : Type 0} (Means : R → Heap → Type 0) (before : Kept R) (Comes : Slots → Change → Type 0) (r : Result ℕ Stop) (leaks : List Leak) (now : Kept R) : Type 0 where
  pub changes : (g : Ghosts) → Stands Means before g → (Comes (slots before g) Fails → ⊥) → Answers Means (Comes (slots before g)) r leaks now
