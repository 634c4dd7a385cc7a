-- States over both heaps that are alike, but for the names of cells.
use Rattle.std.specs.Prelude.{◌≡◌, ℕ, ◌+◌, Bool, List, [], ◌∷◌, ◌++◌, length, flat_map, take, slice_get, Option, Some, None, ℤ, if◌then◌else◌}
use Rattle.handled_runs.specs.type_definitions.Types.{Table}
use Rattle.handled_runs.specs.run_values.declared.value.Kind.{Kind}
use Rattle.handled_runs.specs.run_values.declared.value.Kind.TheVariants as sort
use Rattle.handled_runs.specs.machine.States.{Ending, Normal, Raised, Spent, Trapped}
use Rattle.handled_runs.specs.run_codes.Codes.{Room, Object, Counter, Sub, Does, Go, Put, Store, Assign, Call, Output, Input, Release, Test, Choose, Start, Next, EvaluateLeft, EvaluateRight, Hold, EndPointer, EndScope, Finish, Fall}
use Rattle.handled_runs.specs.run_codes.Flat.{Got, Given, Stops, Broken, and_then, found, is_zero, word, kinds}
use Rattle.handled_runs.specs.run_codes.Points.{Held, Return, Frame, sub_at, next_value}
use Rattle.handled_runs.specs.run_codes.Points as points
use Rattle.handled_runs.specs.Beside.{all_renamed, spot_renamed, NameWords, NamesSpot, Beside}
use Rattle.handled_steps.specs.Backs.{LookBack}
use Rattle.handled_steps.specs.States.{State, Outcome, Goes, Ends, Wants, Fails}

-- Two lists are as long, and what stands at the same place is in relation.
abbrev pub Paired : {A B : Type 0} → (A → B → Type 0) → List A → List B → Type 0
Paired R [] [] = Unit {0}
Paired R (a ∷ rest) (b ∷ others) = R a b × Paired R rest others
Paired R _ _ = ⊥

-- ---- frames

-- A value that waits, over numbers and over handles.
pub record HeldAlike (table : Table) (handles : List ℕ) (a b : Held) : Type 0 where
  pub of : b.of ≡ a.of
  pub words : b.words ≡ all_renamed handles (kinds table a.of) a.words
  pub known : length (kinds table a.of) ≡ length a.words
  pub names : NameWords (length handles) (kinds table a.of) a.words

pub record ReturnAlike (handles : List ℕ) (a b : Return) : Type 0 where
  pub at : b.at ≡ a.at
  pub from : b.from ≡ a.from
  pub to : b.to ≡ spot_renamed handles a.to
  pub of : b.of ≡ a.of
  pub names : NamesSpot (length handles) a.to

pub record FrameAlike (table : Table) (handles : List ℕ) (a b : Frame) : Type 0 where
  pub base : b.base ≡ a.base
  pub next : b.next ≡ a.next
  pub words : b.words ≡ a.words
  pub waits : Paired (HeldAlike table handles) a.waits b.waits
  pub returns : Paired (ReturnAlike handles) a.returns b.returns

-- ---- states

-- `here` has the kinds of the words of the stack.
pub record StatesAlike (table : Table) (handles : List ℕ) (here : List Kind) (a : points.State) (b : State) : Type 0 where
  pub taken : List Kind
  pub memory : Beside handles here taken a.memory b.memory
  pub frames : Paired (FrameAlike table handles) a.frames b.frames
  pub at : b.at ≡ a.at
  pub output : b.output ≡ a.output
  pub leaks : b.leaks ≡ a.leaks
  pub steps : b.steps ≡ a.steps

-- With handles for the cells that were made since; and what is copied back is of the kinds of its types.
abbrev pub LaterAlike : Table → List ℕ → List Kind → points.State → State → Type 0
LaterAlike table handles here a b = (more : List ℕ) × StatesAlike table (handles ++ more) here a b × LookBack table here a.frames

abbrev pub EndsAlike : Table → List ℕ → Ending → points.State → Outcome → Type 0
EndsAlike table handles e a (Goes b) = ⊥
EndsAlike table handles e a (Ends d b) = (d ≡ e) × ((ks : List Kind) × ((more : List ℕ) × StatesAlike table (handles ++ more) ks a b))
EndsAlike table handles e a Wants = Unit {0}
EndsAlike table handles e a Fails = ⊥

-- Both go on, or end in the same way. Over the heap memory may be out alone. Nothing is said where a freed cell is touched
-- or freed again, and where something isn't there. `here` has the kinds of the stack after the step.
abbrev pub OutcomesAlike : Table → List ℕ → List Kind → points.Outcome → Outcome → Type 0
OutcomesAlike table handles here (points.Goes a) (Goes b) = LaterAlike table handles here a b
OutcomesAlike table handles here (points.Goes a) (Ends e b) = ⊥
OutcomesAlike table handles here (points.Goes a) Wants = Unit {0}
OutcomesAlike table handles here (points.Goes a) Fails = ⊥
OutcomesAlike table handles here (points.Ends Normal a) r = EndsAlike table handles Normal a r
OutcomesAlike table handles here (points.Ends (Raised x p) a) r = EndsAlike table handles (Raised x p) a r
OutcomesAlike table handles here (points.Ends Spent a) r = EndsAlike table handles Spent a r
OutcomesAlike table handles here (points.Ends (Trapped x p) a) r = Unit {0}
OutcomesAlike table handles here points.Wants r = r ≡ Wants
OutcomesAlike table handles here points.Fails r = Unit {0}

-- ---- the kinds of the stack

-- Those of a frame. A loop has the bounds and whether the first turn is to come.
abbrev pub room_kinds : Table → Room → List Kind
room_kinds table (Object of) = kinds table of
room_kinds table Counter = sort.Int ∷ sort.Int ∷ sort.Int ∷ []

abbrev pub frame_kinds : Table → Sub → List Kind
frame_kinds table sub = flat_map (room_kinds table) sub.rooms

abbrev pub begun_kinds : points.Turn → List Kind → Option ℕ → List Kind
begun_kinds t here None = here
begun_kinds t here (Some main) = here ++ frame_kinds t.table (sub_at t.program main)

abbrev pub left_kinds : points.Turn → List Kind → List Frame → List Kind
left_kinds t here [] = begun_kinds t here t.program.main
left_kinds t here (g ∷ outer) = here

abbrev pub led_kinds : points.Turn → List Kind → Option ℕ → List Kind
led_kinds t here (Some n) = here
led_kinds t here None = left_kinds t here t.outer

-- Where a point follows that what is read tells.
abbrev pub got_kinds : points.Turn → List Kind → Got (Option ℕ) → List Kind
got_kinds t here (Given n) = led_kinds t here n
got_kinds t here (Stops x) = here
got_kinds t here Broken = here

abbrev pub stack_word : points.Turn → ℕ → Got ℤ
stack_word t o = found (slice_get (points.start t).stack (t.frame.base + o))

abbrev pub turn_next : Option ℕ → Option ℕ → Option ℤ → Option ℕ
turn_next turn leave (Some v) = turn
turn_next turn leave None = leave

abbrev pub tested : Option ℕ → Option ℕ → ℤ → Option ℕ
tested holds fails w = if is_zero w then fails else holds

abbrev pub decided_by : Bool → Option ℕ → Option ℕ → ℤ → Option ℕ
decided_by or_else n decided w = if is_zero w then (if or_else then n else decided) else (if or_else then decided else n)

-- After a point.
abbrev pub kinds_after : points.Turn → List Kind → Does → List Kind
kinds_after t here (Go n) = led_kinds t here n
kinds_after t here (Put at v n) = led_kinds t here n
kinds_after t here (Store p v k n) = led_kinds t here n
kinds_after t here (Assign p v of checks n) = led_kinds t here n
kinds_after t here (Call sub actuals n) = led_kinds t (here ++ frame_kinds t.table (sub_at t.program sub)) n
kinds_after t here (Output pieces line n) = led_kinds t here n
kinds_after t here (Input p low high n) = led_kinds t here n
kinds_after t here (Release p of at n) = led_kinds t here n
kinds_after t here (Test c holds fails) = got_kinds t here (and_then (word (points.start t) c) (λ w. Given (tested holds fails w)))
kinds_after t here (Choose c choices) = here
kinds_after t here (Start at counter low high first last n) = led_kinds t here n
kinds_after t here (Next at counter reversed default turn leave) =
    got_kinds t here (and_then (stack_word t at) (λ v. and_then (stack_word t counter) (λ low. and_then (stack_word t (counter + 1))
    (λ high. and_then (stack_word t (counter + 2)) (λ first. Given (turn_next turn leave (next_value reversed low high first v)))))))
kinds_after t here (EvaluateLeft c or_else n decided) = got_kinds t here (and_then (word (points.start t) c) (λ w. Given (decided_by or_else n decided w)))
kinds_after t here (EvaluateRight c n) = led_kinds t here n
kinds_after t here (Hold v of n) = here
kinds_after t here (EndPointer at n) = led_kinds t here n
kinds_after t here (EndScope at of n) = led_kinds t here n
kinds_after t here Finish = take t.frame.base here
kinds_after t here Fall = here
