-- What steps of which nothing is told lead on to.
use Rattle.std.proofs.Common.{◌≡◌, ℕ, ◌+◌, ◌-◌, ◌<◌, ◌≤◌, List, sym, subst, arith}
use Rattle.handled_steps.specs.States.{State}
use Rattle.run_results.specs.declared.ran.Ending.{Ending as EndingRow}
use Rattle.run_results.specs.Results.{ending_of}
use Rattle.slot_runs.specs.declared.stepping.Turn.{Turn}
use Rattle.slot_runs.specs.declared.stepping.Turn.TheVariants as turn
use Rattle.slot_runs.specs.Turns.{Setting, Untold, Inside, SomeSteps, NeverFails, CanStep, Turns}
use Rattle.slot_runs.specs.Tellings.{Sinks}
use Rattle.slot_runs.specs.Underway.{IsUnderway}
use Rattle.slot_runs.specs.Answers.{IsOver}
use Rattle.slot_runs.specs.Goings.{IsGoing, Comes, LeadsOn}
use Rattle.slot_runs.proofs.Kept.{step_there, step_on, step_ends}

none_made : (steps : ℕ) → steps ≡ steps + 0
none_made steps = omega arith

one_more : (steps made : ℕ) → (steps + made) + 1 ≡ steps + (made + 1)
one_more steps made = omega arith

still_below : (steps made limit : ℕ) → made < limit → steps + made < steps + limit
still_below steps made limit below = omega (arith, below)

-- No step leads nowhere else.
pub stays : (c : Setting) (limit : ℕ) (u : Untold) (S : Inside → Type 0) → LeadsOn c limit u S 0 turn.On u S
stays c limit u S = λ files start now lines leaked first steps not is.
    subst (λ n. IsUnderway files c start now lines leaked first n u S) (none_made steps) is

-- A step more, after which the run goes on.
pub one_on : (c : Setting) (limit made : ℕ) (u v w : Untold) (S T X : Inside → Type 0) → made < limit → LeadsOn c limit u S made turn.On v T → Turns c v T turn.On w X
    → LeadsOn c limit u S (made + 1) turn.On w X
one_on c limit made u v w S T X below led turns = λ files start now lines leaked first steps not is.
    let h = led files start now lines leaked first steps not is in
    subst (λ n. IsUnderway files c start now lines leaked first n w X) (one_more steps made)
    (step_on files c start now lines leaked first (steps + made) v w T X h
    (turns h.inside h.stands h.running (step_there files c start now lines leaked first (steps + limit) (steps + made) v T (still_below steps made limit below) h not)))

-- A step more, which ends the run.
pub one_ends : (c : Setting) (limit made : ℕ) (u v w : Untold) (S T X : Inside → Type 0) (e : EndingRow) → made < limit → LeadsOn c limit u S made turn.On v T → Turns c v T (turn.Ends e) w X
    → LeadsOn c limit u S (made + 1) (turn.Ends e) w X
one_ends c limit made u v w S T X e below led turns = λ files start now lines leaked first steps not is.
    let h = led files start now lines leaked first steps not is in
    subst (λ n. IsOver files c start now lines leaked first (steps + limit) (ending_of e) n w X) (one_more steps made)
    (step_ends files c start now lines leaked first (steps + limit) (steps + made) v w T X e (still_below steps made limit below) h
    (turns h.inside h.stands h.running (step_there files c start now lines leaked first (steps + limit) (steps + made) v T (still_below steps made limit below) h not)))

-- The next step can be made.
pub can_step : (c : Setting) (limit made : ℕ) (u v : Untold) (S T : Inside → Type 0) → made < limit → IsGoing c limit u S → LeadsOn c limit u S made turn.On v T → CanStep c v T
can_step c limit made u v S T below is led =
    let h = led is.files is.start is.now is.lines is.leaked is.first is.steps is.there is.under in
    record {
      inside = h.inside;
      stands = h.stands;
      running = h.running;
      there = step_there is.files c is.start is.now is.lines is.leaked is.first (is.steps + limit) (is.steps + made) v T (still_below is.steps made limit below) h is.there;
    }

-- ---- steps after steps

rest_made : (steps made limit : ℕ) → made ≤ limit → (steps + made) + (limit - made) ≡ steps + limit
rest_made steps made limit few = omega (arith, few)

all_more : (steps made more : ℕ) → (steps + made) + more ≡ steps + (made + more)
all_more steps made more = omega arith

-- Within the rest of a limit they lead on where they lead from where the first ones led.
pub leads_on : (c : Setting) (limit made more : ℕ) (u v w : Untold) (S T X : Inside → Type 0) (last : Turn) → made ≤ limit → LeadsOn c limit u S made turn.On v T
    → LeadsOn c (limit - made) v T more last w X → LeadsOn c limit u S (made + more) last w X
leads_on c limit made more u v w S T X last few led next = λ files start now lines leaked first steps not is.
    let all = rest_made steps made limit few in
    let there : NeverFails (SomeSteps ((steps + made) + (limit - made)) c first) = subst (λ n. NeverFails (SomeSteps n c first)) (sym all) not in
    subst (λ n. Comes last files c start now lines leaked first (steps + limit) n w X) (all_more steps made more)
    (subst (λ n. Comes last files c start now lines leaked first n ((steps + made) + more) w X) all
    (next files start now lines leaked first (steps + made) there (led files start now lines leaked first steps not is)))

-- The rest of the steps can be made.
pub going_on : (c : Setting) (limit made : ℕ) (u v : Untold) (S T : Inside → Type 0) → made ≤ limit → IsGoing c limit u S → LeadsOn c limit u S made turn.On v T
    → IsGoing c (limit - made) v T
going_on c limit made u v S T few is led = record {
  files = is.files;
  start = is.start;
  now = is.now;
  lines = is.lines;
  leaked = is.leaked;
  first = is.first;
  steps = is.steps + made;
  under = led is.files is.start is.now is.lines is.leaked is.first is.steps is.there is.under;
  there = subst (λ n. NeverFails (SomeSteps n c is.first)) (sym (rest_made is.steps made limit few)) is.there;
}

-- ---- of a run within a limit

all_made : (limit steps : ℕ) → steps ≤ limit → steps + (limit - steps) ≡ limit
all_made limit steps few = omega (arith, few)

-- No outcome fails within what is left.
pub left_there : (c : Setting) (first : State) (limit steps : ℕ) → steps ≤ limit → NeverFails (SomeSteps limit c first) → NeverFails (SomeSteps (steps + (limit - steps)) c first)
left_there c first limit steps few not = subst (λ n. NeverFails (SomeSteps n c first)) (sym (all_made limit steps few)) not

pub gone_on : (files : List (List ℕ)) (c : Setting) (start now : Sinks) (lines : List ℕ) (leaked : ℕ) (first : State) (limit steps made : ℕ) (u v : Untold) (S T : Inside → Type 0) → steps ≤ limit → NeverFails (SomeSteps limit c first)
    → IsUnderway files c start now lines leaked first steps u S → LeadsOn c (limit - steps) u S made turn.On v T
    → IsUnderway files c start now lines leaked first (steps + made) v T
gone_on files c start now lines leaked first limit steps made u v S T few not is led =
    led files start now lines leaked first steps (left_there c first limit steps few not) is

pub gone_ends : (files : List (List ℕ)) (c : Setting) (start now : Sinks) (lines : List ℕ) (leaked : ℕ) (first : State) (limit steps made : ℕ) (u v : Untold) (S T : Inside → Type 0) (e : EndingRow) → steps ≤ limit → NeverFails (SomeSteps limit c first)
    → IsUnderway files c start now lines leaked first steps u S → LeadsOn c (limit - steps) u S made (turn.Ends e) v T
    → IsOver files c start now lines leaked first limit (ending_of e) (steps + made) v T
gone_ends files c start now lines leaked first limit steps made u v S T e few not is led =
    subst (λ n. IsOver files c start now lines leaked first n (ending_of e) (steps + made) v T) (all_made limit steps few)
    (led files start now lines leaked first steps (left_there c first limit steps few not) is)
