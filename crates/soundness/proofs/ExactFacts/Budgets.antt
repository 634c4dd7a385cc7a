-- If something holds of the state before the first step, and each step of a state of which it holds leads to such a state
-- and has no excused leak check that fails, no such check fails in the run.
use Rattle.std.proofs.Common.{◌≡◌, ◌⊎◌, inl, inr, refl, sym, ap, ◌∙◌, subst, ℕ, zero, suc, Bool, true, false, nat_le, List, [], ◌∷◌, if◌then◌else◌}
use Rattle.machine.specs.flow_paths.declared.report.Effects.{Effects}
use Rattle.machine.specs.flow_paths.Laid.{FlowProgram}
use Rattle.machine.specs.Evaluate.{StorageError}
use Rattle.machine.specs.States.{State, Raised, Spent, Outcome, Goes, Ends, state_of, sub_of, frame_words, stack_words, frame_at_start}
use Rattle.machine.specs.Run.{state_at_start, step, then_on, within, main_of, moment}
use Rattle.soundness.specs.ExactFacts.Exact.{checks_of, StepHolds, RunHolds}

-- A step leads to a state of which it holds, or ends the run.
abbrev pub LeadsBy : (State → Type 0) → Outcome → Type 0
LeadsBy Exactly (Goes state) = Exactly state
LeadsBy Exactly (Ends e state) = Unit {0}

module _ (program : FlowProgram) (effects : Effects) (input : List ℕ) (Exactly : State → Type 0) (starts : Exactly (state_at_start program))
    (leads : (state : State) → Exactly state → LeadsBy Exactly (step program input state))
    (holds : (state : State) → Exactly state → StepHolds program effects state.frames (checks_of (step program input state))) where
  abbrev on : State → Outcome
  on = step program input

  -- the outcome after so many steps from one
  abbrev going : Outcome → ℕ → Outcome
  going o zero = o
  going o (suc n) = then_on (going o n) on

  go : (o : Outcome) → LeadsBy Exactly o → LeadsBy Exactly (then_on o on)
  go (Goes state) exactly = leads state exactly
  go (Ends e state) exactly = tt

  reached : (n : ℕ) → LeadsBy Exactly (going (Goes (state_at_start program)) n)
  reached zero = starts
  reached (suc n) = go (going (Goes (state_at_start program)) n) (reached n)

  -- ---- a run with a budget takes these steps

  abbrev spent : Outcome → Outcome
  spent (Goes state) = Ends Spent state
  spent (Ends e state) = Ends e state

  first_step : (o : Outcome) (n : ℕ) → going (then_on o on) n ≡ then_on (going o n) on
  first_step o zero = refl
  first_step o (suc n) = ap (λ x. then_on x on) (first_step o n)

  within_going : (n : ℕ) (o : Outcome) → then_on o (within n program input) ≡ spent (going o n)
  unfolding within
  within_going zero (Goes state) = refl
  within_going zero (Ends e state) = refl
  within_going (suc n) (Goes state) = within_going n (on state) ∙ ap spent (first_step (Goes state) n)
  within_going (suc n) (Ends e state) = within_going n (Ends e state) ∙ ap spent (first_step (Ends e state) n)

  checks_after : (o : Outcome) → (state_of (spent o)).checks ≡ checks_of o
  checks_after (Goes state) = refl
  checks_after (Ends e state) = refl

  -- The run has ended, or it takes a step more.
  abbrev Holds : Outcome → Outcome → Type 0
  Holds now next = (next ≡ now) ⊎ StepHolds program effects (state_of now).frames (state_of next).checks

  by_outcome : (o : Outcome) → LeadsBy Exactly o → Holds (spent o) (spent (then_on o on))
  by_outcome (Ends e state) exactly = inl refl
  by_outcome (Goes state) exactly = inr (subst (StepHolds program effects state.frames) (sym (checks_after (on state))) (holds state exactly))

  abbrev begun : Outcome
  begun = Goes (state_at_start program)

  within_holds : (n : ℕ) → Holds (within n program input (state_at_start program)) (within (suc n) program input (state_at_start program))
  within_holds n =
      subst (λ now. Holds now (within (suc n) program input (state_at_start program))) (sym (within_going n begun))
      (subst (Holds (spent (going begun n))) (sym (within_going (suc n) begun)) (by_outcome (going begun n) (reached n)))

  abbrev main : ℕ
  main = main_of program.main

  abbrev run_if : Bool → ℕ → Outcome
  run_if b m = if b then within m program input (state_at_start program) else Ends (Raised StorageError (sub_of program main).pos) (state_at_start program)

  if_holds : (n : ℕ) (b : Bool) → Holds (run_if b n) (run_if b (suc n))
  if_holds n true = within_holds n
  if_holds n false = inl refl

  pub steps_hold : RunHolds program effects input
  unfolding moment
  steps_hold n = if_holds n (nat_le (frame_words program (frame_at_start main [] ∷ frame_at_start 0 [] ∷ [])) stack_words)
