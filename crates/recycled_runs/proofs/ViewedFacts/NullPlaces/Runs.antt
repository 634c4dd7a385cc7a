-- A run with null in moved places gives the same, if the steps of its states do.
use Rattle.std.proofs.Common.{◌≡◌, refl, sym, ap, ◌∙◌, subst, ℕ, zero, suc, Bool, true, false, List, [], ◌∷◌, nat_le, if◌then◌else◌}
use Rattle.std.proofs.lemmas.Bool.{true≢false, false≢true}
use Rattle.machine.specs.flow_paths.Objects.{Typing, object_at}
use Rattle.machine.specs.flow_paths.Laid.{FlowProgram, flow_typing}
use Rattle.machine.specs.Words.{default}
use Rattle.machine.specs.Memory.{Memory, OfVariable, OfCell, Base}
use Rattle.machine.specs.Evaluate.{StorageError}
use Rattle.machine.specs.States.{State, Ending, Raised, Spent, Outcome, Goes, Ends, sub_of, frame_words, stack_words, frame_at_start}
use Rattle.machine.specs.Run.{empty_memory, step, then_on, within, state_at_start, run_of, main_of, run_with, ended, run}
use Rattle.recycled_runs.specs.ViewedFacts.NullPlaces.Cleared.{cleared_state, cleared_outcome, null_step, null_within, null_run_of, null_run, RunsWithNull}
use Rattle.recycled_runs.specs.ViewedFacts.NullPlaces.Agrees.{Agrees, SameState, SameOutcome}
use Rattle.recycled_runs.proofs.ViewedFacts.NullPlaces.Memories.{itself, clear_agrees, agrees_right, agrees_clear, count_agree, freed_count}
use Rattle.recycled_runs.proofs.ViewedFacts.NullPlaces.Only.{OnlyOwners, fresh_whole, OwnersGone}
use Rattle.recycled_runs.proofs.ViewedFacts.NullPlaces.Instructions.{SameStepBy}
use Rattle.soundness.specs.Seen.{content}
use Rattle.soundness.specs.Typed.{loc_of}

-- ---- outcomes

state_clear : (a b : State) → SameState a b → cleared_state a ≡ cleared_state b
state_clear a b same = (λ j. record a { memory = agrees_clear a.memory b.memory same.1 j }) ∙ ap cleared_state (sym same.0)

-- the same outcome with null in moved places
pub outcome_clear : (x y : Outcome) → SameOutcome x y → cleared_outcome x ≡ cleared_outcome y
outcome_clear (Goes a) (Goes b) same = ap Goes (state_clear a b same)
outcome_clear (Ends e a) (Ends f b) same = (λ j. Ends (same.0 j) (state_clear a b same.1 j))
outcome_clear (Goes a) (Ends f b) same = absurd same
outcome_clear (Ends e a) (Goes b) same = absurd same

-- the same run
run_same : (e : Ending) (a b : State) → SameState a b → run_with e b ≡ run_with e a
run_same e a b same =
    ap (run_with e) same.0
    ∙ (λ j. record (run_with e a) {
      made = sym (count_agree a.memory b.memory same.1) j;
      freed = sym (freed_count a.memory b.memory same.1) j;
      peaks = sym same.1.peaks j;
    })

ended_same : (x y : Outcome) → SameOutcome x y → ended y ≡ ended x
ended_same (Goes a) (Goes b) same = run_same Spent a b same
ended_same (Ends e a) (Ends f b) same = (λ j. run_with (sym same.0 j) b) ∙ run_same e a b same.1
ended_same (Goes a) (Ends f b) same = absurd same
ended_same (Ends e a) (Goes b) same = absurd same

-- what a step leads to, as a whole
plainly : (s : Typing) (x y : Outcome) → SameStepBy s x y → SameOutcome x y
plainly s (Goes a) (Goes b) same = same.0
plainly s (Ends e a) (Ends f b) same = same
plainly s (Goes a) (Ends f b) same = absurd same
plainly s (Ends e a) (Goes b) same = absurd same

-- What a step goes on to.
abbrev pub GoesOn : (State → Type 0) → Outcome → Type 0
GoesOn sound (Goes state) = sound state
GoesOn sound (Ends e state) = Unit {0}

-- ---- runs of states of which steps keep what is known

module _ (program : FlowProgram) (input : List ℕ) (sound : State → Type 0)
    (begins : sound (state_at_start program)) (steps : (state : State) → sound state → GoesOn sound (step program input state))
    (same : (state : State) → sound state → OnlyOwners (flow_typing program) state.memory → (n : Memory) → Agrees state.memory n
    → SameStepBy (flow_typing program) (step program input state) (step program input (record state { memory = n }))) where
  abbrev s : Typing
  s = flow_typing program

  -- A sound state, where only words that own are gone.
  abbrev IsGood : State → Type 0
  IsGood state = sound state × OnlyOwners (flow_typing program) state.memory

  -- A step of one is the same in a state that agrees with it.
  states_same : (a b : State) → IsGood a → SameState a b → SameStepBy s (step program input a) (step program input b)
  states_same a b good agrees =
      subst (λ z. SameStepBy s (step program input a) (step program input z)) (sym agrees.0) (same a good.0 good.1 b.memory agrees.1)

  -- With null in moved places a step leads to the same, with null where it moved.
  pub clear_step : (state : State) → sound state → OnlyOwners (flow_typing program) state.memory
      → null_step program input (cleared_state state) ≡ null_step program input state
  clear_step state good only =
      sym (outcome_clear (step program input state) (step program input (cleared_state state))
      (plainly s (step program input state) (step program input (cleared_state state))
      (states_same state (cleared_state state) (good, only) (refl, clear_agrees state.memory))))

  then_same : (k : ℕ) → ((a b : State) → IsGood a → SameState a b → SameOutcome (within k program input a) (null_within k program input b))
      → (x y : Outcome) → GoesOn sound x → SameStepBy s x y
      → SameOutcome (then_on x (within k program input)) (then_on (cleared_outcome y) (null_within k program input))
  then_same k on (Goes a) (Goes b) leads agrees =
      on a (cleared_state b) (leads, agrees.1) ((ap cleared_state agrees.0.0), agrees_right a.memory b.memory agrees.0.1)
  then_same k on (Ends e a) (Ends f b) leads agrees = (agrees.0, ((ap cleared_state agrees.1.0), agrees_right a.memory b.memory agrees.1.1))
  then_same k on (Goes a) (Ends f b) leads agrees = absurd agrees
  then_same k on (Ends e a) (Goes b) leads agrees = absurd agrees

  many_same : (k : ℕ) (a b : State) → IsGood a → SameState a b → SameOutcome (within k program input a) (null_within k program input b)
  unfolding within null_within
  many_same zero a b good agrees = (refl, agrees)
  many_same (suc k) a b good agrees =
      then_same k (many_same k) (step program input a) (step program input b) (steps a good.0) (states_same a b good agrees)

  start_good : IsGood (state_at_start program)
  start_good = (begins, none)
    where
      each : (b : Base) → OwnersGone (flow_typing program).table (content (flow_typing program) empty_memory [] (loc_of b))
      each (OfVariable f x) o gone =
          (let no : true ≡ false = sym gone ∙ fresh_whole (default (flow_typing program).table (object_at (flow_typing program) x).of) o in absurd (true≢false no))
      each (OfCell zero) o gone = absurd (false≢true gone)
      each (OfCell (suc k)) o gone = absurd (false≢true gone)

      none : OnlyOwners (flow_typing program) empty_memory
      none = (
        each,
        λ f x o gone. (let no : true ≡ false = sym gone ∙ fresh_whole (default (flow_typing program).table (object_at (flow_typing program) x).of) o in absurd (true≢false no)),
      )

  runs_same : (main k : ℕ) → SameOutcome (run_of program main input k) (null_run_of program main input k)
  runs_same main k = by_room (nat_le (frame_words program (frame_at_start main [] ∷ frame_at_start 0 [] ∷ [])) stack_words)
    where
      by_room : (b : Bool) → SameOutcome
          (if b then within k program input (state_at_start program) else Ends (Raised StorageError (sub_of program main).pos) (state_at_start program))
          (if b then null_within k program input (state_at_start program) else Ends (Raised StorageError (sub_of program main).pos) (state_at_start program))
      by_room true = many_same k (state_at_start program) (state_at_start program) start_good (refl, itself empty_memory)
      by_room false = (refl, (refl, itself empty_memory))

  -- With each budget the run with null in moved places gives what the run gives.
  pub sound_runs : RunsWithNull program input
  unfolding run null_run
  sound_runs k = ended_same (run_of program (main_of program.main) input k) (null_run_of program (main_of program.main) input k) (runs_same (main_of program.main) k)
