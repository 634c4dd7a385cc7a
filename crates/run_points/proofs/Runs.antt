-- Runs are alike where steps are.
use Rattle.std.proofs.Common.{◌≡◌, ℕ, zero, suc, ◌+◌, Bool, true, false, List, [], ◌∷◌, length, refl, sym, ap, subst, ◌∙◌, Option, Some, None, arith, if◌then◌else◌}
use Rattle.std.specs.Prelude.{nat_le, sum, get_or}
use Rattle.flow_paths.specs.Laid.{FlowSub, FlowProgram, flow_typing}
use Rattle.machine.specs.Evaluate.{StorageError}
use Rattle.machine.specs.States.{Spent, Raised, Ending, Leak, sub_of, stack_words, frame_words, frame_at_start}
use Rattle.machine.specs.States as machine
use Rattle.machine.specs.Run as machine_run
use Rattle.machine.specs.Run.{main_of}
use Rattle.run_codes.specs.Programs.{Program, sub_rows}
use Rattle.run_codes.specs.Points.{State, Outcome, Goes, Ends, Wants, Fails, step, then_on, within, state_at_start, run_of, run_given, run_with, ran_of, Ran, sub_at, no_sub, is_declaring}
use Rattle.run_points.specs.Outcomes.{IsSeenAlike, IsAlike, GivesAlike}

-- ---- a budget

-- The states of both sides that stand for each other are a premise, with their steps.
within_alike : (R : machine.State → State → Type 0) (program : FlowProgram) (p : Program) (input : List ℕ)
    → ((s : machine.State) (g : State) → R s g → IsAlike R (machine_run.step program input s) (step (flow_typing program).table p input g))
    → ((s : machine.State) (g : State) → R s g → IsSeenAlike s g)
    → (n : ℕ) (s : machine.State) (g : State) → R s g
    → IsAlike R (machine_run.within n program input s) (within n (flow_typing program).table p input g)
unfolding within machine_run.within
within_alike R program p input steps same zero s g is = (refl, same s g is)
within_alike R program p input steps same (suc n) s g is =
    by (machine_run.step program input s) (step (flow_typing program).table p input g) (steps s g is) (within_alike R program p input steps same n)
  where
    by : (out : machine.Outcome) (flat : Outcome) → IsAlike R out flat
        → ((s : machine.State) (g : State) → R s g → IsAlike R (machine_run.within n program input s) (within n (flow_typing program).table p input g))
        → IsAlike R (machine_run.then_on out (machine_run.within n program input)) (then_on flat (within n (flow_typing program).table p input))
    by (machine.Goes s) (Goes g) is on = on s g is
    by (machine.Ends e s) (Goes g) is on = absurd is
    by (machine.Goes s) (Ends k g) is on = absurd is
    by (machine.Ends e s) (Ends k g) is on = is
    by out Wants is on = tt
    by out Fails is on = absurd is

-- ---- runs

words_alike : (program : FlowProgram) (subs : List FlowSub) (k n : ℕ) → (get_or (sub_rows (flow_typing program) k subs) n no_sub).words ≡ (get_or subs n machine.no_sub).words
words_alike program [] k n = refl
words_alike program (sub ∷ rest) k zero = refl
words_alike program (sub ∷ rest) k (suc n) = words_alike program rest (k + length sub.points) n

two : (a b : ℕ) → sum (a ∷ b ∷ []) ≡ a + b
two a b = omega arith

-- Before the first step nothing is there.
start_alike : (program : FlowProgram) (p : Program) (declares : Bool) → IsSeenAlike (machine_run.state_at_start program) (state_at_start (flow_typing program).table p declares)
start_alike program p true = record { output = refl; leaks = refl; steps = refl; made = refl; freed = refl; sizes = refl }
start_alike program p false = by p.main
  where
    by : (main : Option ℕ) → IsSeenAlike (machine_run.state_at_start program) (state_at_start (flow_typing program).table (record p { main = main }) false)
    by None = record { output = refl; leaks = refl; steps = refl; made = refl; freed = refl; sizes = refl }
    by (Some main) = record { output = refl; leaks = refl; steps = refl; made = refl; freed = refl; sizes = refl }

-- The states with which runs begin are a premise, too. Where the first frames have too many words, there is no step.
pub run_alike : (R : machine.State → State → Type 0) (program : FlowProgram) (p : Program) (input : List ℕ)
    → (main n : ℕ)
    → (nat_le (frame_words program (frame_at_start main [] ∷ frame_at_start 0 [] ∷ [])) stack_words ≡ true
    → (s : machine.State) (g : State) → R s g → IsAlike R (machine_run.step program input s) (step (flow_typing program).table p input g))
    → ((s : machine.State) (g : State) → R s g → IsSeenAlike s g)
    → p.subs ≡ sub_rows (flow_typing program) 0 program.subs
    → (nat_le (frame_words program (frame_at_start main [] ∷ frame_at_start 0 [] ∷ [])) stack_words ≡ true
    → R (machine_run.state_at_start program) (state_at_start (flow_typing program).table p (is_declaring program)))
    → IsAlike R (machine_run.run_of program main input n) (run_of (flow_typing program).table p (is_declaring program) (sub_of program main).pos main input n)
run_alike R program p input main n steps same subs start =
    subst (λ k. IsAlike R (machine_run.run_of program main input n)
    (if nat_le k stack_words then within n (flow_typing program).table p input begun else Ends (Raised StorageError (sub_of program main).pos) begun)) (sym words)
    (by (nat_le all stack_words) refl)
  where
    begun : State
    begun = state_at_start (flow_typing program).table p (is_declaring program)

    all : ℕ
    all = frame_words program (frame_at_start main [] ∷ frame_at_start 0 [] ∷ [])

    words_of : (k : ℕ) → (sub_at p k).words ≡ (sub_of program k).words
    words_of k = ap (λ rows. (get_or rows k no_sub).words) subs ∙ words_alike program program.subs 0 k

    words : (sub_at p main).words + (sub_at p 0).words ≡ all
    words = ap (λ k. k + (sub_at p 0).words) (words_of main) ∙ ap (λ k. (sub_of program main).words + k) (words_of 0) ∙ sym (two (sub_of program main).words (sub_of program 0).words)

    by : (k : Bool) → nat_le all stack_words ≡ k
        → IsAlike R (if k then machine_run.within n program input (machine_run.state_at_start program) else machine.Ends (Raised StorageError (sub_of program main).pos) (machine_run.state_at_start program))
        (if k then within n (flow_typing program).table p input begun else Ends (Raised StorageError (sub_of program main).pos) begun)
    by true fits = within_alike R program p input (steps fits) same n (machine_run.state_at_start program) begun (start fits)
    by false fits = (refl, start_alike program p (is_declaring program))

-- ---- what runs give

abbrev gives : List ℕ → List Leak → Ending → ℕ → ℕ → ℕ → Ran
gives output leaks e steps made freed =
    record { output = output; leaks = leaks; ending = e; steps = steps; made = made; freed = freed; leaked = length leaks }

ran_alike : (e k : Ending) (s : machine.State) (g : State) → k ≡ e → IsSeenAlike s g → run_with k g ≡ ran_of (machine_run.run_with e s)
ran_alike e k s g same is =
    ap (λ o. gives o g.leaks k g.steps (length g.memory.cells) g.memory.freed) is.output
    ∙ ap (λ l. gives s.output l k g.steps (length g.memory.cells) g.memory.freed) is.leaks
    ∙ ap (λ x. gives s.output s.leaks x g.steps (length g.memory.cells) g.memory.freed) same
    ∙ ap (λ n. gives s.output s.leaks e n (length g.memory.cells) g.memory.freed) is.steps
    ∙ ap (λ n. gives s.output s.leaks e s.steps n g.memory.freed) is.made
    ∙ ap (λ n. gives s.output s.leaks e s.steps (length s.memory.cells) n) is.freed

pub given_alike : (R : machine.State → State → Type 0) → ((s : machine.State) (g : State) → R s g → IsSeenAlike s g) → (out : machine.Outcome) (flat : Outcome) → IsAlike R out flat
    → GivesAlike (machine_run.ended out) (run_given flat)
given_alike R same (machine.Goes s) (Goes g) is = ran_alike Spent Spent s g refl (same s g is)
given_alike R same (machine.Ends e s) (Ends k g) is = ran_alike e k s g is.0 is.1
given_alike R same (machine.Goes s) (Ends k g) is = absurd is
given_alike R same (machine.Ends e s) (Goes g) is = absurd is
given_alike R same out Wants is = tt
given_alike R same out Fails is = absurd is
