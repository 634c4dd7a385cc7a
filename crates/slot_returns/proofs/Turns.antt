-- What is copied back is what the step of a call's end copies back.
use Rattle.std.proofs.Common.{◌≡◌, Bool, true, false, List, [], ◌∷◌, refl, ◌∙◌, ℤ, if◌then◌else◌}
use Rattle.run_codes.specs.Flat.{Got, Given, Stops, Broken, and_then, constraint, kinds}
use Rattle.run_codes.specs.Points.{Return, fits}
use Rattle.handled_runs.specs.Slots.{Slots, held}
use Rattle.handled_runs.specs.Changes.{stored}
use Rattle.handled_steps.specs.States.{Turn, Outcome, Fails, halted, on_got}
use Rattle.handled_steps.specs.Steps.{in_stack, copied_back}
use Rattle.slot_returns.specs.Backs.{Copying, Copied, Stopped, Missing, on_copied, copied, all_copied}

-- What it comes to, in a step.
abbrev pub on_copying : Turn → Copying → (Slots → Outcome) → Outcome
on_copying t (Copied s) f = f s
on_copying t (Stopped x s) f = halted t x s
on_copying t Missing f = Fails

-- One formal, and what follows.
one_back : (t : Turn) (s : Slots) (got : Got (List ℤ)) (b : List ℤ → Bool) (store : List ℤ → Got Slots) (f : Slots → Outcome)
    → on_got t s got (λ zs. if b zs then on_got t s (store zs) f else halted t constraint s)
    ≡ on_got t s (and_then got (λ zs. if b zs then store zs else Stops constraint)) f
one_back t s (Given zs) b store f = by (b zs)
  where
    by : (c : Bool) → (if c then on_got t s (store zs) f else halted t constraint s) ≡ on_got t s (if c then store zs else Stops constraint) f
    by true = refl
    by false = refl
one_back t s (Stops x) b store f = refl
one_back t s Broken b store f = refl

then_back : (t : Turn) (s : Slots) (got : Got Slots) (f : Slots → Copying) (k : Slots → Outcome)
    → on_got t s got (λ n. on_copying t (f n) k) ≡ on_copying t (on_copied s got f) k
then_back t s (Given n) f k = refl
then_back t s (Stops x) f k = refl
then_back t s Broken f k = refl

on_same : {A : Type 0} (t : Turn) (s : Slots) (got : Got A) (f k : A → Outcome) → ((a : A) → f a ≡ k a) → on_got t s got f ≡ on_got t s got k
on_same t s (Given a) f k same = same a
on_same t s (Stops x) f k same = refl
on_same t s Broken f k same = refl

pub copied_back_is : (t : Turn) (returns : List Return) (s : Slots) (f : Slots → Outcome) → copied_back t returns s f ≡ on_copying t (all_copied t.table returns s) f
copied_back_is t [] s f = refl
copied_back_is t (r ∷ rest) s f =
    one_back t s (held s (in_stack s r.at) (kinds t.table r.from)) (fits t.table r.of) (stored s r.to (kinds t.table r.of)) (λ n. copied_back t rest n f)
    ∙ on_same t s (copied t.table r s) (λ n. copied_back t rest n f) (λ n. on_copying t (all_copied t.table rest n) f) (λ n. copied_back_is t rest n f)
    ∙ then_back t s (copied t.table r s) (all_copied t.table rest) f
