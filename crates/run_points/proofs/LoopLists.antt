-- The loops of a frame after one of them starts, has a turn, or ends.
use Rattle.std.proofs.Common.{◌≡◌, ℕ, true, false, Bool, List, [], ◌∷◌, refl, sym, ap, ◌∙◌, Some, arith, ℤ, pos, if◌then◌else◌}
use Rattle.std.specs.Prelude.{◌==◌}
use Rattle.flow_paths.specs.Objects.{Typing}
use Rattle.machine.specs.States.{Loop}
use Rattle.machine.specs.Step as machine_step
use Rattle.machine.specs.Step.{no_loop, loop_of, without_loop, turned}
use Rattle.run_codes.specs.Flat.{truth}
use Rattle.run_codes.specs.Points as points
use Rattle.run_codes.proofs.Places.{impossible}
use Rattle.run_points.specs.States.{loop_words, IsBounded, AreBounded}

-- A parameter has a loop with these words, and those of others are as before.
pub record IsChanged (s : Typing) (x : ℕ) (old new : List Loop) (words : List ℤ) : Type 0 where
  pub here : loop_words (loop_of x new) ≡ words
  pub others : (y : ℕ) → (x == y) ≡ false → loop_of y new ≡ loop_of y old
  pub bounds : AreBounded s new

same_number : (a b : ℕ) → (a == b) ≡ true → a ≡ b
same_number a b is = grind arith

equal : (n : ℕ) → (n == n) ≡ true
equal n = grind arith

turned_around : (a b : ℕ) → (a == b) ≡ false → (b == a) ≡ false
turned_around a b is = grind arith

both : {A : Type 0} (a x y : ℕ) → (x == y) ≡ false → (a == x) ≡ true → (a == y) ≡ true → A
both a x y apart first second = absurd (never a x y apart first second)
  where
    never : (a x y : ℕ) → (x == y) ≡ false → (a == x) ≡ true → (a == y) ≡ true → ⊥
    never a x y apart first second = grind arith

-- ---- without a loop

without_others : (x y : ℕ) (loops : List Loop) → (x == y) ≡ false → loop_of y (without_loop x loops) ≡ loop_of y loops
without_others x y [] apart = refl
without_others x y (l ∷ rest) apart = by (l.parameter == x) refl (l.parameter == y) refl (without_others x y rest apart)
  where
    by : (k : Bool) → (l.parameter == x) ≡ k → (j : Bool) → (l.parameter == y) ≡ j → loop_of y (without_loop x rest) ≡ loop_of y rest
        → loop_of y (if k then rest else l ∷ without_loop x rest) ≡ loop_of y (l ∷ rest)
    by true is true has on = both l.parameter x y apart is has
    by true is false lacks on = sym (ap (λ c. if c then l else loop_of y rest) lacks)
    by false is j has on = ap (λ z. if l.parameter == y then l else z) on

without_here : (s : Typing) (x : ℕ) (loops : List Loop) → AreBounded s loops → loop_of x (without_loop x loops) ≡ no_loop
without_here s x [] is = refl
without_here s x (l ∷ rest) is = by (l.parameter == x) refl (without_here s x rest is.2)
  where
    by : (k : Bool) → (l.parameter == x) ≡ k → loop_of x (without_loop x rest) ≡ no_loop → loop_of x (if k then rest else l ∷ without_loop x rest) ≡ no_loop
    by true same on = ap (λ n. loop_of n rest) (sym (same_number l.parameter x same)) ∙ is.1
    by false other on = ap (λ c. if c then l else loop_of x (without_loop x rest)) other ∙ on

without_bounds : (s : Typing) (x : ℕ) (loops : List Loop) → AreBounded s loops → AreBounded s (without_loop x loops)
without_bounds s x [] is = tt
without_bounds s x (l ∷ rest) is = by (l.parameter == x) refl (without_bounds s x rest is.2)
  where
    by : (k : Bool) → (l.parameter == x) ≡ k → AreBounded s (without_loop x rest) → AreBounded s (if k then rest else l ∷ without_loop x rest)
    by true same on = is.2
    by false other on = (is.0, without_others x l.parameter rest (turned_around l.parameter x other) ∙ is.1, on)

pub left_changed : (s : Typing) (x : ℕ) (loops : List Loop) → AreBounded s loops → IsChanged s x loops (without_loop x loops) (loop_words no_loop)
left_changed s x loops is = record {
  here = ap loop_words (without_here s x loops is);
  others = λ y apart. without_others x y loops apart;
  bounds = without_bounds s x loops is;
}

-- ---- with one more

pub started_changed : (s : Typing) (l : Loop) (loops : List Loop) → AreBounded s loops → IsBounded s l → IsChanged s l.parameter loops (l ∷ without_loop l.parameter loops) (loop_words l)
started_changed s l loops is bounded = record {
  here = ap (λ c. loop_words (if c then l else loop_of l.parameter (without_loop l.parameter loops))) (equal l.parameter);
  others = λ y apart. ap (λ c. if c then l else loop_of y (without_loop l.parameter loops)) apart ∙ without_others l.parameter y loops apart;
  bounds = (bounded, without_here s l.parameter loops is, without_bounds s l.parameter loops is);
}

-- ---- after a turn

turned_others : (x y : ℕ) (loops : List Loop) → (x == y) ≡ false → loop_of y (turned x loops) ≡ loop_of y loops
turned_others x y [] apart = refl
turned_others x y (l ∷ rest) apart = by (l.parameter == x) refl (l.parameter == y) refl (turned_others x y rest apart)
  where
    by : (k : Bool) → (l.parameter == x) ≡ k → (j : Bool) → (l.parameter == y) ≡ j → loop_of y (turned x rest) ≡ loop_of y rest
        → loop_of y (if k then record l { first = false } ∷ rest else l ∷ turned x rest) ≡ loop_of y (l ∷ rest)
    by true is true has on = both l.parameter x y apart is has
    by true is false lacks on = ap (λ c. if c then record l { first = false } else loop_of y rest) lacks ∙ sym (ap (λ c. if c then l else loop_of y rest) lacks)
    by false is j has on = ap (λ z. if l.parameter == y then l else z) on

turned_bounds : (s : Typing) (x : ℕ) (loops : List Loop) → AreBounded s loops → AreBounded s (turned x loops)
turned_bounds s x [] is = tt
turned_bounds s x (l ∷ rest) is = by (l.parameter == x) refl (turned_bounds s x rest is.2)
  where
    by : (k : Bool) → (l.parameter == x) ≡ k → AreBounded s (turned x rest) → AreBounded s (if k then record l { first = false } ∷ rest else l ∷ turned x rest)
    by true same on = (record { low = is.0.low; high = is.0.high }, is.1, is.2)
    by false other on = (is.0, turned_others x l.parameter rest (turned_around l.parameter x other) ∙ is.1, on)

-- A loop that has a turn has started.
no_turn : {A : Type 0} (reversed : Bool) (v u : ℤ) → machine_step.next_value reversed no_loop v ≡ Some u → A
no_turn true v u is = impossible u is
no_turn false v u is = impossible u is

turned_here : (reversed : Bool) (x : ℕ) (v u : ℤ) (loops : List Loop) → machine_step.next_value reversed (loop_of x loops) v ≡ Some u
    → loop_words (loop_of x (turned x loops)) ≡ (loop_of x loops).low ∷ (loop_of x loops).high ∷ pos 0 ∷ []
turned_here reversed x v u [] is = no_turn reversed v u is
turned_here reversed x v u (l ∷ rest) is = by (l.parameter == x) refl is (turned_here reversed x v u rest)
  where
    by : (k : Bool) → (l.parameter == x) ≡ k → machine_step.next_value reversed (if k then l else loop_of x rest) v ≡ Some u
        → (machine_step.next_value reversed (loop_of x rest) v ≡ Some u → loop_words (loop_of x (turned x rest)) ≡ (loop_of x rest).low ∷ (loop_of x rest).high ∷ pos 0 ∷ [])
        → loop_words (loop_of x (if k then record l { first = false } ∷ rest else l ∷ turned x rest))
        ≡ (if k then l else loop_of x rest).low ∷ (if k then l else loop_of x rest).high ∷ pos 0 ∷ []
    by true same is on = ap (λ c. loop_words (if c then record l { first = false } else loop_of x rest)) same
    by false other is on = ap (λ c. loop_words (if c then l else loop_of x (turned x rest))) other ∙ on is

pub turned_changed : (s : Typing) (reversed : Bool) (x : ℕ) (v u : ℤ) (loops : List Loop) → AreBounded s loops → machine_step.next_value reversed (loop_of x loops) v ≡ Some u
    → IsChanged s x loops (turned x loops) ((loop_of x loops).low ∷ (loop_of x loops).high ∷ pos 0 ∷ [])
turned_changed s reversed x v u loops is next = record {
  here = turned_here reversed x v u loops next;
  others = λ y apart. turned_others x y loops apart;
  bounds = turned_bounds s x loops is;
}

-- ---- what holds of the loop of a parameter

pub bounds_of : (s : Typing) (x : ℕ) (loops : List Loop) (P : Loop → Type 0) → P no_loop → ((l : Loop) → l.parameter ≡ x → IsBounded s l → P l) → AreBounded s loops → P (loop_of x loops)
bounds_of s x [] P none each is = none
bounds_of s x (l ∷ rest) P none each is = by (l.parameter == x) refl (bounds_of s x rest P none each is.2)
  where
    by : (k : Bool) → (l.parameter == x) ≡ k → P (loop_of x rest) → P (if k then l else loop_of x rest)
    by true same on = each l (same_number l.parameter x same) is.0
    by false other on = on

-- The next value is that of the flat words.
pub next_same : (reversed : Bool) (l : Loop) (v : ℤ) → points.next_value reversed l.low l.high (truth l.first) v ≡ machine_step.next_value reversed l v
next_same reversed l v = by l.first
  where
    by : (first : Bool) → points.next_value reversed l.low l.high (truth first) v ≡ machine_step.next_value reversed (record l { first = first }) v
    by true = refl
    by false = refl
