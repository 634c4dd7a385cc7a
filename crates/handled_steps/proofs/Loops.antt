-- Points of `for` loops, over both heaps.
use Rattle.std.proofs.Common.{◌≡◌, refl, sym, ap, ◌∙◌, subst, ℕ, zero, suc, ◌+◌, arith, Bool, true, false, not, ◌&&◌, nat_le, List, [], ◌∷◌, ◌++◌, drop, length, slice_get, Option, Some, None, ℤ, pos, if◌then◌else◌}
use Rattle.std.specs.Prelude.{int_le}
use Rattle.handled_runs.specs.run_values.declared.value.Kind.{Kind}
use Rattle.handled_runs.specs.run_values.declared.value.Kind.TheVariants as sort
use Rattle.handled_runs.specs.run_codes.Codes.{Code}
use Rattle.handled_runs.specs.run_codes.Flat.{Flat, Got, Given, Stops, Broken, and_then, found, constraint, is_between, spliced, InStack}
use Rattle.handled_runs.specs.run_codes.Flat as flat
use Rattle.handled_runs.specs.run_codes.Points.{next_value}
use Rattle.handled_runs.specs.run_codes.Points as points
use Rattle.handled_runs.specs.Slots.{Slots}
use Rattle.handled_runs.specs.Slots as slots
use Rattle.handled_runs.specs.Beside.{GotsAlike, Beside}
use Rattle.handled_runs.specs.Looks.{IsFront}
use Rattle.handled_runs.proofs.Names.{named_data}
use Rattle.handled_steps.specs.States.{Outcome, Turn, start, halted, on_got, goes}
use Rattle.handled_steps.specs.Steps.{put_words, looped, loop_started, start_loop, stack_word, turning, next_turn}
use Rattle.handled_steps.specs.Alike.{OutcomesAlike, led_kinds, got_kinds, turn_next}
use Rattle.handled_steps.specs.Alike as alike
use Rattle.handled_steps.specs.Looks.{LooksData, HasData, HasLoop, taken_kinds}
use Rattle.handled_steps.proofs.Turns.{Both, flat_turn, slot_turn, start_more, got_on, goes_alike, halted_alike}
use Rattle.handled_steps.proofs.Gots.{put_gots, stack_data}
use Rattle.handled_runs.proofs.Gots.{gots_then}
use Rattle.handled_runs.proofs.Words.{data_renamed}
use Rattle.handled_steps.proofs.Choices.{word_on}
use Rattle.handled_steps.proofs.Scopes.{front_one}

-- ---- bases

-- A store in the stack leaves the base.
put_base : (m : Flat) (at : ℕ) (zs : List ℤ) (n : Flat) → points.put_words m at zs ≡ Given n → n.base ≡ m.base
put_base m at zs n e = by (nat_le (m.base + at + length zs) (length m.stack)) e
  where
    by : (b : Bool) → (if b then Given (flat.with_stack m (spliced (m.base + at) zs m.stack)) else Broken) ≡ Given n → n.base ≡ m.base
    by true f = let same : flat.with_stack m (spliced (m.base + at) zs m.stack) ≡ n = cc in sym (ap (λ (x : Flat). x.base) same)
    by false f = cc

-- ---- the kinds of a loop

front_at : (ks js : List Kind) (n i : ℕ) (k : Kind) → IsFront ks (drop n js) → slice_get ks i ≡ Some k → slice_get js (n + i) ≡ Some k
front_at [] js n i k is e = cc
front_at (q ∷ ks) [] zero i k is e = absurd is
front_at (q ∷ ks) (j ∷ js) zero zero k is e = ap Some (sym is.0) ∙ e
front_at (q ∷ ks) (j ∷ js) zero (suc i) k is e = let next : 0 + suc i ≡ suc (0 + i) = omega arith in ap (slice_get (j ∷ js)) next ∙ front_at ks js 0 i k is.1 e
front_at (q ∷ ks) [] (suc n) i k is e = absurd is
front_at (q ∷ ks) (j ∷ js) (suc n) i k is e = let next : suc n + i ≡ suc (n + i) = omega arith in ap (slice_get (j ∷ js)) next ∙ front_at (q ∷ ks) js n i k is e

loop_data : (here : List Kind) (base counter i : ℕ) → slice_get (sort.Int ∷ sort.Int ∷ sort.Int ∷ []) i ≡ Some sort.Int → HasLoop here (base + counter) → HasData here (base + (counter + i))
loop_data here base counter i e is =
    let same : base + counter + i ≡ base + (counter + i) = omega arith in
    (sort.Int, tt, ap (slice_get here) (sym same) ∙ front_at (sort.Int ∷ sort.Int ∷ sort.Int ∷ []) here (base + counter) i sort.Int is e)

module _ (handles : List ℕ) (here : List Kind) (z : Both handles here) where
  abbrev t : points.Turn
  t = flat_turn handles here z

  abbrev u : Turn
  u = slot_turn handles here z

  abbrev takes : List Kind
  takes = taken_kinds t

  abbrev m : Flat
  m = points.start t

  abbrev s : Slots
  s = start u

  abbrev hs : List ℕ
  hs = handles ++ []

  abbrev Same : List Kind → points.Outcome → Outcome → Type 0
  Same = OutcomesAlike z.table handles

  beside : Beside hs here takes m s
  beside = start_more handles here z

  abbrev flat_looped : ℕ → ℕ → ℤ → List ℤ → Option ℕ → points.Outcome
  flat_looped at counter v loop n = points.on_got t m (and_then (points.put_words m at (v ∷ [])) (λ k. points.put_words k counter loop)) (λ k. points.goes t k n)

  both_put : (at counter : ℕ) (v a b c : ℤ) → HasData here (z.f.base + at) → HasLoop here (z.f.base + counter)
      → GotsAlike (Beside hs here takes) (and_then (points.put_words m at (v ∷ [])) (λ k. points.put_words k counter (a ∷ b ∷ c ∷ [])))
      (and_then (put_words s at (v ∷ [])) (λ k. put_words k counter (a ∷ b ∷ c ∷ [])))
  both_put at counter v a b c (k, data_kind, is) loop =
      gots_then (Beside hs here takes) (Beside hs here takes) (points.put_words m at (v ∷ [])) (put_words s at (v ∷ []))
      (λ i. points.put_words i counter (a ∷ b ∷ c ∷ [])) (λ i. put_words i counter (a ∷ b ∷ c ∷ []))
      (subst (λ w. GotsAlike (Beside hs here takes) (points.put_words m at (v ∷ [])) (put_words s at (w ∷ []))) (data_renamed hs k v data_kind)
      (put_gots hs here takes m s beside at (k ∷ []) (v ∷ []) (front_one here (z.f.base + at) k is) refl (named_data (length hs) k v data_kind, tt)))
      (λ i j given both.
      put_gots hs here takes i j both counter (sort.Int ∷ sort.Int ∷ sort.Int ∷ []) (a ∷ b ∷ c ∷ [])
      (subst (λ base. IsFront (sort.Int ∷ sort.Int ∷ sort.Int ∷ []) (drop (base + counter) here)) (sym (put_base m at (v ∷ []) i given)) loop) refl (tt, (tt, (tt, tt))))

  looped_alike : (at counter : ℕ) (v a b c : ℤ) (n : Option ℕ) → HasData here (z.f.base + at) → HasLoop here (z.f.base + counter)
      → Same (led_kinds t here n) (flat_looped at counter v (a ∷ b ∷ c ∷ []) n) (looped u at counter v (a ∷ b ∷ c ∷ []) n)
  looped_alike at counter v a b c n one loop =
      got_on handles here z [] here takes m s beside (Beside hs here takes) (led_kinds t here n)
      (and_then (points.put_words m at (v ∷ [])) (λ k. points.put_words k counter (a ∷ b ∷ c ∷ []))) (and_then (put_words s at (v ∷ [])) (λ k. put_words k counter (a ∷ b ∷ c ∷ [])))
      (λ k. points.goes t k n) (λ k. goes u k n) (both_put at counter v a b c one loop)
      (λ i j given both. goes_alike handles here z [] takes i j both n)

  -- ---- a loop begins

  abbrev flat_started : ℕ → ℕ → ℤ → ℤ → Option ℕ → ℤ → ℤ → points.Outcome
  flat_started at counter first last n a b =
      if int_le a b && not (is_between first last a && is_between first last b) then points.halted t constraint m
      else flat_looped at counter a (a ∷ b ∷ pos 1 ∷ []) n

  started_alike : (at counter : ℕ) (first last a b : ℤ) (n : Option ℕ) → HasData here (z.f.base + at) → HasLoop here (z.f.base + counter)
      → Same (led_kinds t here n) (flat_started at counter first last n a b) (loop_started u at counter first last n a b)
  started_alike at counter first last a b n one loop = by (int_le a b && not (is_between first last a && is_between first last b))
    where
      by : (c : Bool)
          → Same (led_kinds t here n) (if c then points.halted t constraint m else flat_looped at counter a (a ∷ b ∷ pos 1 ∷ []) n) (if c then halted u constraint s else looped u at counter a (a ∷ b ∷ pos 1 ∷ []) n)
      by true = halted_alike handles here z [] here takes m s beside (led_kinds t here n) constraint
      by false = looped_alike at counter a a b (pos 1) n one loop

  pub start_alike : (at counter : ℕ) (low high : Code) (first last : ℤ) (n : Option ℕ) → LooksData m here takes low → LooksData m here takes high → HasData here (z.f.base + at) → HasLoop here (z.f.base + counter)
      → Same (led_kinds t here n) (points.start_loop t at counter low high first last n) (start_loop u at counter low high first last n)
  start_alike at counter low high first last n looks_low looks_high one loop =
      word_on handles here z (led_kinds t here n) low
      (λ a. points.on_got t m (flat.word m high) (λ b. flat_started at counter first last n a b)) (λ a. on_got u s (slots.word s high) (λ b. loop_started u at counter first last n a b)) looks_low
      (λ a found_low.
      word_on handles here z (led_kinds t here n) high (λ b. flat_started at counter first last n a b) (λ b. loop_started u at counter first last n a b) looks_high
      (λ b found_high. started_alike at counter first last a b n one loop))

  -- ---- the next turn

  abbrev flat_turning : ℕ → ℕ → ℤ → Option ℕ → Option ℕ → ℤ → ℤ → Option ℤ → points.Outcome
  flat_turning at counter default turn leave low high (Some v) = flat_looped at counter v (low ∷ high ∷ pos 0 ∷ []) turn
  flat_turning at counter default turn leave low high None = flat_looped at counter default (pos 1 ∷ pos 0 ∷ pos 1 ∷ []) leave

  turning_alike : (at counter : ℕ) (default low high : ℤ) (turn leave : Option ℕ) (x : Option ℤ) → HasData here (z.f.base + at) → HasLoop here (z.f.base + counter)
      → Same (led_kinds t here (turn_next turn leave x)) (flat_turning at counter default turn leave low high x) (turning u at counter default turn leave low high x)
  turning_alike at counter default low high turn leave (Some v) one loop = looped_alike at counter v low high (pos 0) turn one loop
  turning_alike at counter default low high turn leave None one loop = looped_alike at counter default (pos 1) (pos 0) (pos 1) leave one loop

  word_same : (o : ℕ) → HasData here (z.f.base + o) → stack_word u o ≡ alike.stack_word t o
  word_same o is =
      ap (λ base. found (slice_get s.stack (base + o))) z.frame.base ∙ stack_data hs here takes m s beside (z.f.base + o) is

  module _ (at counter : ℕ) (reversed : Bool) (default : ℤ) (turn leave : Option ℕ) (one : HasData here (z.f.base + at)) (loop : HasLoop here (z.f.base + counter)) where
    abbrev kinds_then : Got ℤ → Got ℤ → Got ℤ → Got ℤ → List Kind
    kinds_then x y p q =
        got_kinds t here (and_then x (λ v. and_then y (λ low. and_then p (λ high. and_then q (λ first. Given (turn_next turn leave (next_value reversed low high first v)))))))

    abbrev flat_then : Got ℤ → Got ℤ → Got ℤ → Got ℤ → points.Outcome
    flat_then x y p q =
        points.on_got t m x (λ v. points.on_got t m y (λ low. points.on_got t m p (λ high. points.on_got t m q (λ first. flat_turning at counter default turn leave low high (next_value reversed low high first v)))))

    abbrev slots_then : Got ℤ → Got ℤ → Got ℤ → Got ℤ → Outcome
    slots_then x y p q =
        on_got u s x (λ v. on_got u s y (λ low. on_got u s p (λ high. on_got u s q (λ first. turning u at counter default turn leave low high (next_value reversed low high first v)))))

    stop : (x : flat.Stop) → Same here (points.halted t x m) (halted u x s)
    stop x = halted_alike handles here z [] here takes m s beside here x

    all_then : (x y p q : Got ℤ) → Same (kinds_then x y p q) (flat_then x y p q) (slots_then x y p q)
    all_then (Given v) (Given low) (Given high) (Given first) = turning_alike at counter default low high turn leave (next_value reversed low high first v) one loop
    all_then (Given v) (Given low) (Given high) (Stops x) = stop x
    all_then (Given v) (Given low) (Given high) Broken = tt
    all_then (Given v) (Given low) (Stops x) q = stop x
    all_then (Given v) (Given low) Broken q = tt
    all_then (Given v) (Stops x) p q = stop x
    all_then (Given v) Broken p q = tt
    all_then (Stops x) y p q = stop x
    all_then Broken y p q = tt

    pub next_alike : Same (kinds_then (alike.stack_word t at) (alike.stack_word t counter) (alike.stack_word t (counter + 1)) (alike.stack_word t (counter + 2)))
        (points.next_turn t at counter reversed default turn leave) (next_turn u at counter reversed default turn leave)
    next_alike =
        let none : z.f.base + (counter + 0) ≡ z.f.base + counter = omega arith in
        let x : Got ℤ = alike.stack_word t at in
        let y : Got ℤ = alike.stack_word t counter in
        let p : Got ℤ = alike.stack_word t (counter + 1) in
        let q : Got ℤ = alike.stack_word t (counter + 2) in
        let first = word_same at one in
        let second = word_same counter (subst (HasData here) none (loop_data here z.f.base counter 0 refl loop)) in
        let third = word_same (counter + 1) (loop_data here z.f.base counter 1 refl loop) in
        let fourth = word_same (counter + 2) (loop_data here z.f.base counter 2 refl loop) in
        let same : slots_then (stack_word u at) (stack_word u counter) (stack_word u (counter + 1)) (stack_word u (counter + 2)) ≡ slots_then x y p q
        = ap (λ g. slots_then g (stack_word u counter) (stack_word u (counter + 1)) (stack_word u (counter + 2))) first
        ∙ (ap (λ g. slots_then x g (stack_word u (counter + 1)) (stack_word u (counter + 2))) second
        ∙ (ap (λ g. slots_then x y g (stack_word u (counter + 2))) third ∙ ap (slots_then x y p) fourth)) in
        subst (Same (kinds_then x y p q) (flat_then x y p q)) (sym same) (all_then x y p q)
