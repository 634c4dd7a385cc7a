-- Formals that are checked before one is stored.
use Rattle.std.proofs.Common.{◌≡◌, ◌≢◌, ◌≤◌, ℕ, zero, suc, ◌+◌, ◌++◌, Bool, true, false, ◌&&◌, Option, None, Some, List, [], ◌∷◌, take, drop, length, length-append, nat_le, refl, sym, ap, subst, ◌∙◌, arith, ℤ, if◌then◌else◌}
use Rattle.std.proofs.lemmas.Bool.Decides.{nat_tests}
use Rattle.std.proofs.lemmas.List.{drop-drop}
use Rattle.std.proofs.lemmas.Slice.{drop-append-drop}
use Rattle.type_definitions.specs.Types.{Table}
use Rattle.run_values.specs.declared.value.Value.{Value}
use Rattle.run_values.specs.declared.value.Kind.{Kind}
use Rattle.slot_heap.specs.Heaps.{Heap, written, words_at}
use Rattle.run_codes.specs.Flat.{Got, Given, Stops, Broken, Stop, and_then, is_broken, constraint, kinds, have_kinds, spliced, Spot, InStack, InCell}
use Rattle.run_codes.specs.Points.{Return, fits}
use Rattle.handled_runs.specs.Fits.{are_slot_words}
use Rattle.handled_runs.specs.Slots.{Slots, front}
use Rattle.handled_runs.specs.Changes.{with_stack, with_heap, written_all, slot_values, cell_stored, stored}
use Rattle.handled_steps.specs.States.{given_up}
use Rattle.slot_returns.specs.Backs.{copied, fitting, IsBelow, Copying, Missing, on_copied, all_copied, StopsAt}
use Rattle.slot_returns.proofs.One.{stored_given, first_whole, copied_fits}

-- ---- a store

written_slots : (m : Heap) (h o : ℕ) (vs : List Value) → (written_all m h o vs).slots ≡ m.slots
written_slots m h o [] = refl
written_slots m h o (v ∷ vs) = written_slots (written m h o v) h (suc o) vs

-- A store below an index changes nothing from there on.
spliced_below : (n base : ℕ) (zs stack : List ℤ) → n + length zs ≤ base → n + length zs ≤ length stack → drop base (spliced n zs stack) ≡ drop base stack
spliced_below n base zs stack below within =
    drop-append-drop (n + length zs) stack (take n stack ++ zs) base below (count n zs stack within)
  where
    count : (n : ℕ) (zs stack : List ℤ) → n + length zs ≤ length stack → length (take n stack ++ zs) ≡ n + length zs
    count n zs stack within = length-append (take n stack) zs ∙ ap (λ k. k + length zs) (first n stack (omega (arith, within)))
      where
        first : (n : ℕ) (stack : List ℤ) → n ≤ length stack → length (take n stack) ≡ n
        first zero stack less = refl
        first (suc n) [] less = absurd (omega (arith, less))
        first (suc n) (x ∷ stack) less = ap suc (first n stack (omega (arith, less)))

-- What a frame that begins at an index has, and what a step that ends leaves, are as they were.
pub record IsBeside (base : ℕ) (s t : Slots) : Type 0 where
  pub same : t.base ≡ s.base
  pub own : drop base t.stack ≡ drop base s.stack
  pub left : (b : Slots) → given_up b t ≡ given_up b s

itself : (base : ℕ) (s : Slots) → IsBeside base s s
itself base s = record { same = refl; own = refl; left = λ b. refl }

both_beside : (base : ℕ) (s t u : Slots) → IsBeside base s t → IsBeside base t u → IsBeside base s u
both_beside base s t u first second = record {
  same = second.same ∙ first.same;
  own = second.own ∙ first.own;
  left = λ b. second.left b ∙ first.left b;
}

same_given : (s t : Slots) → Given s ≡ Given t → s ≡ t
same_given s t is = cc

never_given : (t : Slots) → ◌≡◌ {A = Got Slots} Broken (Given t) → ⊥
never_given t is = cc

is_within : (k n : ℕ) → nat_le k n ≡ true → k ≤ n
is_within k n is = grind (arith, nat_tests)

stored_beside : (base : ℕ) (s t : Slots) (q : Spot) (ks : List Kind) (zs : List ℤ) → IsBelow q (length zs) base → stored s q ks zs ≡ Given t → IsBeside base s t
stored_beside base s t (InStack n) ks zs below is = by (nat_le (n + length zs) (length s.stack)) refl is
  where
    by : (b : Bool) → nat_le (n + length zs) (length s.stack) ≡ b → (if b then Given (with_stack s (spliced n zs s.stack)) else Broken) ≡ Given t → IsBeside base s t
    by true within is =
        subst (IsBeside base s) (same_given (with_stack s (spliced n zs s.stack)) t is)
        (record { same = refl; own = spliced_below n base zs s.stack below (is_within (n + length zs) (length s.stack) within); left = λ b. refl })
    by false within is = absurd (never_given t is)
stored_beside base s t (InCell h o) ks zs below is = cell (words_at s.heap.cells h) is
  where
    after : Slots
    after = with_heap s (written_all s.heap h o (slot_values ks zs))

    beside : IsBeside base s after
    beside = record {
      same = refl;
      own = refl;
      left = λ b. ap (λ l. given_up b (with_heap s (record { cells = s.heap.cells; slots = l }))) (written_slots s.heap h o (slot_values ks zs));
    }

    by : (b : Bool) → (if b then Given after else Broken) ≡ Given t → IsBeside base s t
    by true is = subst (IsBeside base s) (same_given after t is) beside
    by false is = absurd (never_given t is)

    cell : (x : Option (List Value)) → cell_stored s h o ks zs x ≡ Given t → IsBeside base s t
    cell None is = absurd (never_given t is)
    cell (Some ws) is = by (are_slot_words ks zs && have_kinds ks (drop o ws)) is

-- ---- a formal

-- What the frame's formals hold is what they held.
fitting_beside : (table : Table) (r : Return) (s t : Slots) → IsBeside s.base s t → fitting table r t.base t.stack ≡ fitting table r s.base s.stack
fitting_beside table r s t beside =
    ap (λ b. fitting table r b t.stack) beside.same
    ∙ ap (λ zs. and_then (front (kinds table r.from) zs) (λ zs. if fits table r.of zs then Given zs else Stops constraint))
    (sym (drop-drop r.at s.base t.stack) ∙ ap (drop r.at) beside.own ∙ drop-drop r.at s.base s.stack)

-- The first formal is there.
pub first_there : (s : Slots) (got : Got Slots) (f : Slots → Copying) → on_copied s got f ≢ Missing → is_broken got ≡ false
first_there s (Given n) f whole = refl
first_there s (Stops x) f whole = refl
first_there s Broken f whole = absurd (whole refl)

-- ---- formals one after the other

-- The first ones would be stored, and the frame's words wouldn't change.
pub record Reaches (table : Table) (all left : List Return) (s : Slots) : Type 0 where
  pub after : Slots
  pub is : all_copied table all s ≡ all_copied table left after
  pub beside : IsBeside s.base s after

pub reaches_first : (table : Table) (all : List Return) (s : Slots) → Reaches table all all s
reaches_first table all s = record { after = s; is = refl; beside = itself s.base s }

module _ (table : Table) (all : List Return) (r : Return) (rest : List Return) (s : Slots) (whole : all_copied table all s ≢ Missing) (turn : Reaches table all (r ∷ rest) s) where
  abbrev next : Got (List ℤ) → Got Slots
  next got = and_then got (stored turn.after r.to (kinds table r.of))

  copied_next : (got : Got (List ℤ)) → fitting table r s.base s.stack ≡ got → copied table r turn.after ≡ next got
  copied_next got is = copied_fits table r turn.after ∙ ap next (fitting_beside table r s turn.after turn.beside ∙ is)

  copied_there : is_broken (copied table r turn.after) ≡ false
  copied_there = first_there turn.after (copied table r turn.after) (all_copied table rest) (λ missing. whole (turn.is ∙ missing))

  -- What it holds is there.
  pub reaches_whole : is_broken (fitting table r s.base s.stack) ≡ false
  reaches_whole =
      first_whole (fitting table r s.base s.stack) (stored turn.after r.to (kinds table r.of))
      (ap is_broken (sym (copied_next (fitting table r s.base s.stack) refl)) ∙ copied_there)

  -- It fits.
  pub reaches_next : (words : List ℤ) → fitting table r s.base s.stack ≡ Given words → IsBelow r.to (length words) s.base → Reaches table all rest s
  reaches_next words is below =
      let same = copied_next (Given words) is in
      let (t, gives) = stored_given turn.after r.to (kinds table r.of) words (ap is_broken (sym same) ∙ copied_there) in
      record {
        after = t;
        is = turn.is ∙ ap (λ x. on_copied turn.after x (all_copied table rest)) (same ∙ gives);
        beside = both_beside s.base s turn.after t turn.beside (stored_beside s.base turn.after t r.to (kinds table r.of) words below gives);
      }

  -- It doesn't.
  pub reaches_stop : (x : Stop) → fitting table r s.base s.stack ≡ Stops x → StopsAt (all_copied table all s) x s
  reaches_stop x is = record {
    after = turn.after;
    is = turn.is ∙ ap (λ y. on_copied turn.after y (all_copied table rest)) (copied_next (Stops x) is);
    left = turn.beside.left;
  }
