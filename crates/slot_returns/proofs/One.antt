-- What is copied back to one place.
use Rattle.std.proofs.Common.{◌≡◌, ◌≢◌, ℕ, ◌+◌, ◌++◌, Bool, true, false, ◌&&◌, Option, None, Some, List, [], Ok, Err, Result, drop, length, nat_le, refl, sym, ap, subst, ◌∙◌, ℤ, if◌then◌else◌}
use Rattle.std.specs.Prelude.{OnOk, OnErr, IsErrOf}
use Rattle.type_definitions.specs.Types.{Table}
use Rattle.run_values.specs.declared.value.Value.{Value}
use Rattle.run_values.specs.declared.value.Kind.{Kind}
use Rattle.slot_heap.specs.Heaps.{Heap, words_at}
use Rattle.run_codes.specs.Flat.{Got, Given, Stops, Broken, and_then, is_broken, constraint, kinds, have_kinds, spliced, Spot, InStack, InCell}
use Rattle.run_codes.specs.Points.{Return, fits}
use Rattle.code_rows.specs.declared.stop.Stop.{Stop}
use Rattle.code_rows.specs.declared.stop.Stop.TheVariants as stop
use Rattle.code_rows.specs.Stops.{stop_of}
use Rattle.handled_runs.specs.Fits.{are_slot_words}
use Rattle.handled_runs.specs.Slots.{Slots, front, held}
use Rattle.handled_runs.specs.Changes.{with_stack, with_heap, written_all, slot_values, cell_stored, stored}
use Rattle.handled_steps.specs.Steps.{in_stack}
use Rattle.slot_memory.specs.Memory.{Kept, Ghosts, Knows, Always, Changes, slots}
use Rattle.slot_memory.specs.Answers.{Appends}
use Rattle.slot_memory.proofs.OfKinds.{never, tested}
use Rattle.slot_returns.specs.Backs.{copied, fitting, IsStopped, Copies}

-- ---- what is stored is given where it isn't broken

stored_in : (s : Slots) (h o : ℕ) (ks : List Kind) (zs : List ℤ) (x : Option (List Value)) → is_broken (cell_stored s h o ks zs x) ≡ false → (t : Slots) × (cell_stored s h o ks zs x ≡ Given t)
stored_in s h o ks zs None is = absurd (never is)
stored_in s h o ks zs (Some ws) is =
    let u : Slots = with_heap s (written_all s.heap h o (slot_values ks zs)) in
    (u, (tested (are_slot_words ks zs && have_kinds ks (drop o ws)) (Given u) is).2)

pub stored_given : (s : Slots) (q : Spot) (ks : List Kind) (zs : List ℤ) → is_broken (stored s q ks zs) ≡ false → (t : Slots) × (stored s q ks zs ≡ Given t)
stored_given s (InStack n) ks zs is =
    let u : Slots = with_stack s (spliced n zs s.stack) in
    (u, (tested (nat_le (n + length zs) (length s.stack)) (Given u) is).2)
stored_given s (InCell h o) ks zs is = stored_in s h o ks zs (words_at s.heap.cells h) is

-- ---- what is held, if it fits

pub first_whole : {A B : Type 0} (x : Got A) (f : A → Got B) → is_broken (and_then x f) ≡ false → is_broken x ≡ false
first_whole (Given a) f is = refl
first_whole (Stops s) f is = refl
first_whole Broken f is = is

error_is : {U : Type 0} (s e : Stop) → ◌≡◌ {A = Result U Stop} (Err s) (Err e) → s ≡ e
error_is s e is = cc

given_words : (x : Got (List ℤ)) (old new : List ℤ) → old ≡ [] → and_then x (λ zs. Given (old ++ zs)) ≡ Given new → x ≡ Given new
given_words x old new none is = by x new (subst (λ l. and_then x (λ zs. Given (l ++ zs)) ≡ Given new) none is)
  where
    by : (x : Got (List ℤ)) (new : List ℤ) → and_then x (λ zs. Given ([] ++ zs)) ≡ Given new → x ≡ Given new
    by (Given zs) new is = is
    by (Stops y) new is = cc
    by Broken new is = cc

-- The test comes first, and then the store.
then_stored : (x : Got (List ℤ)) (b : List ℤ → Bool) (store : List ℤ → Got Slots)
    → and_then x (λ zs. if b zs then store zs else Stops constraint) ≡ and_then (and_then x (λ zs. if b zs then Given zs else Stops constraint)) store
then_stored (Given zs) b store = by (b zs)
  where
    by : (c : Bool) → (if c then store zs else Stops constraint) ≡ and_then (if c then Given zs else Stops constraint) store
    by true = refl
    by false = refl
then_stored (Stops s) b store = refl
then_stored Broken b store = refl

pub copied_fits : (table : Table) (r : Return) (s : Slots) → copied table r s ≡ and_then (fitting table r s.base s.stack) (stored s r.to (kinds table r.of))
copied_fits table r s = then_stored (held s (in_stack s r.at) (kinds table r.from)) (fits table r.of) (stored s r.to (kinds table r.of))

-- ---- what is at hand

test_of : Table → Return → List ℤ → Got (List ℤ)
test_of table r zs = if fits table r.of zs then Given zs else Stops constraint

module _ {R : Type 0} (Means : R → Heap → Type 0) (m : Kept R) (table : Table) (r : Return) (q : Spot) (at : q ≡ InStack (m.base + r.at))
    (known : Knows Means m (λ s. is_broken (fitting table r s.base s.stack) ≡ false)) where
  abbrev ks : List Kind
  ks = kinds table r.from

  abbrev own : Got (List ℤ)
  own = front ks (drop (m.base + r.at) m.stack)

  held_at : (g : Ghosts) → held (slots m g) q ks ≡ own
  held_at g = ap (λ p. held (slots m g) p ks) at

  held_whole : is_broken (held (slots m known.0) q ks) ≡ false
  unfolding test_of
  held_whole = ap is_broken (held_at known.0) ∙ first_whole own (test_of table r) known.1.1

  pub one_held : Knows Means m (λ s. is_broken (held s q ks) ≡ false)
  one_held = (known.0, (known.1.0, held_whole))

  -- The words that are held are at hand.
  module _ {U : Type 0} (u : U) (old hand : List ℤ) (none : old ≡ [])
      (read : Always Means m (λ s. is_broken (held s q ks) ≡ false → Appends {U = U} (held s q ks) (Ok u) old hand)) where
    own_is : own ≡ Given hand
    own_is =
        sym (held_at known.0)
        ∙ given_words (held (slots m known.0) q ks) old hand none (read known.0 known.1.0 held_whole)

    test_is : fitting table r m.base m.stack ≡ test_of table r hand
    unfolding test_of
    test_is = ap (λ x. and_then x (test_of table r)) own_is

    pub one_fits : fits table r.of hand ≡ true → fitting table r m.base m.stack ≡ Given hand
    unfolding test_of
    one_fits fit = test_is ∙ ap (λ (b : Bool). if b then Given hand else Stops constraint) fit

    pub one_misfits : fits table r.of hand ≡ false → fitting table r m.base m.stack ≡ Stops constraint
    unfolding test_of
    one_misfits misfit = test_is ∙ ap (λ (b : Bool). if b then Given hand else Stops constraint) misfit

  -- They can't be read.
  pub one_stops : (x : Stop) → Always Means m (λ s. is_broken (held s q ks) ≡ false → x ≢ stop.Memory → held s q ks ≡ Stops (stop_of x))
      → x ≢ stop.Memory → fitting table r m.base m.stack ≡ Stops (stop_of x)
  unfolding test_of
  one_stops x read other =
      ap (λ y. and_then y (test_of table r)) (sym (held_at known.0) ∙ read known.0 known.1.0 held_whole other)

-- ---- what is stored

module _ {R : Type 0} (Means : R → Heap → Type 0) (m : Kept R) (table : Table) (r : Return) where
  pub one_known : Knows Means m (λ s. is_broken (copied table r s) ≡ false) → Knows Means m (λ s. is_broken (fitting table r s.base s.stack) ≡ false)
  one_known known = (
    known.0,
    (
      known.1.0,
      first_whole (fitting table r m.base m.stack) (stored (slots m known.0) r.to (kinds table r.of))
          (ap is_broken (sym (copied_fits table r (slots m known.0))) ∙ known.1.1),
    ),
  )

  copied_as : (got : Got (List ℤ)) → fitting table r m.base m.stack ≡ got → (g : Ghosts) → copied table r (slots m g) ≡ and_then got (stored (slots m g) r.to (kinds table r.of))
  copied_as got is g = copied_fits table r (slots m g) ∙ ap (λ x. and_then x (stored (slots m g) r.to (kinds table r.of))) is

  pub one_there : (hand : List ℤ) → fitting table r m.base m.stack ≡ Given hand → Knows Means m (λ s. is_broken (copied table r s) ≡ false)
      → Knows Means m (λ s. is_broken (stored s r.to (kinds table r.of) hand) ≡ false)
  one_there hand is known = (known.0, (known.1.0, ap is_broken (sym (copied_as (Given hand) is known.0)) ∙ known.1.1))

  pub one_stopped : (x : Stop) → (x ≢ stop.Memory → fitting table r m.base m.stack ≡ Stops (stop_of x)) → x ≢ stop.Memory → IsStopped Means m (copied table r) x m
  one_stopped x takes = λ other. record { stops = λ g stands is. copied_as (Stops (stop_of x)) (takes other) g; same = refl }

  pub one_copied : {V : Type 0} (hand : List ℤ) (result : Result V Stop) (n : Kept R) → fitting table r m.base m.stack ≡ Given hand
      → OnOk result (Changes Means m (λ s. stored s r.to (kinds table r.of) hand) n) → OnErr result (IsErrOf result stop.Memory) → Copies Means m (copied table r) result n
  one_copied hand (Ok v) n is changed memory = record {
    stored = λ g stands whole.
        let same = copied_as (Given hand) is g in
        let t = stored_given (slots m g) r.to (kinds table r.of) hand (ap is_broken (sym same) ∙ whole) in
        record { after = t.0; is = same ∙ t.1; shows = changed g stands t.0 t.1 };
  }
  one_copied hand (Err e) n is changed memory = λ other. absurd (other (error_is e stop.Memory memory))
