-- The ends of scopes.
use Rattle.std.proofs.Common.{◌≡◌, refl, sym, ap, ◌∙◌, subst, ℕ, ◌+◌, ◌≤◌, arith, Bool, true, false, nat_le, List, [], ◌++◌, length, ℤ, Result, Ok, Err, OnOk, OnErr, IsErrOf, if◌then◌else◌}
use Rattle.std.proofs.lemmas.Bool.Decides.{nat_tests}
use Rattle.spark_base.specs.declared.position.Pos.{Pos}
use Rattle.type_definitions.specs.Types.{Table}
use Rattle.machine.specs.States.{Leak}
use Rattle.slot_heap.specs.Heaps.{Heap}
use Rattle.run_codes.specs.Flat.{Got, Given, Broken, Spot, InStack, and_then, is_broken, default_words, spliced}
use Rattle.code_rows.specs.declared.stop.Stop.{Stop}
use Rattle.code_rows.specs.declared.stop.Stop.TheVariants as stop
use Rattle.code_rows.specs.Stops.{stop_of}
use Rattle.handled_runs.specs.Slots.{Slots}
use Rattle.handled_runs.specs.Changes.{with_stack, stored}
use Rattle.handled_runs.specs.Leaks.{leaks_at}
use Rattle.handled_runs.specs.Assigned.{Left}
use Rattle.handled_steps.specs.Steps.{in_stack, put_words}
use Rattle.slot_memory.specs.Memory.{Kept, Knows, Always, Changes, slots}
use Rattle.slot_words.proofs.Wholes.{first_whole, next_whole}
use Rattle.slot_places.specs.Steps.{Leavable, Leaving, ended_scope}
use Rattle.slot_words.proofs.Never.{given_of, leaks_never, stored_never}
use Rattle.slot_places.proofs.Assigning.{Found, Halted, found_is}

-- ---- words of the frame

pub spot_at : (q : Spot) (b at : ℕ) → q ≡ InStack (b + at + 0) → q ≡ InStack (b + at)
spot_at q b at e = e ∙ ap InStack (let same : b + at + 0 ≡ b + at = omega arith in same)

stored_room : (n : ℕ) (zs : List ℤ) (s : Slots) → is_broken (stored s (InStack n) [] zs) ≡ false → n ≤ length s.stack
stored_room n zs s is = by (nat_le (n + length zs) (length s.stack)) refl is
  where
    by : (b : Bool) → nat_le (n + length zs) (length s.stack) ≡ b → is_broken (if b then Given (with_stack s (spliced n zs s.stack)) else Broken) ≡ false → n ≤ length s.stack
    by true less is = grind (arith, nat_tests)
    by false less is = cc

module _ {R : Type 0} (Means : R → Heap → Type 0) where
  pub put_known : (m : Kept R) (q : Spot) (at : ℕ) (zs : List ℤ) → q ≡ InStack (m.base + at + 0) → Knows Means m (λ s. is_broken (put_words s at zs) ≡ false)
      → Knows Means m (λ s. is_broken (stored s q [] zs) ≡ false)
  put_known m q at zs e (g, (stands, whole)) =
      (g, (stands, subst (λ r. is_broken (stored (slots m g) r [] zs) ≡ false) (sym (spot_at q m.base at e)) whole))

  pub put_changes : (m n : Kept R) (q : Spot) (at : ℕ) (zs : List ℤ) → q ≡ InStack (m.base + at + 0) → Changes Means m (λ s. stored s q [] zs) n
      → Changes Means m (λ s. put_words s at zs) n
  put_changes m n q at zs e changes = λ g stands t is. changes g stands t (ap (λ r. stored (slots m g) r [] zs) (spot_at q m.base at e) ∙ is)

-- The words of an object without a value are at hand.
at_hand : (none zs us ds : List ℤ) → none ≡ [] → zs ≡ none ++ ds → us ≡ zs → us ≡ ds
at_hand none zs us ds empty pushed same = same ∙ (pushed ∙ ap (λ ws. ws ++ ds) empty)

module _ {R : Type 0} (Means : R → Heap → Type 0) (at : ℕ) (none zs us ds : List ℤ) where
  pub default_known : (m : Kept R) → none ≡ [] → zs ≡ none ++ ds → us ≡ zs → Knows Means m (λ s. is_broken (put_words s at ds) ≡ false)
      → Knows Means m (λ s. is_broken (put_words s at us) ≡ false)
  default_known m empty pushed same is = subst (λ ws. Knows Means m (λ s. is_broken (put_words s at ws) ≡ false)) (sym (at_hand none zs us ds empty pushed same)) is

  pub default_put : (m n : Kept R) → none ≡ [] → zs ≡ none ++ ds → us ≡ zs → Changes Means m (λ s. put_words s at us) n → Changes Means m (λ s. put_words s at ds) n
  default_put m n empty pushed same changes = subst (λ ws. Changes Means m (λ s. put_words s at ws) n) (at_hand none zs us ds empty pushed same) changes

-- ---- a scope

module _ {R : Type 0} (Means : R → Heap → Type 0) (table : Table) (at of : ℕ) (p : Pos) where
  abbrev left_at : Slots → List Leak → Got (Left Slots)
  left_at s leaks = and_then (put_words s at (default_words table of)) (λ t. Given (record { leaks = leaks; memory = t }))

  abbrev leaks_in_frame : Slots → Got (List Leak)
  leaks_in_frame s = leaks_at table s (in_stack s at) of p

  next : (s : Slots) → is_broken (ended_scope table at of p s) ≡ false → (leaks : List Leak) × (leaks_in_frame s ≡ Given leaks) × (is_broken (put_words s at (default_words table of)) ≡ false)
  next s whole =
      let l = given_of (leaks_in_frame s) (leaks_never table s (in_stack s at) of p) (first_whole (leaks_in_frame s) (left_at s) whole) in
      (l.0, l.1, first_whole (put_words s at (default_words table of)) (λ t. Given (record { leaks = l.0; memory = t })) (next_whole (leaks_in_frame s) (left_at s) l.0 (λ x. l.1) whole))

  pub scope_room : (m : Kept R) → Leavable Means m (ended_scope table at of p) → m.base + at ≤ length m.stack
  scope_room m is = stored_room (m.base + at) (default_words table of) (slots m is.ghosts) (next (slots m is.ghosts) is.whole).2

  pub scope_checks : (m : Kept R) → Leavable Means m (ended_scope table at of p) → Knows Means m (λ s. is_broken (leaks_at table s (InStack (m.base + at)) of p) ≡ false)
  scope_checks m is = (is.ghosts, (is.stands, first_whole (leaks_in_frame (slots m is.ghosts)) (left_at (slots m is.ghosts)) is.whole))

  pub scope_put : (m : Kept R) → Leavable Means m (ended_scope table at of p) → Knows Means m (λ s. is_broken (put_words s at (default_words table of)) ≡ false)
  scope_put m is = (is.ghosts, (is.stands, (next (slots m is.ghosts) is.whole).2))

  pub scope_stops : {V : Type 0} (m : Kept R) (x : Stop) (old new : List Leak)
      → Always Means m (λ s. is_broken (leaks_at table s (InStack (m.base + at)) of p) ≡ false → Halted (leaks_at table s (InStack (m.base + at)) of p) x)
      → Leaving {U = V} Means m (ended_scope table at of p) (Err x) old new m
  scope_stops m x old new finds = record {
    leaves = λ g stands whole no.
        absurd (leaks_never table (slots m g) (InStack (m.base + at)) of p (stop_of x) (finds g stands (first_whole (leaks_in_frame (slots m g)) (left_at (slots m g)) whole) no));
  }

  pub scope_leaves : {V : Type 0} (m n : Kept R) (r : Result V Stop) (old new : List Leak)
      → Always Means m (λ s. is_broken (leaks_at table s (InStack (m.base + at)) of p) ≡ false → Found (leaks_at table s (InStack (m.base + at)) of p) old new)
      → OnOk r (Changes Means m (λ s. put_words s at (default_words table of)) n) → OnErr r (IsErrOf r stop.Memory)
      → Leaving Means m (ended_scope table at of p) r old new n
  scope_leaves m n (Ok v) old new finds changes memory = record {
    leaves = λ g stands whole.
        let s : Slots = slots m g in
        let l = next s whole in
        let t = given_of (put_words s at (default_words table of)) (stored_never s (in_stack s at) [] (default_words table of)) l.2 in record {
          left = record { leaks = l.0; memory = t.0 };
          is = ap (λ (x : Got (List Leak)). and_then x (left_at s)) l.1 ∙ ap (λ (x : Got Slots). and_then x (λ t. Given (record { leaks = l.0; memory = t }))) t.1;
          appended = found_is (leaks_in_frame s) l.0 old new l.1 (finds g stands (first_whole (leaks_in_frame s) (left_at s) whole));
          shows = changes g stands t.0 t.1;
        };
  }
  scope_leaves m n (Err x) old new finds changes memory = record { leaves = λ g stands whole no. absurd (no (let same : x ≡ stop.Memory = cc in same)) }
