-- Points that may have leak checks: what they ask for, and what they come to.
use Rattle.std.proofs.Common.{◌≡◌, ◌⊎◌, inl, inr, refl, sym, ap, ◌∙◌, subst, ℕ, false, List, [], ◌++◌, Option, ℤ, Result, Ok, Err}
use Rattle.spark_base.specs.declared.position.Pos.{Pos}
use Rattle.type_definitions.specs.Types.{Table}
use Rattle.machine.specs.States.{Leak}
use Rattle.slot_heap.specs.Heaps.{Heap}
use Rattle.run_codes.specs.Codes as codes
use Rattle.run_codes.specs.Flat.{Got, Given, Stops, Broken, is_broken}
use Rattle.code_rows.specs.declared.stop.Stop.{Stop}
use Rattle.code_rows.specs.declared.stop.Stop.TheVariants as stop
use Rattle.code_rows.specs.Stops.{stop_of}
use Rattle.code_rows.specs.declared.place.Place.{Place}
use Rattle.code_rows.specs.declared.rows.Rows.{Rows}
use Rattle.code_rows.specs.declared.point.Does.TheVariants as does
use Rattle.code_rows.specs.Rows.{code_at, place_of}
use Rattle.code_rows.specs.Values.{fill_at}
use Rattle.handled_runs.specs.Slots.{Slots}
use Rattle.handled_runs.specs.Leaks.{leak}
use Rattle.handled_runs.specs.Values as values
use Rattle.handled_runs.specs.Values.{Fills}
use Rattle.handled_runs.specs.Assigned.{Left, assigned}
use Rattle.handled_runs.specs.Released.{released}
use Rattle.slot_memory.specs.Memory.{Kept, Shows, Always, slots, ghosts_of}
use Rattle.slot_points.specs.Changing.{Whole, With, IsDone, Done}
use Rattle.slot_points.specs.Steps.{ended_pointer}
use Rattle.slot_places.specs.Steps.{IsLeft, IsAssigned, IsRefused, Leavable, Leaving, Assignable, Assigning, ended_scope}
use Rattle.slot_goings.specs.Changes.{Change, Leads, Halts, Fails, left, pointer_left, ValuesChange, CanChange, Changing}
use Rattle.slot_goings.proofs.Moves.{pointer_numbers}

left_whole : (n : ℕ) (s : Slots) (got : Got (Left Slots)) → (Fails ≡ left n s got → ⊥) → is_broken got ≡ false
left_whole n s (Given l) safe = refl
left_whole n s (Stops x) safe = refl
left_whole n s Broken safe = absurd (safe refl)

pointer_whole : (pos : Pos) (n : ℕ) (s : Slots) (got : Got (With ℤ)) → (Fails ≡ pointer_left pos n s got → ⊥) → is_broken got ≡ false
pointer_whole pos n s (Given x) safe = refl
pointer_whole pos n s (Stops x) safe = refl
pointer_whole pos n s Broken safe = absurd (safe refl)

err_is : {U : Type 0} (x : Stop) → ◌≡◌ {A = Result U Stop} (Err x) (Err stop.Memory) → x ≡ stop.Memory
err_is x is = cc

module _ {R : Type 0} (Means : R → Heap → Type 0) (m : Kept R) where
  leads : (n : ℕ) (s t : Slots) (got : Got (Left Slots)) (old new : List Leak) (now : Kept R) → old ≡ [] → (l : IsLeft Means got old new now) → Leads l.left.memory n new ≡ left n s got
  leads n s t got old new now none l =
      ap (λ ls. Leads l.left.memory n ls) (l.appended ∙ ap (λ ls. ls ++ l.left.leaks) none) ∙ sym (ap (left n s) l.is)

  -- There is too little memory.
  pub no_change : (Comes : Slots → Change → Type 0) (new : List Leak) (now : Kept R) → Changing Means m Comes (Err stop.Memory) new now
  no_change Comes new now = record { changes = λ g stands safe other. absurd (other refl) }

  -- ---- a memory with leak checks

  module _ (f : Slots → Got (Left Slots)) (n : ℕ) where
    can_leave : CanChange Means m (λ s r. r ≡ left n s (f s)) → Leavable Means m f
    can_leave is = record { ghosts = is.ghosts; stands = is.stands; whole = left_whole n (slots m is.ghosts) (f (slots m is.ghosts)) is.whole }

    leave_goes : {U : Type 0} (u : U) (old new : List Leak) (now : Kept R) → old ≡ [] → Leaving Means m f (Ok u) old new now
        → Changing Means m (λ s r. r ≡ left n s (f s)) (Ok n) new now
    leave_goes u old new now none is = record {
      changes = λ g stands safe.
          let s : Slots = slots m g in
          let l : IsLeft Means (f s) old new now = is.leaves g stands (left_whole n s (f s) safe) in
          record { after = l.left.memory; comes = leads n s s (f s) old new now none l; shows = l.shows };
    }

    leave_stops : {U : Type 0} (x : Stop) (old new : List Leak) (now : Kept R) → Leaving {U = U} Means m f (Err x) old new now
        → Changing Means m (λ s r. r ≡ left n s (f s)) (Err x) new now
    leave_stops x old new now is = record {
      changes = λ g stands safe other.
          let s : Slots = slots m g in
          let d = is.leaves g stands (left_whole n s (f s) safe) other in
          let P : Kept R → Type 0 = λ k. Shows Means k s in
          record { after = s; comes = sym (ap (left n s) d.stops); shows = subst P (sym d.same) (stands, refl) };
    }

  module _ (table : Table) (rows : Rows) (pos : Pos) where
    -- ---- releases, and the ends of scopes

    pub release_can : (p : Place) (of : ℕ) (at : Pos) (n : ℕ) → CanChange Means m (ValuesChange table rows pos (does.Release p of at n))
        → Leavable Means m (released table (place_of (code_at rows.nodes) p) of at)
    release_can p of at n is = can_leave (released table (place_of (code_at rows.nodes) p) of at) n is

    pub release_goes : {U : Type 0} (p : Place) (of : ℕ) (at : Pos) (n : ℕ) (u : U) (old new : List Leak) (now : Kept R) → old ≡ []
        → Leaving Means m (released table (place_of (code_at rows.nodes) p) of at) (Ok u) old new now
        → Changing Means m (ValuesChange table rows pos (does.Release p of at n)) (Ok n) new now
    release_goes p of at n u old new now none is = leave_goes (released table (place_of (code_at rows.nodes) p) of at) n u old new now none is

    pub release_stops : {U : Type 0} (p : Place) (of : ℕ) (at : Pos) (n : ℕ) (x : Stop) (old new : List Leak) (now : Kept R)
        → Leaving {U = U} Means m (released table (place_of (code_at rows.nodes) p) of at) (Err x) old new now
        → Changing Means m (ValuesChange table rows pos (does.Release p of at n)) (Err x) new now
    release_stops p of at n x old new now is = leave_stops (released table (place_of (code_at rows.nodes) p) of at) n x old new now is

    pub scope_can : (at of n : ℕ) → CanChange Means m (ValuesChange table rows pos (does.EndScope at of n)) → Leavable Means m (ended_scope table at of pos)
    scope_can at of n is = can_leave (ended_scope table at of pos) n is

    pub scope_goes : {U : Type 0} (at of n : ℕ) (u : U) (old new : List Leak) (now : Kept R) → old ≡ [] → Leaving Means m (ended_scope table at of pos) (Ok u) old new now
        → Changing Means m (ValuesChange table rows pos (does.EndScope at of n)) (Ok n) new now
    scope_goes at of n u old new now none is = leave_goes (ended_scope table at of pos) n u old new now none is

    pub scope_stops : {U : Type 0} (at of n : ℕ) (x : Stop) (old new : List Leak) (now : Kept R) → Leaving {U = U} Means m (ended_scope table at of pos) (Err x) old new now
        → Changing Means m (ValuesChange table rows pos (does.EndScope at of n)) (Err x) new now
    scope_stops at of n x old new now is = leave_stops (ended_scope table at of pos) n x old new now is

    -- ---- the end of the scope of an access value

    pub pointer_can : (at n : ℕ) → CanChange Means m (ValuesChange table rows pos (does.EndPointer at n)) → Whole Means m (ended_pointer at)
    pointer_can at n is = record {
      ghosts = is.ghosts;
      stands = is.stands;
      whole = pointer_whole pos n (slots m is.ghosts) (ended_pointer at (slots m is.ghosts)) is.whole;
    }

    pub pointer_goes : (at n : ℕ) (w : ℤ) (old new : List Leak) (now : Kept R) → old ≡ [] → Done Means m (ended_pointer at) (Ok w) now
        → Always Means now (λ s. new ≡ old ++ leak s.numbers pos w) → Changing Means m (ValuesChange table rows pos (does.EndPointer at n)) (Ok n) new now
    pointer_goes at n w old new now none is found = record {
      changes = λ g stands safe.
          let s : Slots = slots m g in
          let d : IsDone Means (ended_pointer at s) w now = is.done g stands (pointer_whole pos n s (ended_pointer at s) safe) in
          let numbers : d.after.numbers ≡ s.numbers = pointer_numbers s at (record { memory = d.after; answer = w }) d.is in
          let told : new ≡ leak s.numbers pos w =
          found (ghosts_of d.after) d.shows.0 ∙ ap (λ ls. ls ++ leak d.after.numbers pos w) none ∙ ap (λ ns. leak ns pos w) numbers in
          record {
            after = d.after;
            comes = ap (λ ls. Leads d.after n ls) told ∙ sym (ap (pointer_left pos n s) d.is);
            shows = d.shows;
          };
    }

    -- There is too little memory for the leak.
    pub pointer_stops : {U : Type 0} (at n : ℕ) (x : Stop) (new : List Leak) (now : Kept R) → ◌≡◌ {A = Result U Stop} (Err x) (Err stop.Memory)
        → Changing Means m (ValuesChange table rows pos (does.EndPointer at n)) (Err x) new now
    pointer_stops at n x new now memory = record { changes = λ g stands safe other. absurd (other (err_is x memory)) }

    -- ---- assignments

    module _ (p : Place) (v of : ℕ) (checks : Option Pos) (n : ℕ) where
      abbrev to : codes.Place
      to = place_of (code_at rows.nodes) p

      abbrev value : codes.Fill
      value = fill_at rows.nodes rows.fills v

      fills_here : (s : Slots) → (ValuesChange table rows pos (does.Assign p v of checks n) s Fails → ⊥) → Fills table value s values.Fails → ⊥
      fills_here s safe is = safe (values.Fails, is, refl)

      assigns_here : (s : Slots) → (ValuesChange table rows pos (does.Assign p v of checks n) s Fails → ⊥)
          → (zs : List ℤ) (t : Slots) → Fills table value s (values.Gives zs t) → is_broken (assigned table to of checks zs t) ≡ false
      assigns_here s safe zs t is = left_whole n t (assigned table to of checks zs t) (λ e. safe (values.Gives zs t, is, e))

      pub assign_can : CanChange Means m (ValuesChange table rows pos (does.Assign p v of checks n)) → Assignable Means m table to value of checks
      assign_can is = record {
        ghosts = is.ghosts;
        stands = is.stands;
        fills = fills_here (slots m is.ghosts) is.whole;
        assigns = assigns_here (slots m is.ghosts) is.whole;
      }

      pub assign_goes : {U : Type 0} (u : U) (old new : List Leak) (now : Kept R) → old ≡ [] → Assigning Means m table to value of checks (Ok u) old new now
          → Changing Means m (ValuesChange table rows pos (does.Assign p v of checks n)) (Ok n) new now
      assign_goes u old new now none is = record {
        changes = λ g stands safe.
            let s : Slots = slots m g in
            let a : IsAssigned Means s table to value of checks old new now = is.assigns g stands (fills_here s safe) (assigns_here s safe) in
            let l = a.left in
            record {
              after = l.left.memory;
              comes = (values.Gives a.words a.after, a.may, leads n a.after a.after (assigned table to of checks a.words a.after) old new now none l);
              shows = l.shows;
            };
      }

      pub assign_stops : {U : Type 0} (x : Stop) (old new : List Leak) (now : Kept R) → Assigning {U = U} Means m table to value of checks (Err x) old new now
          → Changing Means m (ValuesChange table rows pos (does.Assign p v of checks n)) (Err x) new now
      assign_stops x old new now is = record {
        changes = λ g stands safe other.
            let s : Slots = slots m g in
            let a : IsRefused Means s table to value of checks x now = is.assigns g stands (fills_here s safe) (assigns_here s safe) other in
            record { after = a.after; comes = refused s a.after x a.stops; shows = a.shows };
      }
        where
          refused : (s t : Slots) (x : Stop)
              → Fills table value s (values.Ends (stop_of x) t) ⊎ ((words : List ℤ) × Fills table value s (values.Gives words t) × (assigned table to of checks words t ≡ Stops (stop_of x)))
              → ValuesChange table rows pos (does.Assign p v of checks n) s (Halts (stop_of x) t)
          refused s t x (inl is) = (values.Ends (stop_of x) t, is, refl)
          refused s t x (inr is) = (values.Gives is.0 t, is.1, sym (ap (left n t) is.2))

pub ruleset values_rules = (
  release_can,
  release_goes,
  release_stops,
  pointer_can,
  pointer_goes,
  pointer_stops,
  scope_can,
  scope_goes,
  scope_stops,
  assign_can,
  assign_goes,
  assign_stops,
)
