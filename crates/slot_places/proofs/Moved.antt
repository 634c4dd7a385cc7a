-- Access values that are moved to the frame.
use Rattle.std.proofs.Common.{◌≡◌, ◌≢◌, refl, sym, ap, subst, ℕ, ◌+◌, ◌≤◌, true, false, List, [], ◌∷◌, ◌++◌, length, Option, ℤ, pos, unsigned_abs, Result, Ok, Err}
use Rattle.spark_base.specs.declared.position.Pos.{Pos}
use Rattle.type_definitions.specs.Types.{Table}
use Rattle.machine.specs.States.{Leak}
use Rattle.run_values.specs.declared.value.Kind.{Kind}
use Rattle.run_values.specs.declared.value.Kind.TheVariants as sort
use Rattle.slot_heap.specs.Heaps.{Heap}
use Rattle.run_codes.specs.Codes.{Place, Fill, MovedPointer, InFrame}
use Rattle.run_codes.specs.Lowered.{no_index}
use Rattle.run_codes.specs.Flat.{Given, Spot, InStack, is_broken}
use Rattle.code_rows.specs.declared.stop.Stop.{Stop}
use Rattle.handled_runs.specs.Slots.{held}
use Rattle.handled_runs.specs.Changes.{stored, moving, settled}
use Rattle.handled_runs.specs.Assigned.{checked_at, assigned}
use Rattle.slot_memory.specs.declared.spot.Spot as declared
use Rattle.slot_memory.specs.Spots.{spot_of}
use Rattle.slot_memory.specs.Memory.{Kept, Knows, Always, Changes, slots, beyond}
use Rattle.slot_memory.proofs.Shown.{moved}
use Rattle.type_words.specs.Pointers.{is_pointer}
use Rattle.type_words.proofs.Named.{pointer_kinds}
use Rattle.slot_words.specs.Reading.{ReadsSpot, GivesSpot}
use Rattle.slot_words.proofs.Wholes.{first_whole}
use Rattle.slot_words.proofs.Leaves.{number_gives}
use Rattle.slot_words.proofs.Never.{checked_never}
use Rattle.slot_words.proofs.Spots.{frame_room, frame_gives}
use Rattle.slot_values.specs.Fillings.{Filled}
use Rattle.slot_values.proofs.Places.{pointer_spot, pointer_stops, pointer_held, pointer_makes}
use Rattle.code_rows.specs.Stops.{stop_of}
use Rattle.slot_places.specs.Steps.{Leavable, Leaving, stored_leaking, stored_checked, stored_settled, Assignable, Assigning}
use Rattle.slot_places.proofs.Framed.{frame_there, frame_settles, frame_checks, frame_leaves}
use Rattle.slot_places.proofs.Assigning.{Found, Halted, settle_known, after_settled, store_known, checked_leaving, settled_leaving, place_reads, place_known, place_leaving, assign_fillable, assign_known, assign_stops, assign_leaves}

abbrev one : List Kind
one = sort.Access ∷ []

-- ---- a spot of a named access type

module _ {R : Type 0} (Means : R → Heap → Type 0) (table : Table) (q : Spot) (of : ℕ) (checks : Option Pos) (w : ℤ) (m : Kept R) where
  pub put_known : is_pointer table of ≡ true → Leavable Means m (stored_checked table q of checks (w ∷ [])) → Knows Means m (λ s. is_broken (stored s q one (w ∷ [])) ≡ false)
  put_known pointer is =
      subst (λ ks. Knows Means m (λ s. is_broken (stored s q ks (w ∷ [])) ≡ false)) (pointer_kinds table of pointer) (store_known Means table q of checks (w ∷ []) m is)

  pub put_halts : {V : Type 0} (x : Stop) (old new : List Leak)
      → Always Means m (λ s. is_broken (checked_at table s q of checks) ≡ false → Halted (checked_at table s q of checks) x)
      → Leaving {U = V} Means m (stored_checked table q of checks (w ∷ [])) (Err x) old new m
  put_halts x old new finds = record {
    leaves = λ g stands whole no.
        absurd (checked_never table (slots m g) q of checks (stop_of x)
        (finds g stands (first_whole (checked_at table (slots m g) q of checks) (stored_leaking table of (w ∷ []) (slots m g) q) whole) no));
  }

  pub put_leaves : {V : Type 0} (n : Kept R) (v : V) (old new : List Leak) → is_pointer table of ≡ true
      → Always Means m (λ s. is_broken (checked_at table s q of checks) ≡ false → Found (checked_at table s q of checks) old new)
      → Changes Means m (λ s. stored s q one (w ∷ [])) n → Leaving Means m (stored_checked table q of checks (w ∷ [])) (Ok v) old new n
  put_leaves n v old new pointer finds changes =
      checked_leaving Means table q of checks (w ∷ []) m n (Ok v) old new finds
      (subst (λ ks. Changes Means m (λ s. stored s q ks (w ∷ [])) n) (sym (pointer_kinds table of pointer)) changes) tt

-- ---- a place, and an offset in the frame

module _ {R : Type 0} (Means : R → Heap → Type 0) (table : Table) (p : Place) (at of : ℕ) (checks : Option Pos) (m : Kept R) where
  abbrev to : Place
  to = InFrame at no_index

  abbrev value : Fill
  value = MovedPointer p

  abbrev CanAssign : Type 0
  CanAssign = Assignable Means m table to value of checks

  pub from_reads : CanAssign → ReadsSpot Means m p
  from_reads is = pointer_spot Means m table p (assign_fillable Means table to value of checks m is)

  pub from_stops : {V : Type 0} (x : Stop) (old : List Leak) → GivesSpot Means m p (Err x) → Assigning {U = V} Means m table to value of checks (Err x) old old m
  from_stops {V} x old gives =
      let filled : Filled {U = Unit {0}} Means m table value (Err x) [] [] m = pointer_stops Means m table p x [] [] gives in
      assign_stops Means table to value of checks m m x [] [] old filled

  pub from_word : (q : declared.Spot) → CanAssign → GivesSpot Means m p (Ok q) → Knows Means m (λ s. is_broken (held s (spot_of q) one) ≡ false)
  from_word q is gives = pointer_held Means m table p q (assign_fillable Means table to value of checks m is) gives

  module _ (q : declared.Spot) (w : ℤ) (none : m.moves ≡ []) (gives : GivesSpot Means m p (Ok q))
      (read : Always Means m (λ s. is_broken (held s (spot_of q) one) ≡ false → held s (spot_of q) one ≡ Given (w ∷ []))) where
    -- What is moved is noted.
    abbrev noted : Kept R
    noted = record m { moves = beyond (spot_of q) 0 ∷ [] }

    abbrev done : Result (Unit {0}) Stop
    done = Ok tt

    filled : Filled Means m table value done [] (w ∷ []) noted
    filled =
        pointer_makes Means m table p q w done [] (w ∷ []) noted gives read
        (moved Means m noted (spot_of q) (0 ∷ []) (ap (λ l. record m { moves = l ++ beyond (spot_of q) 0 ∷ [] }) (sym none))) refl tt

    assigns : CanAssign → Leavable Means noted (assigned table to of checks (w ∷ []))
    assigns is = assign_known Means table to value of checks m noted tt [] (w ∷ []) refl is filled

    pub to_room : CanAssign → m.base + at + unsigned_abs (pos 0) ≤ length m.stack
    to_room is = frame_there Means table at of checks w noted (assigns is)

    module _ (r : declared.Spot) (e : spot_of r ≡ InStack (m.base + at + unsigned_abs (pos 0))) where
      pub take_known : CanAssign → Knows Means noted (λ s. is_broken (settled s) ≡ false)
      take_known is = frame_settles Means table at of checks w noted r e (assigns is)

      pub taken_known : (n : Kept R) → CanAssign → Changes Means noted settled n → Leavable Means n (stored_checked table (spot_of r) of checks (w ∷ []))
      taken_known n is changes = frame_checks Means table at of checks w noted r e n (assigns is) changes

      pub moved_leaves : {V : Type 0} (n k : Kept R) (res : Result V Stop) (old new : List Leak) → Changes Means noted settled n
          → Leaving Means n (stored_checked table (spot_of r) of checks (w ∷ [])) res old new k → Assigning Means m table to value of checks res old new k
      moved_leaves n k res old new changes leaving =
          assign_leaves Means table to value of checks m noted k tt [] (w ∷ []) res old new refl filled
          (frame_leaves Means table at of checks w noted r e n k res old new changes leaving)
