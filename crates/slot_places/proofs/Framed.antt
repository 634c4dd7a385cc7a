-- One access value at an offset in the frame.
use Rattle.std.proofs.Common.{◌≡◌, ◌≢◌, refl, sym, ap, ◌∙◌, subst, ℕ, ◌+◌, ◌≤◌, true, false, List, [], ◌∷◌, ◌++◌, append-nil, length, get_or, Option, ℤ, pos, unsigned_abs, Result, Ok, Err, OnOk, OnErr, IsErrOf, arith}
use Rattle.spark_base.specs.declared.position.Pos.{Pos}
use Rattle.type_definitions.specs.Types.{Table}
use Rattle.machine.specs.States.{Leak}
use Rattle.run_values.specs.declared.value.Kind.{Kind}
use Rattle.run_values.specs.declared.value.Kind.TheVariants as sort
use Rattle.slot_heap.specs.Heaps.{Heap}
use Rattle.run_codes.specs.Codes.{Place, InFrame}
use Rattle.run_codes.specs.Lowered.{no_index}
use Rattle.run_codes.specs.Flat.{Given, Spot, InStack, is_broken}
use Rattle.code_rows.specs.declared.stop.Stop.{Stop}
use Rattle.code_rows.specs.declared.stop.Stop.TheVariants as stop
use Rattle.handled_runs.specs.Slots.{held}
use Rattle.handled_runs.specs.Changes.{settled}
use Rattle.handled_runs.specs.Leaks.{leak, leaks_at}
use Rattle.handled_runs.specs.Assigned.{assigned}
use Rattle.slot_memory.specs.declared.spot.Spot as declared
use Rattle.slot_memory.specs.Spots.{spot_of}
use Rattle.slot_memory.specs.Memory.{Kept, Ghosts, Stands, Knows, Always, Changes, slots}
use Rattle.type_words.specs.Pointers.{is_pointer}
use Rattle.slot_words.specs.Reading.{GivesSpot}
use Rattle.slot_words.proofs.Leaves.{number_gives}
use Rattle.slot_words.proofs.Spots.{frame_room, frame_gives}
use Rattle.slot_hand.specs.Leaks.{Finds}
use Rattle.slot_hand.proofs.Checks.{pointer_finds, pointer_told}
use Rattle.slot_places.specs.Steps.{Leavable, Leaving, stored_checked, stored_settled}
use Rattle.slot_places.proofs.Assigning.{settle_known, after_settled, place_reads, place_known, place_leaving, settled_leaving}

abbrev one : List Kind
one = sort.Access ∷ []

-- ---- leak checks of one word

module _ {R : Type 0} (Means : R → Heap → Type 0) (m : Kept R) (table : Table) (q : Spot) (of : ℕ) (p : Pos) (w : ℤ) where
  abbrev IsRead : Type 0
  IsRead = Always Means m (λ s. is_broken (held s q one) ≡ false → held s q one ≡ Given (w ∷ []))

  pub word_finds : {U : Type 0} (r : Result U Stop) (old new : List Leak) → is_pointer table of ≡ true → IsRead
      → OnOk r (Always Means m (λ s. new ≡ old ++ leak s.numbers p w)) → OnErr r (IsErrOf r stop.Memory)
      → Always Means m (λ s. is_broken (leaks_at table s q of p) ≡ false → Finds (leaks_at table s q of p) r old new)
  word_finds {U} r old new pointer read pushed memory =
      pointer_told Means m table q of p r old new pointer
      (λ g stands whole. pointer_finds (slots m g).numbers (held (slots m g) q one) p w r old new (read g stands whole) (here r g stands pushed) memory)
    where
      here : (r : Result U Stop) (g : Ghosts) → Stands Means m g → OnOk r (Always Means m (λ s. new ≡ old ++ leak s.numbers p w)) → OnOk r (new ≡ old ++ leak (slots m g).numbers p w)
      here (Ok u) g stands pushed = pushed g stands
      here (Err x) g stands pushed = tt

  pub null_finds : (old : List Leak) → is_pointer table of ≡ true → IsRead → w ≡ pos 0
      → Always Means m (λ s. is_broken (leaks_at table s q of p) ≡ false → Finds {U = Unit {0}} (leaks_at table s q of p) (Ok tt) old old)
  null_finds old pointer read null =
      word_finds {U = Unit {0}} (Ok tt) old old pointer read
      (λ g stands. sym (append-nil old) ∙ ap (λ z. old ++ leak (slots m g).numbers p z) (sym null)) tt

-- ---- an offset in the frame

module _ {R : Type 0} (Means : R → Heap → Type 0) (table : Table) (at of : ℕ) (checks : Option Pos) (w : ℤ) (m : Kept R) where
  abbrev to : Place
  to = InFrame at no_index

  abbrev CanStore : Type 0
  CanStore = Leavable Means m (assigned table to of checks (w ∷ []))

  pub frame_there : CanStore → m.base + at + unsigned_abs (pos 0) ≤ length m.stack
  frame_there is = frame_room Means m at no_index (pos 0) (place_reads Means table to of checks (w ∷ []) m is) (number_gives Means m (pos 0))

  module _ (r : declared.Spot) (e : spot_of r ≡ InStack (m.base + at + unsigned_abs (pos 0))) where
    to_gives : GivesSpot Means m to (Ok r)
    to_gives = frame_gives Means m at no_index (pos 0) r (number_gives Means m (pos 0)) e

    settles : CanStore → Leavable Means m (stored_settled table (spot_of r) of checks (w ∷ []))
    settles is = place_known Means table to of checks (w ∷ []) m r is to_gives

    pub frame_settles : CanStore → Knows Means m (λ s. is_broken (settled s) ≡ false)
    frame_settles is = settle_known Means table (spot_of r) of checks (w ∷ []) m (settles is)

    pub frame_checks : (n : Kept R) → CanStore → Changes Means m settled n → Leavable Means n (stored_checked table (spot_of r) of checks (w ∷ []))
    frame_checks n is changes = after_settled Means table (spot_of r) of checks (w ∷ []) m n (settles is) changes

    pub frame_leaves : {V : Type 0} (n k : Kept R) (res : Result V Stop) (old new : List Leak) → Changes Means m settled n
        → Leaving Means n (stored_checked table (spot_of r) of checks (w ∷ [])) res old new k → Leaving Means m (assigned table to of checks (w ∷ [])) res old new k
    frame_leaves n k res old new changes leaving =
        place_leaving Means table to of checks (w ∷ []) m k r res old new to_gives
        (settled_leaving Means table (spot_of r) of checks (w ∷ []) m n k res old new changes leaving)

-- ---- the word at hand

alone : (zs : List ℤ) (d : ℤ) → length zs ≡ 1 → zs ≡ get_or zs 0 d ∷ []
alone [] d is = absurd (omega (arith, is))
alone (z ∷ []) d is = refl
alone (z ∷ y ∷ zs) d is = absurd (omega (arith, is))

module _ {R : Type 0} (Means : R → Heap → Type 0) (table : Table) (p : Place) (at of : ℕ) (checks : Option Pos) (zs : List ℤ) (w d : ℤ) (m : Kept R) where
  pub one_leaves : {V : Type 0} (k : Kept R) (res : Result V Stop) (old new : List Leak) → p ≡ InFrame at no_index → length zs ≡ 1 → w ≡ get_or zs 0 d
      → Leaving Means m (assigned table (InFrame at no_index) of checks (w ∷ [])) res old new k → Leaving Means m (assigned table p of checks zs) res old new k
  one_leaves k res old new there alone_there word leaving =
      subst (λ q. Leaving Means m (assigned table q of checks zs) res old new k) (sym there)
      (subst (λ us. Leaving Means m (assigned table (InFrame at no_index) of checks us) res old new k) (ap (λ z. z ∷ []) word ∙ sym (alone zs d alone_there)) leaving)
