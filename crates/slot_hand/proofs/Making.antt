-- Cells that are made of words.
use Rattle.std.proofs.Common.{◌≡◌, ℕ, ◌+◌, ◌<◌, ◌≤◌, Bool, true, false, List, [], ◌∷◌, ◌++◌, length, nat_le, nat_lt, refl, sym, ap, subst, ◌∙◌, arith, ℤ}
use Rattle.run_values.specs.declared.value.Value.{Value}
use Rattle.run_values.specs.declared.value.Kind.{Kind}
use Rattle.machine.specs.Evaluate.{heap_words}
use Rattle.run_codes.specs.Flat.{Stop, most_cells}
use Rattle.slot_heap.specs.Heaps.{Heap}
use Rattle.slot_heap.proofs.Words.{values_long}
use Rattle.code_rows.specs.declared.stop.Stop.{Stop as Cause}
use Rattle.code_rows.specs.Stops.{stop_of}
use Rattle.handled_runs.specs.Fits.{are_slot_words, most_handles}
use Rattle.handled_runs.specs.Slots.{Slots}
use Rattle.handled_runs.specs.Changes.{slot_values, made}
use Rattle.handled_runs.specs.Values.{Outcome, Gives, Ends, Fails, MakesCell, MakesWhere, Makes}
use Rattle.slot_memory.specs.Memory.{Kept, Shows}
use Rattle.slot_memory.specs.Answers.{with_cell, IsMade, IsRefused}
use Rattle.slot_hand.specs.Outcomes.{IsGiven, IsEnded}

-- Words fit where making doesn't fail.
pub makes_fit : (s : Slots) (ks : List Kind) (zs : List ℤ) → (Makes s ks zs Fails → ⊥) → are_slot_words ks zs ≡ true
makes_fit s ks zs whole = by (are_slot_words ks zs) whole
  where
    by : (b : Bool) → (MakesWhere b (MakesCell (nat_le (s.live + length zs) heap_words) s ks zs Fails) Fails → ⊥) → b ≡ true
    by true whole = refl
    by false whole = absurd (whole refl)

makes_cell : (s : Slots) (ks : List Kind) (zs : List ℤ) (b : Bool) (r : Outcome) → are_slot_words ks zs ≡ true → nat_le (s.live + length zs) heap_words ≡ b
    → MakesCell b s ks zs r → Makes s ks zs r
makes_cell s ks zs b r fit room cell =
    let P : Bool → Type 0 = λ c. MakesWhere c (MakesCell (nat_le (s.live + length zs) heap_words) s ks zs r) r in
    let Q : Bool → Type 0 = λ c. MakesCell c s ks zs r in
    subst P (sym fit) (subst Q (sym room) cell)

le_true : (a b : ℕ) → a ≤ b → nat_le a b ≡ true
le_true a b le = grind arith

le_false : (a b : ℕ) → b < a → nat_le a b ≡ false
le_false a b lt = grind arith

lt_true : (a b : ℕ) → a < b → nat_lt a b ≡ true
lt_true a b lt = grind arith

cell_same : (s : Slots) (h : ℕ) (ks : List Kind) (zs : List ℤ) (vs : List Value) → are_slot_words ks zs ≡ true → vs ≡ slot_values ks zs → with_cell s h vs ≡ made s h ks zs
cell_same s h ks zs vs fit is =
    ap (with_cell s h) is ∙ ap (λ n. record (with_cell s h (slot_values ks zs)) { live = s.live + n }) (values_long ks zs fit)

pub make_given : {R : Type 0} (Means : R → Heap → Type 0) (s : Slots) (ks : List Kind) (zs : List ℤ) (vs : List Value) (w : ℤ) (m : Kept R) (old new : List ℤ)
    → (Makes s ks zs Fails → ⊥) → vs ≡ slot_values ks zs → IsMade Means s vs w m → new ≡ old ++ w ∷ [] → IsGiven Means (Makes s ks zs) old new m
make_given Means s ks zs vs w m old new whole is cell pushed =
    let fit : are_slot_words ks zs ≡ true = makes_fit s ks zs whole in
    let long : length vs ≡ length zs = ap length is ∙ values_long ks zs fit in
    let room : nat_le (s.live + length zs) heap_words ≡ true = le_true (s.live + length zs) heap_words (omega (arith, cell.room, long)) in
    let small : cell.handle < most_handles = omega (arith, cell.small) in
    let P : Slots → Type 0 = Shows Means m in
    record {
      words = w ∷ [];
      after = made s cell.handle ks zs;
      may =
          makes_cell s ks zs true (Gives (w ∷ []) (made s cell.handle ks zs)) fit room
          (cell.handle, cell.new, small, ap (λ (z : ℤ). z ∷ []) cell.name, refl, lt_true s.made most_cells cell.few);
      appended = pushed;
      shows = subst P (cell_same s cell.handle ks zs vs fit is) cell.shows;
    }

pub make_ended : {R : Type 0} (Means : R → Heap → Type 0) (s : Slots) (ks : List Kind) (zs : List ℤ) (vs : List Value) (x : Cause) (m : Kept R)
    → (Makes s ks zs Fails → ⊥) → vs ≡ slot_values ks zs → IsRefused Means s vs x m → IsEnded Means (Makes s ks zs) x m
make_ended Means s ks zs vs x m whole is refused =
    let fit : are_slot_words ks zs ≡ true = makes_fit s ks zs whole in
    let long : length vs ≡ length zs = ap length is ∙ values_long ks zs fit in
    let room : nat_le (s.live + length zs) heap_words ≡ false = le_false (s.live + length zs) heap_words (omega (arith, refused.full, long)) in
    record {
      after = s;
      may = makes_cell s ks zs false (Ends (stop_of x) s) fit room (ap (λ (y : Stop). Ends y s) refused.raises);
      shows = refused.shows;
    }
