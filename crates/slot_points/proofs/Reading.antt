-- The input is read no further than it goes, and nothing more is moved.
use Rattle.std.proofs.Common.{◌≡◌, ℕ, ◌+◌, ◌≤◌, Bool, true, false, List, [], ◌∷◌, length, drop, refl, sym, ap, subst, ◌∙◌, ◌&&◌, nat_le, arith, Option, Some, None, ℤ, if◌then◌else◌}
use Rattle.std.specs.List.{list_all}
use Rattle.std.proofs.lemmas.List.{length-drop}
use Rattle.std.proofs.lemmas.List.Sums.{prefix_len-le-length}
use Rattle.run_values.specs.declared.value.Value.{Value}
use Rattle.run_values.specs.declared.value.Kind.{Kind}
use Rattle.run_values.specs.declared.value.Kind.TheVariants as sort
use Rattle.run_values.specs.declared.items.Item.{Item}
use Rattle.run_values.specs.declared.items.Item.TheVariants as item
use Rattle.run_values.specs.Items.{is_separator, is_item_byte, separator_length, item_length, item_of, next_item}
use Rattle.machine.specs.Evaluate.{DataError, EndError}
use Rattle.run_codes.specs.Codes.{Place}
use Rattle.run_codes.specs.Flat.{Spot, InStack, InCell, Got, Given, Stops, Broken, Raises, and_then, constraint, is_between, spliced, have_kinds}
use Rattle.slot_heap.specs.Heaps.{words_at}
use Rattle.handled_runs.specs.Fits.{are_slot_words}
use Rattle.handled_runs.specs.Slots.{Slots, spot}
use Rattle.handled_runs.specs.Changes.{with_stack, with_heap, written_all, slot_values, cell_stored, stored}
use Rattle.slot_points.specs.Changing.{With}
use Rattle.slot_points.specs.Steps.{item_stored, item_read}

within : (input : List ℕ) (at : ℕ) → at ≤ length input
    → at + separator_length (drop at input) + item_length (drop (at + separator_length (drop at input)) input) ≤ length input
within input at le =
    let start : ℕ = at + separator_length (drop at input) in
    let before : separator_length (drop at input) ≤ length (drop at input) = prefix_len-le-length is_separator (drop at input) in
    let long : item_length (drop start input) ≤ length (drop start input) = prefix_len-le-length is_item_byte (drop start input) in
    omega (arith, le, before, length-drop at input, long, length-drop start input)

end_of_item : (b : Bool) (o : Option ℤ) (n : ℕ) (v : ℤ) (end : ℕ) → (if b then item.Missing else item_of o n) ≡ item.Number v end → n ≡ end
end_of_item true o n v end is = absurd (let e : item.Missing ≡ item.Number v end = is in cc)
end_of_item false None n v end is = absurd (let e : item.Bad ≡ item.Number v end = is in cc)
end_of_item false (Some w) n v end is = let e : item.Number w n ≡ item.Number v end = is in cc

item_within : (input : List ℕ) (at : ℕ) (v : ℤ) (end : ℕ) → at ≤ length input → next_item input at ≡ item.Number v end → end ≤ length input
item_within input at v end le is =
    let start : ℕ = at + separator_length (drop at input) in
    let len : ℕ = item_length (drop start input) in
    subst (λ n. n ≤ length input) (end_of_item (list_all is_separator (drop at input)) _ (start + len) v end is) (within input at le)

abbrev end_in : Got (With ℕ) → ℕ
end_in (Given x) = x.answer
end_in (Stops s) = 0
end_in Broken = 0

item_end : (m : Slots) (low high : ℤ) (i : Item) (s : Spot) (x : With ℕ) → item_stored low high i m s ≡ Given x → (v : ℤ) × (i ≡ item.Number v x.answer)
item_end m low high item.Missing s x is = absurd (let e : ◌≡◌ {A = Got (With ℕ)} (Stops (Raises EndError)) (Given x) = is in cc)
item_end m low high item.Bad s x is = absurd (let e : ◌≡◌ {A = Got (With ℕ)} (Stops (Raises DataError)) (Given x) = is in cc)
item_end m low high (item.Number v e) s x is =
    (v, ap (λ n. item.Number v n) (by (is_between low high v) (stored m s (sort.Int ∷ []) (v ∷ [])) is))
  where
    by : (b : Bool) (g : Got Slots) → (if b then and_then g (λ k. Given (record { memory = k; answer = e })) else Stops constraint) ≡ Given x → e ≡ x.answer
    by true (Given k) is = ap end_in is
    by true (Stops s) is = absurd (let e : ◌≡◌ {A = Got (With ℕ)} (Stops s) (Given x) = is in cc)
    by true Broken is = absurd (let e : ◌≡◌ {A = Got (With ℕ)} Broken (Given x) = is in cc)
    by false g is = absurd (let e : ◌≡◌ {A = Got (With ℕ)} (Stops constraint) (Given x) = is in cc)

-- Where an item is read, it ends within the input.
pub read_within : (m : Slots) (p : Place) (input : List ℕ) (at : ℕ) (low high : ℤ) (x : With ℕ) → at ≤ length input
    → item_read p input at low high m ≡ Given x → x.answer ≤ length input
read_within m p input at low high x le is = by (spot m p) is
  where
    by : (g : Got Spot) → and_then g (item_stored low high (next_item input at) m) ≡ Given x → x.answer ≤ length input
    by (Given s) is = let d = item_end m low high (next_item input at) s x is in item_within input at d.0 x.answer le d.1
    by (Stops k) is = absurd (let e : ◌≡◌ {A = Got (With ℕ)} (Stops k) (Given x) = is in cc)
    by Broken is = absurd (let e : ◌≡◌ {A = Got (With ℕ)} Broken (Given x) = is in cc)

-- ---- nothing more is moved

if_moves : (b : Bool) (s u t : Slots) → u.moves ≡ s.moves → (if b then Given u else Broken) ≡ Given t → t.moves ≡ s.moves
if_moves true s u t same is = ap (λ (x : Slots). x.moves) (sym (let e : u ≡ t = cc in e)) ∙ same
if_moves false s u t same is = absurd (let e : ◌≡◌ {A = Got Slots} Broken (Given t) = is in cc)

pub stored_moves : (s t : Slots) (q : Spot) (ks : List Kind) (zs : List ℤ) → stored s q ks zs ≡ Given t → t.moves ≡ s.moves
stored_moves s t (InStack n) ks zs is =
    if_moves (nat_le (n + length zs) (length s.stack)) s (with_stack s (spliced n zs s.stack)) t refl is
stored_moves s t (InCell h o) ks zs is = by (words_at s.heap.cells h) is
  where
    by : (x : Option (List Value)) → cell_stored s h o ks zs x ≡ Given t → t.moves ≡ s.moves
    by None is = absurd (let e : ◌≡◌ {A = Got Slots} Broken (Given t) = is in cc)
    by (Some ws) is =
        if_moves (are_slot_words ks zs && have_kinds ks (drop o ws)) s (with_heap s (written_all s.heap h o (slot_values ks zs))) t refl is

item_moves : (m : Slots) (low high : ℤ) (i : Item) (s : Spot) (x : With ℕ) → item_stored low high i m s ≡ Given x → x.memory.moves ≡ m.moves
item_moves m low high item.Missing s x is = absurd (let e : ◌≡◌ {A = Got (With ℕ)} (Stops (Raises EndError)) (Given x) = is in cc)
item_moves m low high item.Bad s x is = absurd (let e : ◌≡◌ {A = Got (With ℕ)} (Stops (Raises DataError)) (Given x) = is in cc)
item_moves m low high (item.Number v e) s x is = by (is_between low high v) (stored m s (sort.Int ∷ []) (v ∷ [])) refl is
  where
    by : (b : Bool) (g : Got Slots) → stored m s (sort.Int ∷ []) (v ∷ []) ≡ g
        → (if b then and_then g (λ k. Given (record { memory = k; answer = e })) else Stops constraint) ≡ Given x → x.memory.moves ≡ m.moves
    by true (Given k) there is =
        let same : record { memory = k; answer = e } ≡ x = cc in
        ap (λ (y : With ℕ). y.memory.moves) (sym same) ∙ stored_moves m k s (sort.Int ∷ []) (v ∷ []) there
    by true (Stops s) there is = absurd (let e : ◌≡◌ {A = Got (With ℕ)} (Stops s) (Given x) = is in cc)
    by true Broken there is = absurd (let e : ◌≡◌ {A = Got (With ℕ)} Broken (Given x) = is in cc)
    by false g there is = absurd (let e : ◌≡◌ {A = Got (With ℕ)} (Stops constraint) (Given x) = is in cc)

pub read_moves : (m : Slots) (p : Place) (input : List ℕ) (at : ℕ) (low high : ℤ) (x : With ℕ) → item_read p input at low high m ≡ Given x → x.memory.moves ≡ m.moves
read_moves m p input at low high x is = by (spot m p) is
  where
    by : (g : Got Spot) → and_then g (item_stored low high (next_item input at) m) ≡ Given x → x.memory.moves ≡ m.moves
    by (Given s) is = item_moves m low high (next_item input at) s x is
    by (Stops k) is = absurd (let e : ◌≡◌ {A = Got (With ℕ)} (Stops k) (Given x) = is in cc)
    by Broken is = absurd (let e : ◌≡◌ {A = Got (With ℕ)} Broken (Given x) = is in cc)
