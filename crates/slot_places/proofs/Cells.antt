-- Cells where words are stored have as many words as before.
use Rattle.std.proofs.Common.{◌≡◌, refl, sym, ap, ◌∙◌, subst, ℕ, ◌+◌, Bool, true, false, ◌==◌, ◌&&◌, nat_le, List, [], ◌∷◌, drop, length, Option, Some, None, IsSomeAnd, ℤ, if◌then◌else◌}
use Rattle.run_values.specs.declared.value.Value.{Value}
use Rattle.run_values.specs.declared.value.Kind.{Kind}
use Rattle.slot_heap.specs.Heaps.{Cell, Heap, words_at, IsLive}
use Rattle.run_codes.specs.Flat.{Given, Broken, Spot, InStack, InCell, have_kinds, spliced}
use Rattle.handled_runs.specs.Fits.{are_slot_words}
use Rattle.handled_runs.specs.Slots.{Slots}
use Rattle.handled_runs.specs.Changes.{with_stack, with_heap, written_all, slot_values, cell_stored, stored}
use Rattle.slot_memory.specs.Cells.{size_at}
use Rattle.slot_memory.proofs.Heaps.{same_written_all, size_words}

size_live : (cells : List Cell) (h n : ℕ) → size_at cells h ≡ Some n → (us : List Value) × (words_at cells h ≡ Some us) × (length us ≡ n)
size_live [] h n e = cc
size_live (c ∷ cells) h n e = by (c.handle == h) (λ e. size_live cells h n e) e
  where
    by : (b : Bool) → (size_at cells h ≡ Some n → (us : List Value) × (words_at cells h ≡ Some us) × (length us ≡ n))
        → (if b then Some (length c.words) else size_at cells h) ≡ Some n → (us : List Value) × ((if b then Some c.words else words_at cells h) ≡ Some us) × (length us ≡ n)
    by true others e = (c.words, refl, cc)
    by false others e = others e

pub live_is : (m : Heap) (h : ℕ) (ws : List Value) → words_at m.cells h ≡ Some ws → IsLive m h
live_is m h ws e = subst (λ x. IsSomeAnd x (λ us. us ≡ us)) (sym e) refl

pub stored_live : (s t : Slots) (q : Spot) (ks : List Kind) (zs : List ℤ) (h : ℕ) (ws : List Value) → stored s q ks zs ≡ Given t → words_at s.heap.cells h ≡ Some ws
    → (us : List Value) × (words_at t.heap.cells h ≡ Some us) × (length us ≡ length ws)
stored_live s t (InStack n) ks zs h ws e live = by (nat_le (n + length zs) (length s.stack)) e
  where
    by : (b : Bool) → (if b then Given (with_stack s (spliced n zs s.stack)) else Broken) ≡ Given t → (us : List Value) × (words_at t.heap.cells h ≡ Some us) × (length us ≡ length ws)
    by true e = let same : with_stack s (spliced n zs s.stack) ≡ t = cc in (ws, ap (λ (x : Slots). words_at x.heap.cells h) (sym same) ∙ live, refl)
    by false e = cc
stored_live s t (InCell i o) ks zs h ws e live = found (words_at s.heap.cells i) e
  where
    by : (us : List Value) (b : Bool) → (if b then Given (with_heap s (written_all s.heap i o (slot_values ks zs))) else Broken) ≡ Given t
        → (us : List Value) × (words_at t.heap.cells h ≡ Some us) × (length us ≡ length ws)
    by us true e =
        let same : with_heap s (written_all s.heap i o (slot_values ks zs)) ≡ t = cc in
        let sizes = same_written_all s.heap i o (slot_values ks zs) in
        let there = size_live (written_all s.heap i o (slot_values ks zs)).cells h (length ws) (sizes.sizes h ∙ size_words s.heap.cells h ws live) in
        (there.0, ap (λ (x : Slots). words_at x.heap.cells h) (sym same) ∙ there.1, there.2)
    by us false e = cc

    found : (x : Option (List Value)) → cell_stored s i o ks zs x ≡ Given t → (us : List Value) × (words_at t.heap.cells h ≡ Some us) × (length us ≡ length ws)
    found None e = cc
    found (Some us) e = by us (are_slot_words ks zs && have_kinds ks (drop o us)) e
