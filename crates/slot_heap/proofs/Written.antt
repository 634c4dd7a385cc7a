-- A word of a live cell is written.
use Rattle.std.proofs.Common.{◌≡◌, ℕ, ◌+◌, ◌<◌, ◌≤◌, None, Some, Option, IsSomeAnd, List, length, set, slice_get, slice_set, sym, ap, subst, ◌∙◌, arith, ⊎_elim, length-set}
use Rattle.std.proofs.lemmas.Bool.{cases_eq}
use Rattle.run_values.specs.declared.value.Value.{Value}
use Rattle.slot_heap.specs.Heaps.{Heap, words_at, written, changed}
use Rattle.slot_heap.specs.Runs.{IsRun, IsCell, Kept, StandsAt, Stand}
use Rattle.slot_heap.proofs.Heaps.{words_at-changed_same, words_at-changed_other, words_at-changed_none, IsOnce-changed, live_count-changed}
use Rattle.slot_heap.proofs.Places.{get-set_same, get-set_other, is_within}
use Rattle.slot_heap.proofs.Runs.{Outside, run_kept, stand_kept, chain_kept}

-- A word of a run is changed: all words outside stay.
pub set_inside : {W : Type 0} {marks : ℕ → ℕ × ℕ} {h n : ℕ} (words : List W) (i : ℕ) (w : W) → IsRun marks (length words) h n → h ≤ i → i < h + n → Outside marks h n words (set words i w)
set_inside words i w run from to = record {
  len = length-set words i w;
  same = λ j other. get-set_other words i j w (λ e. other (rw e (run.marked i from to)));
}

-- What isn't live isn't this live handle.
pub not_live : (m : Heap) {h : ℕ} (ws : List Value) (a : ℕ) → words_at m.cells h ≡ Some ws → words_at m.cells a ≡ None → a ≡ h → ⊥
not_live m {h} ws a is dead e =
    let at_handle : ℕ → Type 0 = λ b. words_at m.cells b ≡ None in
    let clash : Some ws ≡ None = sym is ∙ subst at_handle e dead in
    let never : ⊥ = cc in
    never

-- The cell itself.
cell_written : {W : Type 0} (IsCode : W → Value → Type 0) {words heads : List W} {marks : ℕ → ℕ × ℕ} {h : ℕ} (ws : List Value) (at : ℕ) (w : W) (v : Value) → IsCode w v → at < length ws → IsCell IsCode words heads marks h ws → IsCell IsCode (set words (h + at) w) heads marks h (slice_set ws at v)
cell_written IsCode {words} {heads} {marks} {h} ws at w v code within cell =
    let out = set_inside words (h + at) w cell.run (omega arith) (omega (arith, within)) in
    let inside = cell.run.within in
    let stand : Stand IsCode (set words (h + at) w) h (slice_set ws at v) = λ i u is.
    ⊎_elim
    (λ (e : i ≡ at).
    let at_place : ℕ → Type 0 = λ j. slice_get (slice_set ws at v) j ≡ Some u in
    let here : Some v ≡ Some u = sym (get-set_same ws at v within) ∙ subst at_place e is in
    let P : Option Value → Type 0 = λ o. IsSomeAnd o (λ x. StandsAt IsCode (set words (h + at) w) (h + i) x) in
    subst P here (rw (e, get-set_same words (h + at) w (omega (arith, within, inside))) code))
    (λ other.
    rw (get-set_other words (h + at) (h + i) w (λ e. other (omega (arith, e)))) (cell.stand i u (sym (get-set_other ws at i v other) ∙ is)))
    (cases_eq i at) in
    record {
      run = rw (length-set ws at v) (run_kept out cell.run);
      sized = rw (length-set ws at v) cell.sized;
      stand = stand;
    }

pub kept-written : {W : Type 0} (IsCode : W → Value → Type 0) {words heads : List W} {m : Heap} (h at : ℕ) (w : W) (v old : Value) (ws : List Value) → IsCode w v → words_at m.cells h ≡ Some ws → slice_get ws at ≡ Some old → Kept IsCode words heads m → Kept IsCode (set words (h + at) w) heads (written m h at v)
kept-written IsCode {words} {heads} {m} h at w v old ws code is there k =
    let within = is_within ws at old there in
    let cell = k.cells h ws is in
    let f : List Value → List Value = λ xs. slice_set xs at v in
    let out = set_inside words (h + at) w cell.run (omega arith) (omega (arith, within)) in
    record {
      marks = k.marks;
      frees = k.frees;
      once = IsOnce-changed f m.cells h k.once;
      cells = λ g us now.
          ⊎_elim
          (λ (e : g ≡ h).
          let at_handle : ℕ → Type 0 = λ a. words_at (changed f m.cells h) a ≡ Some us in
          let same : Some (f ws) ≡ Some us = sym (words_at-changed_same f m.cells h ws is) ∙ subst at_handle e now in
          let P : Option (List Value) → Type 0 = λ o. IsSomeAnd o (λ xs. IsCell IsCode (set words (h + at) w) heads k.marks g xs) in
          subst P same (rw e (cell_written IsCode ws at w v code within cell)))
          (λ other.
          let before = k.cells g us (sym (words_at-changed_other f m.cells h g other) ∙ now) in
          record {
            run = run_kept out before.run;
            sized = before.sized;
            stand = stand_kept IsCode us out before.run other before.stand;
          })
          (cases_eq g h);
      free = λ n a has.
          let before = k.free n a has in
          record { run = run_kept out before.run; dead = words_at-changed_none f m.cells h a before.dead };
      free_once = k.free_once;
      chains = λ n.
          chain_kept IsCode n (k.frees n) out (λ a has. ((k.free n a has).run, not_live m ws a is (k.free n a has).dead)) (k.chains n);
      first = k.first;
      counts = λ n. k.counts n ∙ ap (λ c. c + length (k.frees n)) (sym (live_count-changed f n m.cells h (λ xs. length-set xs at v)));
    }
