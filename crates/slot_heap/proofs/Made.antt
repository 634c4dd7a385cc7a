-- A cell is made, in a free run or after all words.
use Rattle.std.proofs.Common.{◌≡◌, ℕ, zero, suc, ◌+◌, ◌-◌, ◌<◌, ◌≤◌, None, Some, Option, IsSomeAnd, List, [], ◌∷◌, ◌++◌, length, set, refl, sym, ap, subst, ◌∙◌, arith, inl, inr, ⊎_elim, length-set, length-append, ◌==◌, if◌then◌else◌, true, false, replicate, ltb}
use Rattle.std.proofs.lemmas.Bool.{cases_eq, cases_lt, eq-eqb, ne_eqb, lt-ltb, le-ltb}
use Rattle.std.proofs.lemmas.List.{length-replicate}
use Rattle.std.proofs.lemmas.List.Edits.{sets}
use Rattle.run_values.specs.declared.value.Value.{Value}
use Rattle.run_values.specs.declared.value.Value.TheVariants as value
use Rattle.slot_heap.specs.Heaps.{Cell, Heap, no_heap, words_at, allocated, with_slot, live_count, slot_count}
use Rattle.slot_heap.specs.Runs.{IsRun, IsCell, IsFree, Kept, StandsAt, Stand, Has, AreOnce, Chain, link}
use Rattle.slot_heap.proofs.Places.{get-append, get-append_right, get-sets_before, get-sets_after, get-sets_inside, length-sets, stands_within, is_within}
use Rattle.slot_heap.proofs.Runs.{Outside, run_kept, stand_kept, chain_kept, put_at, by_size}
use Rattle.slot_heap.proofs.Freed.{first_set}

-- ---- lookups and counts with a new cell

pub words_at-new_same : (cells : List Cell) (h : ℕ) (ws : List Value) → words_at (record { handle = h; words = ws } ∷ cells) h ≡ Some ws
words_at-new_same cells h ws = rw (eq-eqb h h refl) refl

pub words_at-new_other : (cells : List Cell) (h g : ℕ) (ws : List Value) → (g ≡ h → ⊥) → words_at (record { handle = h; words = ws } ∷ cells) g ≡ words_at cells g
words_at-new_other cells h g ws other = rw (ne_eqb h g (λ e. other (sym e))) refl

pub live_count-new_same : (cells : List Cell) (h : ℕ) (ws : List Value) → live_count (length ws) (record { handle = h; words = ws } ∷ cells) ≡ live_count (length ws) cells + 1
live_count-new_same cells h ws = rw (eq-eqb (length ws) (length ws) refl) (omega arith)

pub live_count-new_other : (cells : List Cell) (h : ℕ) (ws : List Value) (n : ℕ) → (n ≡ length ws → ⊥) → live_count n (record { handle = h; words = ws } ∷ cells) ≡ live_count n cells
live_count-new_other cells h ws n other = rw (ne_eqb (length ws) n (λ e. other (sym e))) refl

-- Slots of other sizes stay.
pub slot_count-other : (m : Heap) (n j : ℕ) → (j ≡ n → ⊥) → slot_count j (with_slot n m) ≡ slot_count j m.slots
slot_count-other m n j other =
    elim (live_count n m.cells == slot_count n m.slots) as (λ b. slot_count j (if b then n ∷ m.slots else m.slots) ≡ slot_count j m.slots) [
      | true ↦ rw (ne_eqb n j (λ e. other (sym e))) refl
      | false ↦ refl
    ]

-- Where none is free there is one more, else there are as many.
pub with_slot-full : (m : Heap) (n : ℕ) → live_count n m.cells ≡ slot_count n m.slots → with_slot n m ≡ n ∷ m.slots
with_slot-full m n full = rw (eq-eqb _ _ full) refl

pub with_slot-free : (m : Heap) (n : ℕ) → (live_count n m.cells ≡ slot_count n m.slots → ⊥) → with_slot n m ≡ m.slots
with_slot-free m n free = rw (ne_eqb _ _ free) refl

-- ---- the table grows

stands-replicate : {W : Type 0} (IsCode : W → Value → Type 0) (j : ℕ) (w : W) (i : ℕ) → i < j → IsCode w value.Null → StandsAt IsCode (replicate j w) i value.Null
stands-replicate IsCode zero w i within code = absurd (omega (arith, within))
stands-replicate IsCode (suc j) w zero within code = code
stands-replicate IsCode (suc j) w (suc i) within code = stands-replicate IsCode j w i (omega (arith, within)) code

pub kept-grown : {W : Type 0} (IsCode : W → Value → Type 0) (words heads : List W) (m : Heap) (j : ℕ) (w : W) → IsCode w value.Null → Kept IsCode words heads m → Kept IsCode words (heads ++ replicate j w) m
kept-grown IsCode words heads m j w code k =
    let size = length-append heads (replicate j w) in
    let more = length-replicate j w in
    record {
      marks = k.marks;
      frees = k.frees;
      once = k.once;
      cells = λ h ws is.
          let before = k.cells h ws is in
          record { run = before.run; sized = omega (arith, size, before.sized); stand = before.stand };
      free = k.free;
      free_once = k.free_once;
      chains = k.chains;
      first = λ n.
          ⊎_elim
          (λ there. inl (rw (get-append heads (replicate j w) n (stands_within heads n (λ x. IsCode x (link (k.frees n))) there)) there))
          (λ past. ⊎_elim
          (λ (within : n < length (heads ++ replicate j w)).
          let at : n ≡ length heads + (n - length heads) = omega (arith, past.0) in
          let none : StandsAt IsCode (heads ++ replicate j w) n value.Null =
          rw (at, get-append_right heads (replicate j w) (n - length heads)) (stands-replicate IsCode j w (n - length heads) (omega (arith, within, size, more, past.0)) code) in
          inl (rw past.1 none))
          (λ (beyond : length (heads ++ replicate j w) ≤ n). inr (beyond, past.1))
          (cases_lt n (length (heads ++ replicate j w))))
          (k.first n);
      counts = k.counts;
    }

-- ---- in a free run

-- Words are written over a run: all words outside stay.
pub sets_inside : {W : Type 0} {marks : ℕ → ℕ × ℕ} {a n : ℕ} (words new : List W) → IsRun marks (length words) a n → length new ≡ n → Outside marks a n words (sets words a new)
sets_inside {a = a} words new run size = record {
  len = length-sets new words a;
  same = λ j other.
      ⊎_elim
      (λ before. get-sets_before new words a j before)
      (λ from. ⊎_elim
      (λ (to : j < a + length new). absurd (other (run.marked j from (omega (arith, to, size)))))
      (λ beyond. get-sets_after new words a j beyond)
      (cases_lt j (a + length new)))
      (cases_lt j a);
}

pub kept-reused : {W : Type 0} (IsCode : W → Value → Type 0) {words heads : List W} {m : Heap} (a : ℕ) (w : W) (rest : List ℕ) (new : List W) (ws : List Value) → length new ≡ length ws → Stand IsCode new 0 ws → (k : Kept IsCode words heads m) → k.frees (length ws) ≡ a ∷ rest → IsCode w (link rest) → Kept IsCode (sets words a new) (set heads (length ws) w) (allocated m a ws) × (words_at m.cells a ≡ None) × (with_slot (length ws) m ≡ m.slots)
kept-reused IsCode {words} {heads} {m} a w rest new ws size codes k all code =
    let n = length ws in
    let now = sets words a new in
    let has_a : Has (k.frees n) a = rw all (inl refl) in
    let free_a = k.free n a has_a in
    let inside = free_a.run.within in
    let some = free_a.run.some in
    let out = sets_inside words new free_a.run size in
    let once_n : AreOnce (a ∷ rest) = let P : List ℕ → Type 0 = λ l. AreOnce l in subst P all (k.free_once n) in
    let sized : n < length heads = ⊎_elim
    (λ there. stands_within heads n (λ x. IsCode x (link (k.frees n))) there)
    (λ past. let clash : a ∷ rest ≡ [] = sym all ∙ past.1 in let never : ⊥ = cc in absurd never)
    (k.first n) in
    let has_rest = λ (c : ℕ) (has : Has rest c). let it : Has (k.frees n) c = rw all (inr has) in it in
    let not_a = λ (c : ℕ) (has : Has rest c) (e : c ≡ a). let P : ℕ → Type 0 = λ b. Has rest b in once_n.0 (subst P e has) in
    let other_size = λ (j c : ℕ) (other : j ≡ n → ⊥) (has : Has (k.frees j) c) (e : c ≡ a).
    let run_c = (k.free j c has).run in
    let some_c = run_c.some in
    let here = run_c.marked c (omega arith) (omega (arith, some_c)) in
    let there : k.marks c ≡ (a, n) = rw e (free_a.run.marked a (omega arith) (omega (arith, some))) in
    other (ap (λ (r : ℕ × ℕ). r.1) (sym here ∙ there)) in
    let still_free = λ (j c : ℕ) (other : c ≡ a → ⊥) (has : Has (k.frees j) c).
    let before = k.free j c has in
    let it : IsFree now k.marks (allocated m a ws) j c = record { run = run_kept out before.run; dead = words_at-new_other m.cells a c ws other ∙ before.dead } in it in
    let full_not : live_count n m.cells ≡ slot_count n m.slots → ⊥ = λ e.
    let count = k.counts n in
    let len : length (k.frees n) ≡ suc (length rest) = rw all refl in
    omega (arith, e, count, len) in
    let same_slots = with_slot-free m n full_not in
    let chain_n : Chain IsCode words (a ∷ rest) = let P : List ℕ → Type 0 = λ l. Chain IsCode words l in subst P all (k.chains n) in
    let kept : Kept IsCode now (set heads n w) (allocated m a ws) = record {
      marks = k.marks;
      frees = put_at n rest k.frees;
      once = (free_a.dead, k.once);
      cells = λ g us is.
          ⊎_elim
          (λ (e : g ≡ a).
          let at_handle : ℕ → Type 0 = λ b. words_at (allocated m a ws).cells b ≡ Some us in
          let same : Some ws ≡ Some us = sym (words_at-new_same m.cells a ws) ∙ subst at_handle e is in
          let stand : Stand IsCode now a ws = λ i v there.
          let at = is_within ws i v there in
          rw (get-sets_inside new words a i (omega (arith, inside, size)) (omega (arith, at, size)))
          (let start : 0 + i ≡ i = omega arith in let P : ℕ → Type 0 = λ p. StandsAt IsCode new p v in subst P start (codes i v there)) in
          let made : IsCell IsCode now (set heads n w) k.marks a ws = record { run = run_kept out free_a.run; sized = rw (length-set heads n w) sized; stand = stand } in
          let P : Option (List Value) → Type 0 = λ o. IsSomeAnd o (λ xs. IsCell IsCode now (set heads n w) k.marks g xs) in
          let Q : ℕ → Type 0 = λ b. IsCell IsCode now (set heads n w) k.marks b ws in
          subst P same (subst Q (sym e) made))
          (λ other.
          let before = k.cells g us (sym (words_at-new_other m.cells a g ws other) ∙ is) in
          record {
            run = run_kept out before.run;
            sized = rw (length-set heads n w) before.sized;
            stand = stand_kept IsCode us out before.run other before.stand;
          })
          (cases_eq g a);
      free = by_size (λ j l. (c : ℕ) → Has l c → IsFree now k.marks (allocated m a ws) j c) n rest k.frees
          (λ c has. still_free n c (not_a c has) (has_rest c has))
          (λ j other c has. still_free j c (other_size j c other has) has);
      free_once = by_size (λ j l. AreOnce l) n rest k.frees once_n.1 (λ j other. k.free_once j);
      chains = by_size (λ j l. Chain IsCode now l) n rest k.frees
          (chain_kept IsCode n rest out (λ c has. ((k.free n c (has_rest c has)).run, not_a c has)) chain_n.1)
          (λ j other. chain_kept IsCode j (k.frees j) out (λ c has. ((k.free j c has).run, other_size j c other has)) (k.chains j));
      first = first_set IsCode heads n w rest sized code k.frees k.first;
      counts = by_size (λ j l. slot_count j (with_slot n m) ≡ live_count j (allocated m a ws).cells + length l) n rest k.frees
          (let live = live_count-new_same m.cells a ws in
          let count = k.counts n in
          let len : length (k.frees n) ≡ suc (length rest) = rw all refl in
          rw same_slots (omega (arith, live, count, len)))
          (λ j other.
          let live = live_count-new_other m.cells a ws j other in
          let count = k.counts j in
          rw same_slots (omega (arith, live, count)));
    } in
    (kept, free_a.dead, same_slots)

-- ---- after all words

-- The new words are marked with their run.
abbrev pub more_marks : ℕ → ℕ → (ℕ → ℕ × ℕ) → ℕ → ℕ × ℕ
more_marks end n marks i = if ltb i end then marks i else (end, n)

pub run_more : {marks : ℕ → ℕ × ℕ} {end now a n : ℕ} (k : ℕ) → end ≤ now → IsRun marks end a n → IsRun (more_marks end k marks) now a n
run_more {marks} {end} {now} {a} {n} k le run =
    let within = run.within in
    record {
      some = run.some;
      within = omega (arith, within, le);
      marked = λ i from to. rw (lt-ltb i end (omega (arith, to, within))) (run.marked i from to);
    }

pub run_new : (marks : ℕ → ℕ × ℕ) {end now : ℕ} (k : ℕ) → 0 < k → end + k ≤ now → IsRun (more_marks end k marks) now end k
run_new marks {end} {now} k some within = record {
  some = some;
  within = within;
  marked = λ i from to. rw (le-ltb i end from) refl;
}

stands_more : {W : Type 0} (IsCode : W → Value → Type 0) (words new : List W) (i : ℕ) (v : Value) → StandsAt IsCode words i v → StandsAt IsCode (words ++ new) i v
stands_more IsCode words new i v stands = rw (get-append words new i (stands_within words i (λ x. IsCode x v) stands)) stands

chain_more : {W : Type 0} (IsCode : W → Value → Type 0) (words new : List W) (starts : List ℕ) → Chain IsCode words starts → Chain IsCode (words ++ new) starts
chain_more IsCode words new [] chain = chain
chain_more IsCode words new (a ∷ starts) chain = (stands_more IsCode words new a (link starts) chain.0, chain_more IsCode words new starts chain.1)

pub kept-new : {W : Type 0} (IsCode : W → Value → Type 0) {words heads : List W} {m : Heap} (new : List W) (ws : List Value) → 0 < length ws → length ws < length heads → length new ≡ length ws → Stand IsCode new 0 ws → (k : Kept IsCode words heads m) → k.frees (length ws) ≡ [] → Kept IsCode (words ++ new) heads (allocated m (length words) ws) × (words_at m.cells (length words) ≡ None) × (with_slot (length ws) m ≡ length ws ∷ m.slots)
kept-new IsCode {words} {heads} {m} new ws some sized size codes k none =
    let n = length ws in
    let end = length words in
    let now = words ++ new in
    let len = length-append words new in
    let more : end ≤ length now = omega (arith, len) in
    let marks = more_marks end n k.marks in
    let dead : words_at m.cells end ≡ None =
    elim (words_at m.cells end) as (λ o. words_at m.cells end ≡ o → o ≡ None) [
      | None ↦ λ e. refl
      | Some us ↦ λ e. let run = (k.cells end us e).run in let a = run.some in let b = run.within in absurd (omega (arith, a, b))
    ] refl in
    let full : live_count n m.cells ≡ slot_count n m.slots =
    let count = k.counts n in
    let len_none : length (k.frees n) ≡ 0 = rw none refl in
    omega (arith, count, len_none) in
    let one_more = with_slot-full m n full in
    let kept : Kept IsCode now heads (allocated m end ws) = record {
      marks = marks;
      frees = k.frees;
      once = (dead, k.once);
      cells = λ g us is.
          ⊎_elim
          (λ (e : g ≡ end).
          let at_handle : ℕ → Type 0 = λ b. words_at (allocated m end ws).cells b ≡ Some us in
          let same : Some ws ≡ Some us = sym (words_at-new_same m.cells end ws) ∙ subst at_handle e is in
          let stand : Stand IsCode now end ws = λ i v there.
          rw (get-append_right words new i)
          (let start : 0 + i ≡ i = omega arith in let P : ℕ → Type 0 = λ p. StandsAt IsCode new p v in subst P start (codes i v there)) in
          let made : IsCell IsCode now heads marks end ws = record { run = run_new k.marks n some (omega (arith, len, size)); sized = sized; stand = stand } in
          let P : Option (List Value) → Type 0 = λ o. IsSomeAnd o (λ xs. IsCell IsCode now heads marks g xs) in
          let Q : ℕ → Type 0 = λ b. IsCell IsCode now heads marks b ws in
          subst P same (subst Q (sym e) made))
          (λ other.
          let before = k.cells g us (sym (words_at-new_other m.cells end g ws other) ∙ is) in
          record {
            run = run_more n more before.run;
            sized = before.sized;
            stand = λ i v there. stands_more IsCode words new (g + i) v (before.stand i v there);
          })
          (cases_eq g end);
      free = λ j c has.
          let before = k.free j c has in
          let a = before.run.some in
          let b = before.run.within in
          record { run = run_more n more before.run; dead = words_at-new_other m.cells end c ws (λ e. omega (arith, e, a, b)) ∙ before.dead };
      free_once = k.free_once;
      chains = λ j. chain_more IsCode words new (k.frees j) (k.chains j);
      first = k.first;
      counts = λ j.
          ⊎_elim
          (λ (e : j ≡ n).
          let live = live_count-new_same m.cells end ws in
          let slot : slot_count n (n ∷ m.slots) ≡ suc (slot_count n m.slots) = rw (eq-eqb n n refl) refl in
          let count = k.counts n in
          let P : ℕ → Type 0 = λ i. slot_count i (with_slot n m) ≡ live_count i (allocated m end ws).cells + length (k.frees i) in
          subst P (sym e) (rw one_more (omega (arith, live, slot, count))))
          (λ other.
          let live = live_count-new_other m.cells end ws j other in
          let slot = slot_count-other m n j other in
          let count = k.counts j in
          omega (arith, live, slot, count))
          (cases_eq j n);
    } in
    (kept, dead, one_more)

-- ---- at the start

pub kept-none : {W : Type 0} (IsCode : W → Value → Type 0) → Kept IsCode [] [] no_heap
kept-none IsCode = record {
  marks = λ i. (0, 0);
  frees = λ n. [];
  once = tt;
  cells = λ h ws is. let never : ⊥ = cc in absurd never;
  free = λ n a has. absurd has;
  free_once = λ n. tt;
  chains = λ n. tt;
  first = λ n. inr (omega arith, refl);
  counts = λ n. refl;
}
