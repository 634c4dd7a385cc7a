-- The law: with each step the greatest counts rise to what there is.
use Rattle.std.proofs.Common.{◌≡◌, refl, sym, ap, ◌∙◌, subst, ℕ, zero, suc, ◌+◌, ◌≤◌, ◌==◌, arith, Bool, true, false, List, [], ◌∷◌, ◌++◌, drop, length, length-append, slice_set, ⊎_elim, if◌then◌else◌}
use Rattle.std.proofs.lemmas.Bool.{cases_eq}
use Rattle.std.proofs.lemmas.Bool.Decides.{nat_tests}
use Rattle.std.proofs.Math.Seq.{drop-append_seam, drop-length}
use Rattle.handled_runs.specs.type_definitions.Types.{Table}
use Rattle.handled_runs.specs.run_values.declared.value.Value.{Value}
use Rattle.handled_runs.specs.machine.Memory.{Peak}
use Rattle.handled_runs.specs.slot_heap.Heaps.{Heap, live_count, slot_count, written, allocated, released}
use Rattle.handled_runs.proofs.slot_heap.Heaps.{live_count-changed}
use Rattle.handled_runs.proofs.slot_heap.Made.{live_count-new_same, live_count-new_other}
use Rattle.handled_runs.proofs.slot_heap.Greatest.{live_count-without}
use Rattle.handled_runs.specs.numbered_cells.Peaks.{peak_of}
use Rattle.handled_runs.proofs.numbered_cells.Peaks.{greatest_same, greatest_other}
use Rattle.handled_runs.specs.run_codes.Points.{Frame}
use Rattle.handled_runs.specs.run_codes.Programs.{Program}
use Rattle.handled_runs.specs.Slots.{Slots}
use Rattle.handled_runs.specs.Changes.{with_peak}
use Rattle.handled_steps.specs.States.{State, Outcome, Goes, Ends, Wants, Fails}
use Rattle.handled_steps.specs.Steps.{Stepped}
use Rattle.handled_steps.specs.Rises.{top, AreUnder, count_with, RisesTo}
use Rattle.handled_steps.proofs.Keeping.{Keeping, EndsKept}
use Rattle.handled_steps.proofs.KeepSteps.{step_kept}

-- ---- numbers

top_same : (a b : ℕ) → b ≤ a → a ≡ top a b
top_same a b less = grind (arith, nat_tests)

top_twice : (a b : ℕ) → top (top a b) (suc b) ≡ top a (suc b)
top_twice a b = grind (arith, nat_tests)

-- ---- lists

drop_next : (k : ℕ) (xs : List ℕ) (x : ℕ) → k ≤ length xs → drop k (xs ++ x ∷ []) ≡ drop k xs ++ x ∷ []
drop_next zero xs x less = refl
drop_next (suc k) [] x less = absurd (omega (arith, less))
drop_next (suc k) (y ∷ xs) x less = drop_next k xs x (omega (arith, less))

count_same : (xs : List ℕ) (x : ℕ) → slot_count x (xs ++ x ∷ []) ≡ suc (slot_count x xs)
count_same [] x = grind (arith, nat_tests)
count_same (y ∷ xs) x = let rest = count_same xs x in by (y == x) rest
  where
    by : (b : Bool) → slot_count x (xs ++ x ∷ []) ≡ suc (slot_count x xs)
        → (if b then suc (slot_count x (xs ++ x ∷ [])) else slot_count x (xs ++ x ∷ [])) ≡ suc (if b then suc (slot_count x xs) else slot_count x xs)
    by true rest = ap suc rest
    by false rest = rest

count_other : (xs : List ℕ) (x n : ℕ) → (n ≡ x → ⊥) → slot_count n (xs ++ x ∷ []) ≡ slot_count n xs
count_other [] x n other = grind (arith, nat_tests)
count_other (y ∷ xs) x n other = let rest = count_other xs x n other in by (y == n) rest
  where
    by : (b : Bool) → slot_count n (xs ++ x ∷ []) ≡ slot_count n xs → (if b then suc (slot_count n (xs ++ x ∷ [])) else slot_count n (xs ++ x ∷ [])) ≡ (if b then suc (slot_count n xs) else slot_count n xs)
    by true rest = ap suc rest
    by false rest = rest

-- ---- what is kept

module _ (before : Slots) (under : AreUnder before) where
  abbrev old : ℕ → ℕ
  old n = live_count n before.heap.cells

  record Same (m : Heap) (p : List Peak) (x : List ℕ) : Type 0 where
    pub peaks : p ≡ before.peaks
    pub sizes : x ≡ before.sizes
    pub live : (n : ℕ) → live_count n m.cells ≡ old n

  record Risen (m : Heap) (p : List Peak) (x : List ℕ) : Type 0 where
    pub front : length before.sizes ≤ length x
    pub live : (n : ℕ) → live_count n m.cells ≡ count_with before x n
    pub rises : (n : ℕ) → peak_of n p ≡ top (peak_of n before.peaks) (live_count n m.cells)

  written_live : (m : Heap) (h o : ℕ) (v : Value) (n : ℕ) → live_count n (written m h o v).cells ≡ live_count n m.cells
  written_live m h o v n = live_count-changed _ n m.cells h (λ ws. long ws o v)
    where
      long : (ws : List Value) (o : ℕ) (v : Value) → length (slice_set ws o v) ≡ length ws
      long [] o v = refl
      long (w ∷ ws) zero v = refl
      long (w ∷ ws) (suc o) v = ap suc (long ws o v)

  itself : (n : ℕ) → n ≤ n
  itself n = omega arith

  none_since : (n : ℕ) → old n ≡ count_with before before.sizes n
  none_since n = let none : slot_count n (drop (length before.sizes) before.sizes) ≡ 0 = ap (slot_count n) (drop-length before.sizes) in omega (arith, none)

  first : (m : Heap) (p : List Peak) (x : List ℕ) → Same m p x → Risen m p x
  first m p x is = record {
    front = subst (λ (y : List ℕ). length before.sizes ≤ length y) (sym is.sizes) (itself (length before.sizes));
    live = λ n. is.live n ∙ (none_since n ∙ ap (λ y. count_with before y n) (sym is.sizes));
    rises = λ n. ap (peak_of n) is.peaks ∙ top_same (peak_of n before.peaks) (live_count n m.cells) (subst (λ k. k ≤ peak_of n before.peaks) (sym (is.live n)) (under n));
  }

  module _ (m : Heap) (p : List Peak) (x : List ℕ) (h : ℕ) (ws : List Value) (is : Risen m p x) where
    abbrev now : Heap
    now = allocated m h ws

    abbrev size : ℕ
    size = length ws

    next_sizes : drop (length before.sizes) (x ++ size ∷ []) ≡ drop (length before.sizes) x ++ size ∷ []
    next_sizes = drop_next (length before.sizes) x size is.front

    one_live : (n : ℕ) → n ≡ size → live_count n now.cells ≡ suc (live_count n m.cells)
    one_live n same = subst (λ k. live_count k now.cells ≡ suc (live_count k m.cells)) (sym same) (let one = live_count-new_same m.cells h ws in omega (arith, one))

    made_live : (n : ℕ) → live_count n now.cells ≡ count_with before (x ++ size ∷ []) n
    made_live n = ⊎_elim
        (λ (same : n ≡ size).
        let one = one_live n same in
        let last = is.live n in
        let sizes : slot_count n (drop (length before.sizes) (x ++ size ∷ [])) ≡ suc (slot_count n (drop (length before.sizes) x)) =
        ap (slot_count n) next_sizes ∙ subst (λ k. slot_count k (drop (length before.sizes) x ++ size ∷ []) ≡ suc (slot_count k (drop (length before.sizes) x))) (sym same) (count_same (drop (length before.sizes) x) size) in
        omega (arith, one, last, sizes))
        (λ other.
        let one = live_count-new_other m.cells h ws n other in
        let last = is.live n in
        let sizes : slot_count n (drop (length before.sizes) (x ++ size ∷ [])) ≡ slot_count n (drop (length before.sizes) x) =
        ap (slot_count n) next_sizes ∙ count_other (drop (length before.sizes) x) size n other in
        omega (arith, one, last, sizes))
        (cases_eq n size)

    made_rises : (n : ℕ) → peak_of n (with_peak now ws p) ≡ top (peak_of n before.peaks) (live_count n now.cells)
    made_rises n = ⊎_elim
        (λ (same : n ≡ size).
        subst (λ k. peak_of k (with_peak now ws p) ≡ top (peak_of k before.peaks) (live_count k now.cells)) (sym same)
        (greatest_same size (live_count size now.cells) p
        ∙ (ap (λ k. top k (live_count size now.cells)) (is.rises size)
        ∙ (ap (λ k. top (top (peak_of size before.peaks) (live_count size m.cells)) k) (one_live size refl)
        ∙ (top_twice (peak_of size before.peaks) (live_count size m.cells) ∙ ap (top (peak_of size before.peaks)) (sym (one_live size refl)))))))
        (λ other.
        greatest_other size (live_count size now.cells) n p other ∙ (is.rises n ∙ ap (top (peak_of n before.peaks)) (sym (live_count-new_other m.cells h ws n other))))
        (cases_eq n size)

    made_risen : Risen now (with_peak now ws p) (x ++ size ∷ [])
    made_risen =
        let less = is.front in
        let count = length-append x (size ∷ []) in
        record { front = omega (arith, less, count); live = made_live; rises = made_rises }

  rises_kept : Keeping before
  rises_kept = record {
    still = Same;
    mid = Risen;
    after = λ m p x. (n : ℕ) → peak_of n p ≡ top (peak_of n before.peaks) (live_count n m.cells);
    end = λ m p x. (n : ℕ) → peak_of n p ≡ top (peak_of n before.peaks) (count_with before x n);
    still_written = λ m p x h o v is. record { peaks = is.peaks; sizes = is.sizes; live = λ n. written_live m h o v n ∙ is.live n };
    mid_written = λ m p x h o v is. record {
      front = is.front;
      live = λ n. written_live m h o v n ∙ is.live n;
      rises = λ n. is.rises n ∙ ap (top (peak_of n before.peaks)) (sym (written_live m h o v n));
    };
    begins = first;
    makes = made_risen;
    frees = λ m p x h is n. ap (peak_of n) is.peaks
        ∙ top_same (peak_of n before.peaks) (live_count n (released m h).cells)
        (let fewer = live_count-without n m.cells h in let same = is.live n in let most = under n in omega (arith, fewer, same, most));
    goes = λ m p x is. is.rises;
    ends = λ m p x is n. is.rises n ∙ ap (top (peak_of n before.peaks)) (is.live n);
    gives_up = λ m p x is n. is.rises n
        ∙ ap (top (peak_of n before.peaks)) (is.live n ∙ ap (λ y. old n + slot_count n y) (sym (drop-append_seam before.sizes (drop (length before.sizes) x))));
  }

-- ---- steps

module _ (table : Table) (program : Program) (input : List ℕ) where
  pub step_rises : (s : State) (frames : List Frame) (r : Outcome) → AreUnder s.memory → Stepped table program input s frames r → RisesTo s.memory r
  unfolding rises_kept
  step_rises s frames r under so =
      by r (step_kept table program input s (rises_kept s.memory under) (record { peaks = refl; sizes = refl; live = λ n. refl }) frames r so)
    where
      by : (r : Outcome) → EndsKept (rises_kept s.memory under) r → RisesTo s.memory r
      by (Goes t) is = is
      by (Ends e t) is = is
      by Wants is = tt
      by Fails is = tt
