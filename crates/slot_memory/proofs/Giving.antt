-- What is kept beside the store stays right, where the cells of a step are freed.
use Rattle.std.proofs.Common.{◌≡◌, ℕ, zero, suc, ◌+◌, ◌<◌, ◌≤◌, ◌^◌, Some, IsSomeAnd, List, [], ◌∷◌, length, get_or, refl, sym, subst, ◌∙◌, arith}
use Rattle.run_values.specs.declared.value.Value.{Value}
use Rattle.slot_heap.specs.Heaps.{Heap, words_at, IsLive}
use Rattle.slot_heap.specs.Runs.{IsOnce}
use Rattle.slot_heap.proofs.Places.{some_split}
use Rattle.made_cells.specs.Since.{cells_to}
use Rattle.slot_memory.specs.Cells.{Cells, Keep, KnowsCells, IsFreed}
use Rattle.slot_memory.specs.Given.{AreLive}
use Rattle.slot_memory.proofs.Heaps.{size_words}
use Rattle.slot_memory.proofs.Given.{left_below, none_below, small_kept, given_next, live_now, past_all}

past_zero : (xs : List ℕ) (h : ℕ) → length xs ≤ h → get_or xs h 0 ≡ 0
past_zero [] h less = refl
past_zero (x ∷ xs) zero less = absurd (omega (arith, less))
past_zero (x ∷ xs) (suc h) less = past_zero xs h (omega (arith, less))

module _ {R : Type 0} (Means : R → Heap → Type 0) (k : ℕ) (heap : Heap) (numbers : ℕ → ℕ) where
  abbrev left : ℕ → Heap
  left i = record heap { cells = left_below k numbers i heap.cells }

  live_words : (h : ℕ) → AreLive k heap numbers → k < numbers h → (ws : List Value) × (words_at heap.cells h ≡ Some ws)
  live_words h live more = let both = some_split (words_at heap.cells h) (λ ws. ws ≡ ws) (live h more) in (both.0, both.1)

  pub first_keep : (c : Cells R) → Keep Means c heap numbers → Keep Means c (left 0) numbers
  first_keep c keep = subst (λ cells. Keep Means c (record heap { cells = cells }) numbers) (sym (none_below k numbers heap.cells)) keep

  pub small_live : (c : Cells R) (h : ℕ) → Keep Means c heap numbers → AreLive k heap numbers → k < numbers h → h < 2 ^ 62
  small_live c h keep live more = let words = live_words h live more in (keep.sized h (length words.0) (size_words heap.cells h words.0 words.1)).small

  live_left : (i : ℕ) → AreLive k heap numbers → k < numbers i → (ws : List Value) × (words_at (left i).cells i ≡ Some ws)
  live_left i live more = let words = live_words i live more in (words.0, live_now k numbers i heap.cells words.0 words.1)

  pub can_free : (c : Cells R) (i h : ℕ) → h ≡ i → Keep Means c (left i) numbers → AreLive k heap numbers → k < numbers i → KnowsCells Means c (λ m. IsLive m h)
  can_free c i h same keep live more =
      let words = live_left i live more in
      (left i, (numbers, (keep, subst (λ j. IsLive (left i) j) (sym same) (subst (λ x. IsSomeAnd x (λ ws. ws ≡ ws)) (sym words.1) (refl {a = words.0})))))

  pub given_step : (c n : Cells R) (i h : ℕ) → h ≡ i → IsOnce heap.cells → Keep Means c (left i) numbers → AreLive k heap numbers → k < numbers i → IsFreed Means c h n → Keep Means n (left (i + 1)) numbers
  given_step c n i h same once keep live more freed =
      let words = live_left i live more in
      let now : IsFreed Means c i n = subst (λ j. IsFreed Means c j n) same freed in
      subst (λ cells. Keep Means n (record heap { cells = cells }) numbers) (given_next k numbers i heap.cells once more) (now.keep (left i) numbers words.0 keep words.1)

  pub kept_step : (c : Cells R) (i : ℕ) → Keep Means c (left i) numbers → numbers i ≤ k → Keep Means c (left (i + 1)) numbers
  kept_step c i keep less = subst (λ cells. Keep Means c (record heap { cells = cells }) numbers) (small_kept k numbers i heap.cells less) keep

  pub last_keep : (old c : Cells R) (i : ℕ) → Keep Means old heap numbers → length old.numbers ≤ i → Keep Means c (left i) numbers → Keep Means c (record heap { cells = cells_to k numbers heap.cells }) numbers
  last_keep old c i first past keep =
      subst (λ cells. Keep Means c (record heap { cells = cells }) numbers) (past_all k numbers i heap.cells (λ h high. small (numbers h) (first.numbered h ∙ past_zero old.numbers h (after (length old.numbers) i h past high)))) keep
    where
      small : (n : ℕ) → n ≡ 0 → n ≤ k
      small n is = omega (arith, is)

      after : (a b c : ℕ) → a ≤ b → b ≤ c → a ≤ c
      after a b c first second = omega (arith, first, second)
