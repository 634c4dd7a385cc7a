-- Where conditions and choices lead.
use Rattle.std.proofs.Common.{◌≡◌, ℕ, suc, ◌+◌, ◌-◌, ◌<◌, Bool, true, false, List, ◌∷◌, length, map, take, drop, get_or, slice_range, Some, None, sym, ap, ◌∙◌, arith, ℤ, Ok, Err, if◌then◌else◌}
use Rattle.std.proofs.Math.Seq.{drop-cons}
use Rattle.slot_heap.specs.Heaps.{Heap}
use Rattle.run_codes.specs.Codes as codes
use Rattle.run_codes.specs.Codes.{Code}
use Rattle.run_codes.specs.Flat.{Given, Stops, is_between, constraint}
use Rattle.run_codes.specs.Points.{chosen}
use Rattle.code_rows.specs.declared.range.Range.{Range}
use Rattle.code_rows.specs.declared.point.Choice.{Choice}
use Rattle.code_rows.specs.declared.stop.Stop.{Stop}
use Rattle.code_rows.specs.Stops.{stop_of}
use Rattle.code_rows.specs.Points.{choice_of, some}
use Rattle.handled_runs.specs.Slots.{word}
use Rattle.slot_memory.specs.Memory.{Kept}
use Rattle.slot_words.specs.Reading.{Reads, Gives}
use Rattle.slot_points.specs.Changing.{Whole, Found}
use Rattle.slot_points.specs.Steps.{led_to, tested, led_by, chosen_by}
use Rattle.slot_points.proofs.Doing.{word_reads, word_found, first, found_stops, found_next}

-- The rows of a range are those that code cuts out.
pub range_is : {A : Type 0} (xs : List A) (r : Range) → slice_range xs r.first (r.first + r.count) ≡ some xs r
range_is xs r = ap (λ n. take n (drop r.first xs)) (less r.first r.count)
  where
    less : (a b : ℕ) → a + b - a ≡ b
    less a b = omega arith

-- ---- a condition

module _ {R : Type 0} (Means : R → Heap → Type 0) (m : Kept R) (c : Code) (holds fails : ℕ) where
  pub test_reads : Whole Means m (tested c holds fails) → Reads Means m c
  test_reads is = word_reads Means m c (first Means m (λ s. word s c) (λ s w. Given (led_to w holds fails)) is)

  pub test_stops : (e : Stop) → Gives Means m c (Err e) → Found Means m (tested c holds fails) (Err e)
  test_stops e gives = found_stops Means m (λ s. word s c) (λ s w. Given (led_to w holds fails)) e (word_found Means m c (Err e) gives)

  pub test_found : (w u : ℤ) (n : ℕ) → Gives Means m c (Ok w) → n ≡ led_to u holds fails → u ≡ w → Found Means m (tested c holds fails) (Ok n)
  test_found w u n gives e same =
      found_next Means m (λ s. word s c) (λ s w. Given (led_to w holds fails)) w (Ok n) (word_found Means m c (Ok w) gives)
      (record { found = λ g stands whole. ap (λ i. Given (led_to i holds fails)) (sym same) ∙ ap Given (sym e) })

-- ---- choices

module _ {R : Type 0} (Means : R → Heap → Type 0) (m : Kept R) (c : Code) (choices : List codes.Choice) where
  pub choose_reads : Whole Means m (chosen_by c choices) → Reads Means m c
  choose_reads is = word_reads Means m c (first Means m (λ s. word s c) (λ s w. led_by (chosen w choices)) is)

  pub choose_stops : (e : Stop) → Gives Means m c (Err e) → Found Means m (chosen_by c choices) (Err e)
  choose_stops e gives = found_stops Means m (λ s. word s c) (λ s w. led_by (chosen w choices)) e (word_found Means m c (Err e) gives)

  pub choose_some : (w u : ℤ) (n : ℕ) → Gives Means m c (Ok w) → Some n ≡ chosen u choices → u ≡ w → Found Means m (chosen_by c choices) (Ok n)
  choose_some w u n gives e same =
      found_next Means m (λ s. word s c) (λ s w. led_by (chosen w choices)) w (Ok n) (word_found Means m c (Ok w) gives)
      (record { found = λ g stands whole. ap (λ i. led_by (chosen i choices)) (sym same) ∙ ap led_by (sym e) })

  pub choose_none : (w u : ℤ) (x : Stop) → Gives Means m c (Ok w) → None ≡ chosen u choices → stop_of x ≡ constraint → u ≡ w → Found Means m (chosen_by c choices) (Err x)
  choose_none w u x gives e stop same =
      found_next Means m (λ s. word s c) (λ s w. led_by (chosen w choices)) w (Err x) (word_found Means m c (Ok w) gives)
      (record { found = λ g stands whole. ap (λ i. led_by (chosen i choices)) (sym same) ∙ (ap led_by (sym e) ∙ ap Stops (sym stop)) })

-- ---- the first choice that has a value, where some are passed

pub drop_one : {A : Type 0} (xs : List A) (i : ℕ) (d : A) → i < length xs → drop i xs ≡ get_or xs i d ∷ drop (i + 1) xs
drop_one xs i d lt = drop-cons xs i d lt ∙ ap (λ k. get_or xs i d ∷ drop k xs) (next i)
  where
    next : (i : ℕ) → suc i ≡ i + 1
    next i = omega arith

module _ (w : ℤ) (xs : List Choice) (i : ℕ) (d : Choice) (lt : i < length xs)
    (left : chosen w (map choice_of (drop i xs)) ≡ chosen w (map choice_of xs)) where
  first_is : chosen w (map choice_of (get_or xs i d ∷ drop (i + 1) xs)) ≡ chosen w (map choice_of xs)
  first_is = ap (λ cs. chosen w (map choice_of cs)) (sym (drop_one xs i d lt)) ∙ left

  decides : (b : Bool) → is_between (get_or xs i d).low (get_or xs i d).high w ≡ b
      → (if b then Some (get_or xs i d).next else chosen w (map choice_of (drop (i + 1) xs))) ≡ chosen w (map choice_of xs)
  decides b e =
      ap (λ (b : Bool). if b then Some (get_or xs i d).next else chosen w (map choice_of (drop (i + 1) xs))) (sym e) ∙ first_is

  pub picked : is_between (get_or xs i d).low (get_or xs i d).high w ≡ true → Some (get_or xs i d).next ≡ chosen w (map choice_of xs)
  picked e = decides true e

  pub passed : is_between (get_or xs i d).low (get_or xs i d).high w ≡ false
      → chosen w (map choice_of (drop (i + 1) xs)) ≡ chosen w (map choice_of xs)
  passed e = decides false e
