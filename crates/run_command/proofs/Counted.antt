-- The slots of a heap are those that a run needs, where each size has as many as its greatest count.
use Rattle.std.proofs.Common.{◌≡◌, ◌∙◌, refl, sym, ap, ℕ, ◌+◌, ◌<◌, List, [], ◌∷◌, length, map, not, ◌==◌, arith, ⊎_elim}
use Rattle.std.specs.Prelude.{filter, sum_by}
use Rattle.std.proofs.lemmas.List.Sums.{sum_by-cons}
use Rattle.std.proofs.lemmas.Bool.{cases_eq}
use Rattle.std.proofs.lemmas.Bool.Decides.{nat_tests}
use Rattle.flow_paths.specs.Laid.{FlowProgram}
use Rattle.machine.specs.Memory.{Peak}
use Rattle.machine.specs.Run.{run}
use Rattle.numbered_cells.specs.Peaks.{peak_of}
use Rattle.slot_heap.specs.Heaps.{Heap, Knows, Always, slot_count}
use Rattle.slot_execute.specs.Left.{LeavesHeap}
use Rattle.run_command.specs.Counts.{each_once, sizes_of, slots_of}

-- ---- how often a size stands among slots, added up over sizes

abbrev added : List ℕ → List ℕ → ℕ
added slots sizes = sum_by (λ n. slot_count n slots) sizes

added_none : (sizes : List ℕ) → added [] sizes ≡ 0
added_none [] = refl
added_none (n ∷ sizes) = let more = sum_by-cons (λ n. slot_count n []) n sizes in let rest = added_none sizes in omega (arith, more, rest)

added_more : (k : ℕ) (slots sizes : List ℕ) → added (k ∷ slots) sizes ≡ slot_count k sizes + added slots sizes
added_more k slots [] = refl
added_more k slots (n ∷ sizes) =
    let rest = added_more k slots sizes in
    let one = sum_by-cons (λ n. slot_count n (k ∷ slots)) n sizes in
    let other = sum_by-cons (λ n. slot_count n slots) n sizes in
    more (added (k ∷ slots) (n ∷ sizes)) (added slots (n ∷ sizes)) (added (k ∷ slots) sizes) (added slots sizes) one other rest
  where
    more : (a b c d : ℕ) → a ≡ slot_count n (k ∷ slots) + c → b ≡ slot_count n slots + d → c ≡ slot_count k sizes + d → a ≡ slot_count k (n ∷ sizes) + b
    more a b c d one other rest = grind (arith, nat_tests)

counts_itself : (k : ℕ) (slots : List ℕ) → 0 < slot_count k (k ∷ slots)
counts_itself k slots = grind (arith, nat_tests)

counts_more : (j k : ℕ) (slots : List ℕ) → 0 < slot_count j slots → 0 < slot_count j (k ∷ slots)
counts_more j k slots some = grind (arith, nat_tests)

-- where each size of a slot is one of them, they are all slots
all_added : (slots sizes : List ℕ) → ((k : ℕ) → 0 < slot_count k slots → slot_count k sizes ≡ 1) → added slots sizes ≡ length slots
all_added [] sizes once = added_none sizes
all_added (k ∷ slots) sizes once =
    let more = added_more k slots sizes in
    let one = once k (counts_itself k slots) in
    let rest = all_added slots sizes (λ j some. once j (counts_more j k slots some)) in
    grind arith

-- ---- each number once

count_without : (k n : ℕ) (xs : List ℕ) → (k ≡ n → ⊥) → slot_count k (filter (λ j. not (j == n)) xs) ≡ slot_count k xs
count_without k n [] other = refl
count_without k n (x ∷ xs) other = let rest = count_without k n xs other in grind (arith, nat_tests)

count_itself_without : (n : ℕ) (xs : List ℕ) → slot_count n (filter (λ j. not (j == n)) xs) ≡ 0
count_itself_without n [] = refl
count_itself_without n (x ∷ xs) = let rest = count_itself_without n xs in grind (arith, nat_tests)

is_once : (k : ℕ) (xs : List ℕ) → 0 < slot_count k xs → slot_count k (each_once xs) ≡ 1
is_once k [] some = grind arith
is_once k (x ∷ xs) some =
    ⊎_elim
    (λ (e : k ≡ x). let none = count_itself_without x (each_once xs) in grind (arith, nat_tests))
    (λ other. let same = count_without k x (each_once xs) other in let rest = is_once k xs in grind (arith, nat_tests))
    (cases_eq k x)

-- ---- the greatest counts

sized : (k : ℕ) (peaks : List Peak) → 0 < peak_of k peaks → 0 < slot_count k (map (λ (p : Peak). p.size) peaks)
sized k [] some = some
sized k (p ∷ peaks) some = let rest = sized k peaks in grind (arith, nat_tests)

same_sum : (f g : ℕ → ℕ) → ((n : ℕ) → f n ≡ g n) → (sizes : List ℕ) → sum_by f sizes ≡ sum_by g sizes
same_sum f g same [] = refl
same_sum f g same (n ∷ sizes) =
    sum_by-cons f n sizes ∙ ap (λ k. k + sum_by f sizes) (same n) ∙ ap (λ k. g n + k) (same_sum f g same sizes) ∙ sym (sum_by-cons g n sizes)

pub slots_counted : (peaks : List Peak) (slots : List ℕ) → ((n : ℕ) → slot_count n slots ≡ peak_of n peaks) → length slots ≡ slots_of peaks
slots_counted peaks slots are =
    sym (all_added slots (sizes_of peaks) (λ k some. is_once k (map (λ (p : Peak). p.size) peaks) (sized k peaks (few k some))))
    ∙ same_sum (λ n. slot_count n slots) (λ n. peak_of n peaks) are (sizes_of peaks)
  where
    few : (k : ℕ) → 0 < slot_count k slots → 0 < peak_of k peaks
    few k some = let same = are k in grind arith

-- The slots of a store that means what a run leaves.
pub slots_known : {S : Type 0} (Means : S → Heap → Type 0) (s : S) (program : FlowProgram) (input : List ℕ) (steps count : ℕ)
    → Knows Means s (LeavesHeap program input steps) → Always Means s (λ m. count ≡ length m.slots) → count ≡ slots_of (run program input steps).peaks
slots_known Means s program input steps count known is =
    is known.0 known.1.0 ∙ slots_counted (run program input steps).peaks known.0.slots known.1.1.slots
