-- With each new cell, the slots of each size number the greatest count of live cells of that size.
use Rattle.std.proofs.Common.{◌≡◌, ℕ, nat_le, if◌then◌else◌, List, [], ◌∷◌, length, refl, sym, ap, subst, ◌∙◌, arith, ⊎_elim}
use Rattle.std.proofs.lemmas.Bool.{cases_eq}
use Rattle.std.proofs.lemmas.Bool.Decides.{nat_tests}
use Rattle.run_values.specs.declared.value.Value.{Value}
use Rattle.machine.specs.Memory.{Peak, greatest}
use Rattle.slot_heap.specs.Heaps.{Heap, no_heap, allocated, live_count, slot_count}
use Rattle.slot_heap.proofs.Made.{slot_count-other}
use Rattle.slot_heap.proofs.Greatest.{IsEnough, IsGreater, slots_greatest}
use Rattle.numbered_cells.specs.Peaks.{peak_of, ArePeaks}

greater_is : (a b c : ℕ) → IsGreater a b c → c ≡ (if nat_le a b then b else a)
greater_is a b c is =
    let first = is.first in
    let second = is.second in
    ⊎_elim (λ (e : c ≡ a). grind (arith, nat_tests)) (λ (e : c ≡ b). grind (arith, nat_tests)) is.one

pub greatest_same : (size count : ℕ) (peaks : List Peak) → peak_of size (greatest size count peaks) ≡ (if nat_le (peak_of size peaks) count then count else peak_of size peaks)
greatest_same size count [] = grind (arith, nat_tests)
greatest_same size count (p ∷ rest) =
    let others = greatest_same size count rest in
    grind (arith, nat_tests)

pub greatest_other : (size count n : ℕ) (peaks : List Peak) → (n ≡ size → ⊥) → peak_of n (greatest size count peaks) ≡ peak_of n peaks
greatest_other size count n [] other = grind (arith, nat_tests)
greatest_other size count n (p ∷ rest) other =
    let others = greatest_other size count n rest other in
    grind (arith, nat_tests)

pub peaks-none : ArePeaks [] no_heap
peaks-none n = refl

-- The machine keeps the greatest counts so.
pub peaks-allocated : (peaks : List Peak) (m : Heap) (h : ℕ) (ws : List Value) → IsEnough m → ArePeaks peaks m
    → ArePeaks (greatest (length ws) (live_count (length ws) (allocated m h ws).cells) peaks) (allocated m h ws)
peaks-allocated peaks m h ws enough are n =
    let count : ℕ = live_count (length ws) (allocated m h ws).cells in
    ⊎_elim
    (λ (e : n ≡ length ws).
    let here : slot_count (length ws) (allocated m h ws).slots ≡ peak_of (length ws) (greatest (length ws) count peaks) =
    greater_is (slot_count (length ws) m.slots) count (slot_count (length ws) (allocated m h ws).slots) (slots_greatest m h ws (length ws) enough)
    ∙ ap (λ i. if nat_le i count then count else i) (are (length ws))
    ∙ sym (greatest_same (length ws) count peaks) in
    subst (λ i. slot_count i (allocated m h ws).slots ≡ peak_of i (greatest (length ws) count peaks)) (sym e) here)
    (λ other. slot_count-other m (length ws) n other ∙ are n ∙ sym (greatest_other (length ws) count n peaks other))
    (cases_eq n (length ws))
