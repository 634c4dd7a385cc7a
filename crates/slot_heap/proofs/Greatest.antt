-- The slots of a size are the greatest count of live cells of that size.
use Rattle.std.proofs.Common.{◌≡◌, ℕ, suc, ◌<◌, ◌≤◌, ◌⊎◌, List, [], ◌∷◌, length, slice_set, refl, sym, ap, subst, ◌∙◌, arith, inl, inr, ⊎_elim, length-set}
use Rattle.std.proofs.lemmas.Bool.{cases_eq, cases_lt, eq-eqb}
use Rattle.std.proofs.lemmas.Bool.Decides.{nat_tests}
use Rattle.run_values.specs.declared.value.Value.{Value}
use Rattle.slot_heap.specs.Heaps.{Cell, Heap, no_heap, allocated, written, released, with_slot, without, live_count, slot_count}
use Rattle.slot_heap.proofs.Heaps.{live_count-changed}
use Rattle.slot_heap.proofs.Made.{live_count-new_same, live_count-new_other, slot_count-other, with_slot-full, with_slot-free}

-- No more cells of a size are live than there are slots. It is so without cells, and stays so.
abbrev pub IsEnough : Heap → Type 0
IsEnough m = (n : ℕ) → live_count n m.cells ≤ slot_count n m.slots

-- The greater one of two numbers.
pub record IsGreater (a b c : ℕ) : Type 0 where
  pub first : a ≤ c
  pub second : b ≤ c
  pub one : (c ≡ a) ⊎ (c ≡ b)

pub enough-none : IsEnough no_heap
enough-none n = omega arith

pub live_count-without : (n : ℕ) (cells : List Cell) (h : ℕ) → live_count n (without cells h) ≤ live_count n cells
live_count-without n [] h = omega arith
live_count-without n (c ∷ cells) h =
    let others = live_count-without n cells h in
    grind (arith, nat_tests)

pub enough-written : (m : Heap) (h at : ℕ) (v : Value) → IsEnough m → IsEnough (written m h at v)
enough-written m h at v enough n =
    let f : List Value → List Value = λ ws. slice_set ws at v in
    let same = live_count-changed f n m.cells h (λ ws. length-set ws at v) in
    omega (arith, same, enough n)

pub enough-released : (m : Heap) (h : ℕ) → IsEnough m → IsEnough (released m h)
enough-released m h enough n = omega (arith, live_count-without n m.cells h, enough n)

-- With each new cell, the slots of each size are the greater one of what they were and of what is
-- live now.
pub slots_greatest : (m : Heap) (h : ℕ) (ws : List Value) (n : ℕ) → IsEnough m → IsGreater (slot_count n m.slots) (live_count n (allocated m h ws).cells) (slot_count n (allocated m h ws).slots)
slots_greatest m h ws n enough =
    let size = length ws in
    ⊎_elim
    (λ (e : n ≡ size).
    let live = live_count-new_same m.cells h ws in
    let all : IsGreater (slot_count size m.slots) (live_count size (allocated m h ws).cells) (slot_count size (with_slot size m)) =
    ⊎_elim
    (λ (full : live_count size m.cells ≡ slot_count size m.slots).
    let slot : slot_count size (size ∷ m.slots) ≡ suc (slot_count size m.slots) = rw (eq-eqb size size refl) refl in
    let more : slot_count size (with_slot size m) ≡ suc (slot_count size m.slots) = ap (slot_count size) (with_slot-full m size full) ∙ slot in
    record { first = omega (arith, more); second = omega (arith, more, live, full); one = inr (omega (arith, more, live, full)) })
    (λ free.
    let same : slot_count size (with_slot size m) ≡ slot_count size m.slots = ap (slot_count size) (with_slot-free m size free) in
    let less = enough size in
    let below : live_count size m.cells < slot_count size m.slots = ⊎_elim (λ (lt : live_count size m.cells < slot_count size m.slots). lt) (λ (ge : slot_count size m.slots ≤ live_count size m.cells). absurd (free (omega (arith, less, ge)))) (cases_lt (live_count size m.cells) (slot_count size m.slots)) in
    record { first = omega (arith, same); second = omega (arith, same, live, below); one = inl same })
    (cases_eq (live_count size m.cells) (slot_count size m.slots)) in
    let P : ℕ → Type 0 = λ k. IsGreater (slot_count k m.slots) (live_count k (allocated m h ws).cells) (slot_count k (with_slot size m)) in
    subst P (sym e) all)
    (λ other.
    let live = live_count-new_other m.cells h ws n other in
    let slot = slot_count-other m size n other in
    let less = enough n in
    record { first = omega (arith, slot); second = omega (arith, slot, live, less); one = inl slot })
    (cases_eq n size)

pub enough-allocated : (m : Heap) (h : ℕ) (ws : List Value) → IsEnough m → IsEnough (allocated m h ws)
enough-allocated m h ws enough n = (slots_greatest m h ws n enough).second
