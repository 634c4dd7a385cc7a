-- What two runs leave, by hand.
use Rattle.std.proofs.Common.{◌≡◌, refl, ap, ◌∙◌, ℕ, zero, suc, ◌==◌, Bool, true, false, true≢false, arith, List, [], ◌∷◌, map, Some, None, pos, if◌then◌else◌}
use Rattle.std.proofs.lemmas.Bool.{false≢true}
use Rattle.std.specs.Prelude.{is_some}
use Rattle.kept_cells.specs.run_values.declared.value.Value.{Value}
use Rattle.kept_cells.specs.run_values.declared.value.Value.TheVariants as value
use Rattle.machine.specs.Words.{Word, Int, Null, Cell}
use Rattle.machine.specs.Memory.{Slot, HeapCell}
use Rattle.numbered_cells.specs.slot_heap.Heaps.{Heap, words_at}
use Rattle.recycled_runs.specs.RecycledCells.Cells.{handled_slot, IsThere, IsBack, HasCells}

abbrev there : Word → Slot
there w = record { word = w; gone = false }

abbrev moved : Word → Slot
moved w = record { word = w; gone = true }

abbrev live : List Slot → HeapCell
live slots = record { of = 0; slots = slots; freed = false }

abbrev freed : List Slot → HeapCell
freed slots = record { of = 0; slots = slots; freed = true }

-- A list of two: the first cell was freed, and the third one has its handle now.
abbrev first : HeapCell
first = freed (there (Int (pos 1)) ∷ there Null ∷ [])

abbrev second : HeapCell
second = live (there (Int (pos 5)) ∷ there Null ∷ [])

abbrev third : HeapCell
third = live (there (Int (pos 7)) ∷ there (Cell 2) ∷ [])

abbrev cells : List HeapCell
cells = first ∷ second ∷ third ∷ []

abbrev heap : Heap
heap = record {
  cells = record { handle = 0; words = value.Int (pos 7) ∷ value.Cell 2 ∷ [] } ∷ record { handle = 2; words = value.Int (pos 5) ∷ value.Null ∷ [] } ∷ [];
  slots = 2 ∷ 2 ∷ [];
}

abbrev handle : ℕ → ℕ
handle zero = 0
handle (suc zero) = 2
handle (suc (suc n)) = 0

some_same : {A : Type 0} (a b : A) → Some a ≡ Some b → a ≡ b
some_same a b is = cc

is_live : (c d : HeapCell) → Some c ≡ Some d → d.freed ≡ false → c.freed ≡ false
is_live c d is there = ap (λ (x : HeapCell). x.freed) (some_same c d is) ∙ there

none_some : {A : Type 0} (a : A) → None ≡ Some a → ⊥
none_some a is = false≢true (ap is_some is)

two_zero : ◌≡◌ {A = ℕ} 2 0 → ⊥
two_zero is = omega (arith, is)

zero_two : ◌≡◌ {A = ℕ} 0 2 → ⊥
zero_two is = omega (arith, is)

equal : (n h : ℕ) → (n == h) ≡ true → n ≡ h
equal n h is = grind arith

listed : HasCells cells heap
listed = record { handle = handle; live = words; once = once; back = back }
  where
    words : (n : ℕ) (c : HeapCell) → IsThere cells n c → words_at heap.cells (handle n) ≡ Some (map (handled_slot handle) c.slots)
    words zero c is = absurd (true≢false (is_live first c is.0 is.1))
    words (suc zero) c is = ap (λ (x : HeapCell). Some (map (handled_slot handle) x.slots)) (some_same second c is.0)
    words (suc (suc zero)) c is = ap (λ (x : HeapCell). Some (map (handled_slot handle) x.slots)) (some_same third c is.0)
    words (suc (suc (suc n))) c is = absurd (none_some c is.0)

    once : (n k : ℕ) (c d : HeapCell) → IsThere cells n c → IsThere cells k d → handle n ≡ handle k → n ≡ k
    once zero k c d one two same = absurd (true≢false (is_live first c one.0 one.1))
    once (suc n) zero c d one two same = absurd (true≢false (is_live first d two.0 two.1))
    once (suc zero) (suc zero) c d one two same = refl
    once (suc zero) (suc (suc k)) c d one two same = absurd (two_zero same)
    once (suc (suc n)) (suc zero) c d one two same = absurd (zero_two same)
    once (suc (suc zero)) (suc (suc zero)) c d one two same = refl
    once (suc (suc (suc n))) (suc (suc k)) c d one two same = absurd (none_some c one.0)
    once (suc (suc zero)) (suc (suc (suc k))) c d one two same = absurd (none_some d two.0)

    back : (h : ℕ) (vs : List Value) → words_at heap.cells h ≡ Some vs → IsBack handle cells h
    back h vs is = by (0 == h) refl (2 == h) refl is
      where
        by : (a : Bool) → (0 == h) ≡ a → (b : Bool) → (2 == h) ≡ b
            → (if a then Some (value.Int (pos 7) ∷ value.Cell 2 ∷ []) else (if b then Some (value.Int (pos 5) ∷ value.Null ∷ []) else None)) ≡ Some vs → IsBack handle cells h
        by true zeroth b other is = record { index = 2; cell = third; there = (refl, refl); same = equal 0 h zeroth }
        by false zeroth true other is = record { index = 1; cell = second; there = (refl, refl); same = equal 2 h other }
        by false zeroth false other is = absurd (none_some vs is)

-- ---- a budget that ends after a move

-- The first cell has given the second one away: null is left there.
abbrev giver : HeapCell
giver = live (moved (Cell 2) ∷ [])

abbrev taken : HeapCell
taken = live (there (Int (pos 3)) ∷ [])

abbrev after : List HeapCell
after = giver ∷ taken ∷ []

abbrev emptied : Heap
emptied = record {
  cells = record { handle = 0; words = value.Null ∷ [] } ∷ record { handle = 1; words = value.Int (pos 3) ∷ [] } ∷ [];
  slots = 1 ∷ 1 ∷ [];
}

null_left : HasCells after emptied
null_left = record { handle = λ n. n; live = words; once = λ n k c d one two same. same; back = back }
  where
    words : (n : ℕ) (c : HeapCell) → IsThere after n c → words_at emptied.cells n ≡ Some (map (handled_slot (λ n. n)) c.slots)
    words zero c is = ap (λ (x : HeapCell). Some (map (handled_slot (λ n. n)) x.slots)) (some_same giver c is.0)
    words (suc zero) c is = ap (λ (x : HeapCell). Some (map (handled_slot (λ n. n)) x.slots)) (some_same taken c is.0)
    words (suc (suc n)) c is = absurd (none_some c is.0)

    back : (h : ℕ) (vs : List Value) → words_at emptied.cells h ≡ Some vs → IsBack (λ n. n) after h
    back h vs is = by (0 == h) refl (1 == h) refl is
      where
        by : (a : Bool) → (0 == h) ≡ a → (b : Bool) → (1 == h) ≡ b → (if a then Some (value.Null ∷ []) else (if b then Some (value.Int (pos 3) ∷ []) else None)) ≡ Some vs → IsBack (λ n. n) after h
        by true zeroth b other is = record { index = 0; cell = giver; there = (refl, refl); same = equal 0 h zeroth }
        by false zeroth true other is = record { index = 1; cell = taken; there = (refl, refl); same = equal 1 h other }
        by false zeroth false other is = absurd (none_some vs is)

-- A heap where the handle still stands has other cells.
abbrev stale : Heap
stale = record {
  cells = record { handle = 0; words = value.Cell 1 ∷ [] } ∷ record { handle = 1; words = value.Int (pos 3) ∷ [] } ∷ [];
  slots = 1 ∷ 1 ∷ [];
}

stale_not : HasCells after stale → ⊥
stale_not has = by (0 == has.handle 0) (1 == has.handle 0) (has.live 0 giver (refl, refl))
  where
    by : (a b : Bool) → (if a then Some (value.Cell 1 ∷ []) else (if b then Some (value.Int (pos 3) ∷ []) else None)) ≡ Some (value.Null ∷ []) → ⊥
    by true b is = cc
    by false true is = cc
    by false false is = cc
