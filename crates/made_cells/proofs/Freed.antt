-- Without the cells that a step made, those of before are left.
use Rattle.std.proofs.Common.{◌≡◌, refl, sym, ap, ◌∙◌, subst, ℕ, ◌<◌, ◌≤◌, ◌==◌, arith, Bool, true, false, nat_le, List, [], ◌∷◌, ◌++◌, Some, if◌then◌else◌}
use Rattle.std.proofs.lemmas.Bool.Decides.{nat_tests}
use Rattle.handled_runs.specs.slot_heap.Heaps.{Cell, words_at}
use Rattle.handled_runs.specs.Slots.{Slots}
use Rattle.made_cells.specs.Since.{AreNumbered, Has, Since, cells_to}

all_to : (n : ℕ) (numbers : ℕ → ℕ) (cells : List Cell) → AreNumbered (λ k. k ≤ n) numbers cells → cells_to n numbers cells ≡ cells
all_to n numbers [] are = refl
all_to n numbers (c ∷ cells) are =
    ap (λ b. if b then c ∷ cells_to n numbers cells else cells_to n numbers cells) (kept (numbers c.handle) n are.0) ∙ ap (λ rest. c ∷ rest) (all_to n numbers cells are.1)
  where
    kept : (k n : ℕ) → k ≤ n → nat_le k n ≡ true
    kept k n less = grind (arith, nat_tests)

none_to : (n : ℕ) (numbers : ℕ → ℕ) (made cells : List Cell) → AreNumbered (λ k. n < k) numbers made → cells_to n numbers (made ++ cells) ≡ cells_to n numbers cells
none_to n numbers [] cells are = refl
none_to n numbers (c ∷ made) cells are =
    ap (λ b. if b then c ∷ cells_to n numbers (made ++ cells) else cells_to n numbers (made ++ cells)) (gone (numbers c.handle) n are.0) ∙ none_to n numbers made cells are.1
  where
    gone : (k n : ℕ) → n < k → nat_le k n ≡ false
    gone k n less = grind (arith, nat_tests)

pub left_to : (before s : Slots) → Since before s → cells_to before.made s.numbers s.heap.cells ≡ before.heap.cells
left_to before s is =
    ap (cells_to before.made s.numbers) is.cells ∙ (none_to before.made s.numbers is.made before.heap.cells is.newer ∙ all_to before.made s.numbers before.heap.cells is.older)

-- What has a greater number is live.
has_more : (made cells : List Cell) (h : ℕ) → Has made h → Has (made ++ cells) h
has_more [] cells h (ws, is) = cc
has_more (c ∷ made) cells h (ws, is) = by (c.handle == h) is (λ is. has_more made cells h (ws, is))
  where
    by : (b : Bool) → (if b then Some c.words else words_at made h) ≡ Some ws → (words_at made h ≡ Some ws → Has (made ++ cells) h)
        → (vs : List _) × ((if b then Some c.words else words_at (made ++ cells) h) ≡ Some vs)
    by true is rest = (ws, is)
    by false is rest = rest is

pub live_since : (before s : Slots) → Since before s → (h : ℕ) → before.made < s.numbers h → Has s.heap.cells h
live_since before s is h more = subst (λ cells. Has cells h) (sym is.cells) (has_more is.made before.heap.cells h (is.only h more))
