-- What a memory stands for, where cells are made and freed, and where something is moved.
use Rattle.std.proofs.Common.{◌≡◌, ℕ, suc, ◌+◌, ◌-◌, ◌<◌, ◌≤◌, List, [], ◌∷◌, ◌++◌, map, length, refl, sym, ap, subst, ◌∙◌, append_assoc, append-nil, ℤ, pos}
use Rattle.run_values.specs.declared.value.Value.{Value}
use Rattle.run_values.specs.declared.value.Kind.{Kind}
use Rattle.machine.specs.Evaluate.{heap_words}
use Rattle.run_codes.specs.Flat.{Given, Spot, most_cells}
use Rattle.slot_heap.specs.Heaps.{Heap, allocated, released}
use Rattle.handled_runs.specs.Slots.{Slots, Move}
use Rattle.handled_runs.specs.Changes.{moving, row_with, with_peak}
use Rattle.slot_memory.specs.Cells.{Cells, IsMadeAs, IsFreed}
use Rattle.slot_memory.specs.Memory.{Kept, Ghosts, Stands, Shows, Always, Changes, slots, beyond, spots_of, single}
use Rattle.slot_memory.specs.Answers.{with_cell, IsMade, Frees}

-- Slots with other counts.
abbrev counts : Slots → ℕ → ℕ → ℕ → Slots
counts s live made freed = record s { live = live; made = made; freed = freed }

counts_same : (s : Slots) (a b c d e f : ℕ) → a ≡ d → b ≡ e → c ≡ f → counts s a b c ≡ counts s d e f
counts_same s a b c d e f p q r = ap (λ n. counts s n b c) p ∙ ap (λ n. counts s d n c) q ∙ ap (λ n. counts s d e n) r

-- ---- a cell is freed

frees_here : {R : Type 0} (Means : R → Heap → Type 0) (m : Kept R) (n : Cells R) (h : ℕ) → IsFreed Means m.heap h n
    → Always Means m (λ s. Frees Means s h (record m { heap = n }))
frees_here Means m n h f = λ g stands ws live. (
  record { cells = f.keep g.heap g.numbers ws stands.cells live; moves = stands.moves },
  counts_same (record (slots m g) { heap = released g.heap h }) n.live n.made n.freed (m.heap.live - length ws) m.heap.made (suc m.heap.freed)
      (f.live g.heap g.numbers ws stands.cells live) f.made f.freed,
)

pub frees : {R : Type 0} (Means : R → Heap → Type 0) (m n : Kept R) (h : ℕ) → IsFreed Means m.heap h n.heap → n ≡ record m { heap = n.heap }
    → Always Means m (λ s. Frees Means s h n)
frees Means m n h f same = (let P : Kept _ → Type 0 = λ k. Always Means m (λ s. Frees Means s h k) in subst P (sym same) (frees_here Means m n.heap h f))

-- ---- a cell is made

made_here : {R : Type 0} (Means : R → Heap → Type 0) (m : Kept R) (n : Cells R) (h : ℕ) (vs : List Value) (g : Ghosts) → IsMadeAs Means m.heap h vs n → Stands Means m g
    → Shows Means (record m { heap = n }) (with_cell (slots m g) h vs)
made_here Means m n h vs g f stands = (
  record { cells = f.keep g.heap g.numbers stands.cells; moves = stands.moves },
  counts_same
      (record (slots m g) {
        heap = allocated g.heap h vs;
        numbers = row_with g.numbers h (suc m.heap.made);
        peaks = with_peak (allocated g.heap h vs) vs g.peaks;
        sizes = g.sizes ++ length vs ∷ [];
      })
      n.live n.made n.freed (m.heap.live + length vs) (suc m.heap.made) m.heap.freed f.live f.made f.freed,
)

pub makes : {R : Type 0} (Means : R → Heap → Type 0) (m n : Kept R) (h : ℕ) (vs : List Value) (w : ℤ) → IsMadeAs Means m.heap h vs n.heap → n ≡ record m { heap = n.heap }
    → w ≡ pos (suc h) → m.heap.made < most_cells → m.heap.live + length vs ≤ heap_words → Always Means m (λ s. IsMade Means s vs w n)
makes Means m n h vs w f same name few room = λ g stands.
    let P : Kept _ → Type 0 = λ k. Shows Means k (with_cell (slots m g) h vs) in
    record {
      handle = h;
      new = f.unused g.heap g.numbers stands.cells;
      small = f.small;
      name = name;
      shows = subst P (sym same) (made_here Means m n.heap h vs g f stands);
      few = few;
      room = room;
    }

-- ---- something is moved

single_more : (moves : List Move) (m : Move) → single (moves ++ m ∷ []) ≡ single moves ++ spots_of m
single_more [] m = append-nil (spots_of m)
single_more (n ∷ moves) m = ap (λ l. spots_of n ++ l) (single_more moves m) ∙ sym (append_assoc (spots_of n) (single moves) (spots_of m))

moved_here : {R : Type 0} (Means : R → Heap → Type 0) (m : Kept R) (q : Spot) (ks : List Kind) (gone : List ℕ) (g : Ghosts) → Stands Means m g
    → Shows Means (record m { moves = m.moves ++ map (beyond q) gone }) (moving (slots m g) q ks gone)
moved_here Means m q ks gone g stands = (
  record {
    cells = stands.cells;
    moves = ap (λ l. l ++ map (beyond q) gone) stands.moves ∙ sym (single_more g.moves (record { at = q; kinds = ks; offsets = gone }));
  },
  refl,
)

pub moved : {R : Type 0} (Means : R → Heap → Type 0) (m n : Kept R) (q : Spot) (gone : List ℕ) → n ≡ record m { moves = m.moves ++ map (beyond q) gone }
    → (ks : List Kind) → Changes Means m (λ s. Given (moving s q ks gone)) n
moved Means m n q gone same ks = λ g stands t is.
    let P : Kept _ → Type 0 = λ k. Shows Means k (moving (slots m g) q ks gone) in
    let Q : Slots → Type 0 = λ u. Shows Means n u in
    subst Q (given_same (moving (slots m g) q ks gone) t is) (subst P (sym same) (moved_here Means m q ks gone g stands))
  where
    given_same : (a b : Slots) → Given a ≡ Given b → a ≡ b
    given_same a b is = cc
