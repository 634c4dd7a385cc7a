-- Values leave the cells that were there.
use Rattle.std.proofs.Common.{◌≡◌, refl, sym, ap, ◌∙◌, subst, ℕ, suc, ◌+◌, ◌<◌, ◌≤◌, ◌==◌, arith, Bool, true, false, nat_le, List, [], ◌∷◌, ◌++◌, drop, length, Some, None, ℤ, if◌then◌else◌}
use Rattle.handled_runs.specs.type_definitions.Types.{Table}
use Rattle.handled_runs.specs.run_values.declared.value.Kind.{Kind}
use Rattle.handled_runs.specs.run_values.declared.value.Kind.TheVariants as sort
use Rattle.handled_runs.specs.machine.Words.{access_offsets}
use Rattle.handled_runs.specs.machine.Evaluate.{heap_words}
use Rattle.handled_runs.specs.slot_heap.Heaps.{Cell, words_at}
use Rattle.handled_runs.specs.run_codes.Codes.{Fill, Checked, Pointer, MovedPointer, Copied, Moved, Waited, New, Default, Repeated, Both, Empty}
use Rattle.handled_runs.specs.run_codes.Flat.{Got, Given, Stops, Broken, and_then, checked, some_words, repeated, kinds, Spot}
use Rattle.handled_runs.specs.Fits.{are_slot_words}
use Rattle.handled_runs.specs.Slots.{Slots, word, spot, held}
use Rattle.handled_runs.specs.Changes.{slot_values, row_with, moving, made}
use Rattle.handled_runs.specs.Values.{Outcome, Gives, Ends, Fails, reads, moves, Then, MakesCell, MakesWhere, Makes, Fills}
use Rattle.made_cells.specs.Since.{AreNumbered, IsNumbered, Has, Since, FilledSince}

-- ---- numbers

-- Another handle gets a number.
other_handle : (P : ℕ → Type 0) (numbers : ℕ → ℕ) (h n : ℕ) (cells : List Cell) → words_at cells h ≡ None → AreNumbered P numbers cells → AreNumbered P (row_with numbers h n) cells
other_handle P numbers h n [] none are = tt
other_handle P numbers h n (c ∷ cells) none are = by (c.handle == h) none (λ none. other_handle P numbers h n cells none are.1)
  where
    by : (b : Bool) → (if b then Some c.words else words_at cells h) ≡ None → (words_at cells h ≡ None → AreNumbered P (row_with numbers h n) cells)
        → P (if b then n else numbers c.handle) × AreNumbered P (row_with numbers h n) cells
    by true none rest = cc
    by false none rest = (are.0, rest none)

none_left : (a b : List Cell) (h : ℕ) → words_at (a ++ b) h ≡ None → words_at a h ≡ None
none_left [] b h none = refl
none_left (c ∷ a) b h none = by (c.handle == h) none (none_left a b h)
  where
    by : (t : Bool) → (if t then Some c.words else words_at (a ++ b) h) ≡ None → (words_at (a ++ b) h ≡ None → words_at a h ≡ None) → (if t then Some c.words else words_at a h) ≡ None
    by true none rest = none
    by false none rest = rest none

none_right : (a b : List Cell) (h : ℕ) → words_at (a ++ b) h ≡ None → words_at b h ≡ None
none_right [] b h none = none
none_right (c ∷ a) b h none = by (c.handle == h) none (none_right a b h)
  where
    by : (t : Bool) → (if t then Some c.words else words_at (a ++ b) h) ≡ None → (words_at (a ++ b) h ≡ None → words_at b h ≡ None) → words_at b h ≡ None
    by true none rest = cc
    by false none rest = rest none

own_number : (P : ℕ → Type 0) (numbers : ℕ → ℕ) (h n : ℕ) → P n → P (row_with numbers h n h)
own_number P numbers h n is = subst (λ b. P (if b then n else numbers h)) (same h) is
  where
    same : (h : ℕ) → true ≡ (h == h)
    same h = grind arith

-- ---- values

-- Nothing was made yet.
all_numbered : (P : ℕ → Type 0) (numbers : ℕ → ℕ) (cells : List Cell) → ((h : ℕ) → P (numbers h)) → AreNumbered P numbers cells
all_numbered P numbers [] each = tt
all_numbered P numbers (c ∷ cells) each = (each c.handle, all_numbered P numbers cells each)

not_more : (k n : ℕ) → n ≤ k → k < n → ⊥
not_more k n less more = omega (arith, less, more)

pub none_since : (s t : Slots) → t.heap ≡ s.heap → t.numbers ≡ s.numbers → t.made ≡ s.made → IsNumbered s → Since s t
none_since s t heap numbers made are = record {
  made = [];
  cells = ap (λ (m : _). m.cells) heap;
  newer = tt;
  older = subst (λ row. AreNumbered (λ n. n ≤ s.made) row s.heap.cells) (sym numbers) (all_numbered (λ n. n ≤ s.made) s.numbers s.heap.cells are);
  only = λ h more. absurd (not_more s.made (s.numbers h) (are h) (subst (λ (row : ℕ → ℕ). s.made < row h) numbers more));
  more = subst (λ k. s.made ≤ k) (sym made) (itself s.made);
}
  where
    itself : (n : ℕ) → n ≤ n
    itself n = omega arith

-- The first cell, or another one.
has_front : (c : Cell) (cells : List Cell) (h : ℕ) → Has cells h → Has (c ∷ cells) h
has_front c cells h (ws, is) = by (c.handle == h)
  where
    by : (b : Bool) → (vs : List _) × ((if b then Some c.words else words_at cells h) ≡ Some vs)
    by true = (c.words, refl)
    by false = (ws, is)

has_first : (c : Cell) (cells : List Cell) (h : ℕ) → (h == c.handle) ≡ true → Has (c ∷ cells) h
has_first c cells h same = (c.words, ap (λ b. if b then Some c.words else words_at cells h) (turned h c.handle same))
  where
    turned : (a b : ℕ) → (a == b) ≡ true → (b == a) ≡ true
    turned a b is = grind arith

module _ (before : Slots) where
  -- A cell is made.
  made_since : (s : Slots) (h : ℕ) (ks : List Kind) (zs : List ℤ) → words_at s.heap.cells h ≡ None → Since before s → Since before (made s h ks zs)
  made_since s h ks zs none is =
      let absent : words_at (is.made ++ before.heap.cells) h ≡ None = ap (λ cells. words_at cells h) (sym is.cells) ∙ none in
      let count = is.more in record {
        made = record { handle = h; words = slot_values ks zs } ∷ is.made;
        cells = ap (λ cells. record { handle = h; words = slot_values ks zs } ∷ cells) is.cells;
        newer = (
          own_number (λ n. before.made < n) s.numbers h (suc s.made) (omega (arith, count)),
          other_handle (λ n. before.made < n) s.numbers h (suc s.made) is.made (none_left is.made before.heap.cells h absent) is.newer,
        );
        older = other_handle (λ n. n ≤ before.made) s.numbers h (suc s.made) before.heap.cells (none_right is.made before.heap.cells h absent) is.older;
        only = λ x more. by x (x == h) refl more;
        more = omega (arith, count);
      }
    where
      by : (x : ℕ) (b : Bool) → (x == h) ≡ b → before.made < (if b then suc s.made else s.numbers x) → Has (record { handle = h; words = slot_values ks zs } ∷ is.made) x
      by x true same more = has_first (record { handle = h; words = slot_values ks zs }) is.made x same
      by x false same more = has_front (record { handle = h; words = slot_values ks zs }) is.made x (is.only x more)

  reads_since : {A : Type 0} (s : Slots) → Since before s → (g : Got A) (f : A → Outcome) → ((a : A) → FilledSince before (f a)) → FilledSince before (reads s g f)
  reads_since s is (Given a) f on = on a
  reads_since s is (Stops x) f on = is
  reads_since s is Broken f on = tt

  then_since : (g r : Outcome) (P : List ℤ → Slots → Type 0) → FilledSince before g → Then g P r → ((zs : List ℤ) (t : Slots) → Since before t → P zs t → FilledSince before r) → FilledSince before r
  then_since (Gives zs t) r P is so on = on zs t is so
  then_since (Ends x t) r P is so on = subst (FilledSince before) (sym so) is
  then_since Fails r P is so on = subst (FilledSince before) (sym so) tt

  cell_since : (b : Bool) (s : Slots) (ks : List Kind) (zs : List ℤ) (r : Outcome) → Since before s → MakesCell b s ks zs r → FilledSince before r
  cell_since true s ks zs (Gives us t) is (h, new, less, word_is, is_made, few) = subst (Since before) (sym is_made) (made_since s h ks zs new is)
  cell_since true s ks zs (Ends x t) is makes = subst (Since before) (sym makes.1) is
  cell_since true s ks zs Fails is makes = tt
  cell_since false s ks zs r is makes = subst (FilledSince before) (sym makes) is

  where_since : (b : Bool) (P : Type 0) (r : Outcome) → MakesWhere b P r → (P → FilledSince before r) → FilledSince before r
  where_since true P r makes on = on makes
  where_since false P r makes on = subst (FilledSince before) (sym makes) tt

  moves_since : (s : Slots) → Since before s → (g : Got Spot) (ks : List Kind) (gone : List ℕ) → FilledSince before (moves s g ks gone)
  moves_since s is g ks gone =
      reads_since s is g (λ p. reads s (held s p ks) (λ zs. Gives zs (moving s p ks gone)))
      (λ p. reads_since s is (held s p ks) (λ zs. Gives zs (moving s p ks gone))
      (λ zs. record { made = is.made; cells = is.cells; newer = is.newer; older = is.older; only = is.only; more = is.more }))

  pub fill_since : (table : Table) (v : Fill) (s : Slots) (r : Outcome) → Since before s → Fills table v s r → FilledSince before r
  unfolding Fills
  fill_since table (Checked c low high) s r is so = subst (FilledSince before) (sym so) (reads_since s is (and_then (word s c) (checked low high)) (λ w. Gives (w ∷ []) s) (λ w. is))
  fill_since table (Pointer c) s r is so = subst (FilledSince before) (sym so) (reads_since s is (word s c) (λ w. Gives (w ∷ []) s) (λ w. is))
  fill_since table (MovedPointer p) s r is so = subst (FilledSince before) (sym so) (moves_since s is (spot s p) (sort.Access ∷ []) (0 ∷ []))
  fill_since table (Copied p of) s r is so =
      subst (FilledSince before) (sym so)
      (reads_since s is (spot s p) (λ q. reads s (held s q (kinds table of)) (λ zs. Gives zs s)) (λ q. reads_since s is (held s q (kinds table of)) (λ zs. Gives zs s) (λ zs. is)))
  fill_since table (Moved p of) s r is so = subst (FilledSince before) (sym so) (moves_since s is (spot s p) (kinds table of) (access_offsets table of))
  fill_since table (Waited at n) s r is so = subst (FilledSince before) (sym so) (reads_since s is (some_words n (drop at s.waits)) (λ zs. Gives zs s) (λ zs. is))
  fill_since table (New v of) s r is (g, fills, so) =
      then_since g r (λ zs t. Makes t (kinds table of) zs r) (fill_since table v s g is fills) so
      (λ zs t kept makes.
      where_since (are_slot_words (kinds table of) zs) (MakesCell (nat_le (t.live + length zs) heap_words) t (kinds table of) zs r) r makes
      (cell_since (nat_le (t.live + length zs) heap_words) t (kinds table of) zs r kept))
  fill_since table (Default of) s r is so = subst (FilledSince before) (sym so) is
  fill_since table (Repeated v n) s r is (g, fills, so) =
      then_since g r (λ zs t. r ≡ Gives (repeated n zs) t) (fill_since table v s g is fills) so (λ zs t kept same. subst (FilledSince before) (sym same) kept)
  fill_since table (Both a b) s r is (g, fills, so) =
      then_since g r (λ zs t. (q : Outcome) × Fills table b t q × Then q (λ us u. r ≡ Gives (zs ++ us) u) r) (fill_since table a s g is fills) so
      (λ zs t kept more. then_since more.0 r (λ us u. r ≡ Gives (zs ++ us) u) (fill_since table b t more.0 kept more.1) more.2 (λ us u last same. subst (FilledSince before) (sym same) last))
  fill_since table Empty s r is so = subst (FilledSince before) (sym so) is
