-- The greatest counts of live cells while the machine evaluates a point.
use Rattle.std.proofs.Common.{◌≡◌, refl, sym, ap, ◌∙◌, subst, inl, inr, ℕ, zero, suc, ◌+◌, ◌≤◌, ◌<◌, ◌==◌, arith, Bool, true, false, not, ◌&&◌, List, [], ◌∷◌, ◌++◌, map, filter, take, drop, length, get_or, if◌then◌else◌}
use Rattle.std.proofs.lemmas.List.{length-map}
use Rattle.std.proofs.lemmas.Bool.{cases_eq}
use Rattle.std.proofs.lemmas.Bool.Decides.{nat_tests}
use Rattle.std.proofs.Math.Seq.{drop-append_seam}
use Rattle.machine.specs.type_definitions.Types.{Table, words}
use Rattle.machine.specs.flow_paths.Objects.{Typing}
use Rattle.machine.specs.Words.{Word, access_offsets}
use Rattle.machine.specs.Typed.{sorts}
use Rattle.machine.specs.Memory.{Memory, Slot, HeapCell, Base, Place, OfVariable, OfCell, no_cell, cell_words, live_cells, live_count, at_number, as_gone, fresh, gone_at, slots_at, slots_of, put, stored, moved_out, with_new_cell, as_freed, given_up}
use Rattle.machine.specs.Evaluate.{Here}
use Rattle.numbered_cells.specs.slot_heap.Heaps.{slot_count}
use Rattle.numbered_cells.specs.Peaks.{peak_of}
use Rattle.numbered_cells.proofs.Peaks.{greatest_same, greatest_other}
use Rattle.run_codes.specs.Flat.{Flat}
use Rattle.run_codes.specs.Related.{HaveCells}
use Rattle.run_points.proofs.Flags.{Anywhere}
use Rattle.run_points.proofs.Keeping.{IsKeeping}
use Rattle.handled_steps.specs.Rises.{top}
use Rattle.soundness.proofs.Parted.{not_empty}

-- ---- sizes and flags of cells

-- How many words a cell has, and whether it is freed.
abbrev pub mark : HeapCell → ℕ × Bool
mark c = (cell_words c, c.freed)

abbrev pub marks : List HeapCell → List (ℕ × Bool)
marks cells = map mark cells

-- The same by the types of the cells.
abbrev pub typed_mark : Table → HeapCell → ℕ × Bool
typed_mark table c = (length (sorts table c.of), c.freed)

abbrev pub typed_marks : Table → List HeapCell → List (ℕ × Bool)
typed_marks table cells = map (typed_mark table) cells

abbrev pub new_marks : List ℕ → List (ℕ × Bool)
new_marks sizes = map (λ (k : ℕ). (k, false)) sizes

-- How many cells of a size aren't freed.
abbrev pub count : ℕ → List (ℕ × Bool) → ℕ
count n [] = 0
count n (k ∷ rest) = if not k.1 && (k.0 == n) then suc (count n rest) else count n rest

pub count_is : (n : ℕ) (cells : List HeapCell) → live_count n cells ≡ count n (marks cells)
count_is n [] = refl
count_is n (c ∷ cells) = by c.freed (count_is n cells)
  where
    there : (b : Bool) → live_count n cells ≡ count n (marks cells)
        → length (if b then c ∷ filter (λ c. cell_words c == n) (live_cells cells) else filter (λ c. cell_words c == n) (live_cells cells)) ≡ (if b then suc (count n (marks cells)) else count n (marks cells))
    there true rest = ap suc rest
    there false rest = rest

    by : (b : Bool) → live_count n cells ≡ count n (marks cells)
        → length (filter (λ c. cell_words c == n) (if not b then c ∷ live_cells cells else live_cells cells)) ≡ (if not b && (cell_words c == n) then suc (count n (marks cells)) else count n (marks cells))
    by true rest = rest
    by false rest = there (cell_words c == n) rest

pub count_on : (n : ℕ) (a b : List (ℕ × Bool)) → count n (a ++ b) ≡ count n a + count n b
count_on n [] b = omega arith
count_on n (k ∷ a) b = let rest = count_on n a b in by (not k.1 && (k.0 == n)) rest
  where
    by : (c : Bool) → count n (a ++ b) ≡ count n a + count n b → (if c then suc (count n (a ++ b)) else count n (a ++ b)) ≡ (if c then suc (count n a) else count n a) + count n b
    by true rest = omega (arith, rest)
    by false rest = omega (arith, rest)

pub count_new : (n : ℕ) (sizes : List ℕ) → count n (new_marks sizes) ≡ slot_count n sizes
count_new n [] = refl
count_new n (k ∷ sizes) = let rest = count_new n sizes in by (k == n) rest
  where
    by : (c : Bool) → count n (new_marks sizes) ≡ slot_count n sizes → (if c then suc (count n (new_marks sizes)) else count n (new_marks sizes)) ≡ (if c then suc (slot_count n sizes) else slot_count n sizes)
    by true rest = ap suc rest
    by false rest = rest

map_on : {A B : Type 0} (f : A → B) (a b : List A) → map f (a ++ b) ≡ map f a ++ map f b
map_on f [] b = refl
map_on f (x ∷ a) b = ap (λ rest. f x ∷ rest) (map_on f a b)

list_on : {A : Type 0} (a b c : List A) → (a ++ b) ++ c ≡ a ++ (b ++ c)
list_on [] b c = refl
list_on (x ∷ a) b c = ap (λ rest. x ∷ rest) (list_on a b c)

-- The sizes of cells after some that were there.
firsts_marks : (cells : List HeapCell) → map (λ (k : ℕ × Bool). k.0) (marks cells) ≡ map cell_words cells
firsts_marks [] = refl
firsts_marks (c ∷ cells) = ap (λ rest. cell_words c ∷ rest) (firsts_marks cells)

firsts_new : (sizes : List ℕ) → map (λ (k : ℕ × Bool). k.0) (new_marks sizes) ≡ sizes
firsts_new [] = refl
firsts_new (k ∷ sizes) = ap (λ rest. k ∷ rest) (firsts_new sizes)

later_words : (old cells : List HeapCell) (more : List ℕ) → marks cells ≡ marks old ++ new_marks more → map cell_words (drop (length old) cells) ≡ more
later_words [] cells more e = sym (firsts_marks cells) ∙ (ap (map (λ (k : ℕ × Bool). k.0)) e ∙ firsts_new more)
later_words (o ∷ old) [] more e = absurd (not_empty (sym e))
later_words (o ∷ old) (c ∷ cells) more e = later_words old cells more (ap (drop 1) e)

freed_words : (cells : List HeapCell) → map cell_words (map as_freed cells) ≡ map cell_words cells
freed_words [] = refl
freed_words (c ∷ cells) = ap (λ rest. cell_words c ∷ rest) (freed_words cells)

-- ---- slots that change

cut_long : (g all : List Slot) → length g ≤ length all → length (g ++ drop (length g) all) ≡ length all
cut_long [] all le = refl
cut_long (x ∷ g) [] le = absurd (omega (arith, le))
cut_long (x ∷ g) (y ∷ all) le = ap suc (cut_long g all (omega (arith, le)))

splice_long : (at c : ℕ) (all g : List Slot) → c ≡ at + length g → length g ≤ length (drop at all) → length (take at all ++ g ++ drop c all) ≡ length all
splice_long zero c all g is le = ap (λ k. length (g ++ drop k all)) (zero_is c (length g) is) ∙ cut_long g all le
  where
    zero_is : (c k : ℕ) → c ≡ 0 + k → c ≡ k
    zero_is c k e = omega (arith, e)
splice_long (suc at) zero [] [] is le = refl
splice_long (suc at) (suc c) [] [] is le = refl
splice_long (suc at) c [] (x ∷ g) is le = absurd (omega (arith, le))
splice_long (suc at) zero (x ∷ all) g is le = absurd (omega (arith, is))
splice_long (suc at) (suc c) (x ∷ all) g is le = ap suc (splice_long at c all g (omega (arith, is)) le)

taken_less : (n : ℕ) (xs : List Slot) → length (take n xs) ≤ length xs
taken_less zero xs = omega arith
taken_less (suc n) [] = omega arith
taken_less (suc n) (x ∷ xs) = let rest = taken_less n xs in omega (arith, rest)

number_same : (k : ℕ) (g : Slot → Slot) (xs : List Slot) → length (at_number k g xs) ≡ length xs
number_same k g [] = refl
number_same zero g (x ∷ xs) = refl
number_same (suc k) g (x ∷ xs) = ap suc (number_same k g xs)

gone_same : (offsets : List ℕ) (xs : List Slot) → length (gone_at offsets xs) ≡ length xs
gone_same [] xs = refl
gone_same (o ∷ rest) xs = gone_same rest (at_number o as_gone xs) ∙ number_same o as_gone xs

-- Other slots, as many as before.
marks_number : (k : ℕ) (slots : List Slot) (cells : List HeapCell) → length slots ≡ length (get_or cells k no_cell).slots → marks (at_number k (λ (c : HeapCell). record c { slots = slots }) cells) ≡ marks cells
marks_number k slots [] same = refl
marks_number zero slots (c ∷ cells) same = ap (λ n. (n, c.freed) ∷ marks cells) same
marks_number (suc k) slots (c ∷ cells) same = ap (λ rest. mark c ∷ rest) (marks_number k slots cells same)

marks_put : (s : Typing) (b : Base) (slots : List Slot) (m : Memory) → length slots ≡ length (slots_at s m b) → marks (put b slots m).cells ≡ marks m.cells
marks_put s (OfVariable f x) slots m same = refl
marks_put s (OfCell zero) slots m same = refl
marks_put s (OfCell (suc k)) slots m same = marks_number k slots m.cells same

typed_number : (table : Table) (k : ℕ) (slots : List Slot) (cells : List HeapCell) → typed_marks table (at_number k (λ (c : HeapCell). record c { slots = slots }) cells) ≡ typed_marks table cells
typed_number table k slots [] = refl
typed_number table zero slots (c ∷ cells) = refl
typed_number table (suc k) slots (c ∷ cells) = ap (λ rest. typed_mark table c ∷ rest) (typed_number table k slots cells)

pub typed_put : (table : Table) (b : Base) (slots : List Slot) (m : Memory) → typed_marks table (put b slots m).cells ≡ typed_marks table m.cells
typed_put table (OfVariable f x) slots m = refl
typed_put table (OfCell zero) slots m = refl
typed_put table (OfCell (suc k)) slots m = typed_number table k slots m.cells

pub moved_marks : (s : Typing) (p : Place) (m : Memory) → marks (moved_out s p m).cells ≡ marks m.cells
moved_marks s p m =
    marks_put s p.base (take p.at all ++ gone ++ drop (p.at + length gone) all) m
    (splice_long p.at (p.at + length gone) all gone refl (let same = gone_same (access_offsets s.table p.of) (slots_of s m p) in let less = taken_less (words s.table p.of) (drop p.at all) in omega (arith, same, less)))
  where
    all : List Slot
    all = slots_at s m p.base

    gone : List Slot
    gone = gone_at (access_offsets s.table p.of) (slots_of s m p)

put_peaks : (b : Base) (slots : List Slot) (m : Memory) → (put b slots m).peaks ≡ m.peaks
put_peaks (OfVariable f x) slots m = refl
put_peaks (OfCell n) slots m = refl

pub stored_peaks : (s : Typing) (p : Place) (ws : List Word) (m : Memory) → (stored s p ws m).peaks ≡ m.peaks
stored_peaks s p ws m = put_peaks p.base (take p.at (slots_at s m p.base) ++ fresh ws ++ drop (p.at + length (fresh ws)) (slots_at s m p.base)) m

pub moved_peaks : (s : Typing) (p : Place) (m : Memory) → (moved_out s p m).peaks ≡ m.peaks
moved_peaks s p m = put_peaks p.base (take p.at (slots_at s m p.base) ++ gone ++ drop (p.at + length gone) (slots_at s m p.base)) m
  where
    gone : List Slot
    gone = gone_at (access_offsets s.table p.of) (slots_of s m p)

-- ---- cells of their types

-- Each cell has as many words as its type.
abbrev pub AreTyped : Table → Memory → Type 0
AreTyped table m = marks m.cells ≡ typed_marks table m.cells

each_typed : (table : Table) (cells : List HeapCell) → ((n : ℕ) → n < length cells → length (get_or cells n no_cell).slots ≡ length (sorts table (get_or cells n no_cell).of)) → marks cells ≡ typed_marks table cells
each_typed table [] each = refl
each_typed table (c ∷ cells) each =
    ap (λ k. (k, c.freed) ∷ marks cells) (each 0 (omega arith)) ∙ ap (λ rest. typed_mark table c ∷ rest) (each_typed table cells (λ n less. each (suc n) (omega (arith, less))))

pub have_typed : (table : Table) (m : Memory) (f : Flat) → HaveCells table m f → AreTyped table m
have_typed table m f have = each_typed table m.cells (λ n less. let at = have n less in at.2.size ∙ at.2.room)

-- ---- while a point is evaluated

pub top_same : (a b : ℕ) → b ≤ a → a ≡ top a b
top_same a b less = grind (arith, nat_tests)

top_twice : (a b : ℕ) → top (top a b) (suc b) ≡ top a (suc b)
top_twice a b = grind (arith, nat_tests)

module _ (before : Memory) where
  -- The greatest count of each size is what it was, or that of the cells that are live.
  abbrev pub Rises : Memory → Type 0
  Rises m = (n : ℕ) → peak_of n m.peaks ≡ top (peak_of n before.peaks) (count n (marks m.cells))

  -- The cells that there were, and others that were made, which aren't freed.
  pub record Risen (m : Memory) : Type 0 where
    pub more : List ℕ
    pub marks_are : marks m.cells ≡ marks before.cells ++ new_marks more
    pub rises : Rises m

  -- At the end of a run: with all that the step made.
  abbrev pub EndsRisen : Memory → Type 0
  EndsRisen m = (n : ℕ) → peak_of n m.peaks ≡ top (peak_of n before.peaks) (count n (marks before.cells) + slot_count n (drop (length before.cells) (map cell_words m.cells)))

  pub same_risen : (m n : Memory) → marks n.cells ≡ marks m.cells → n.peaks ≡ m.peaks → Risen m → Risen n
  same_risen m n marks_same peaks_same is = record {
    more = is.more;
    marks_are = marks_same ∙ is.marks_are;
    rises = λ k. ap (peak_of k) peaks_same ∙ (is.rises k ∙ ap (λ ms. top (peak_of k before.peaks) (count k ms)) (sym marks_same));
  }

  pub given_up_risen : (m : Memory) → Risen m → EndsRisen (given_up before m)
  given_up_risen m is n =
      is.rises n ∙ ap (top (peak_of n before.peaks))
      (ap (count n) is.marks_are ∙ (count_on n (marks before.cells) (new_marks is.more) ∙ ap (λ k. count n (marks before.cells) + k) (count_new n is.more ∙ ap (slot_count n) (sym sizes))))
    where
      made : List HeapCell
      made = map as_freed (drop (length before.cells) m.cells)

      sizes : drop (length before.cells) (map cell_words (before.cells ++ made)) ≡ is.more
      sizes =
          ap (drop (length before.cells)) (map_on cell_words before.cells made)
          ∙ (ap (λ k. drop k (map cell_words before.cells ++ map cell_words made)) (sym (length-map before.cells cell_words))
          ∙ (drop-append_seam (map cell_words before.cells) (map cell_words made)
          ∙ (freed_words (drop (length before.cells) m.cells) ∙ later_words before.cells m.cells is.more is.marks_are)))

  -- a new cell
  module _ (t : ℕ) (ws : List Word) (m : Memory) (is : Risen m) where
    abbrev size : ℕ
    size = length ws

    abbrev all : List HeapCell
    all = m.cells ++ record { of = t; slots = fresh ws; freed = false } ∷ []

    long : length (fresh ws) ≡ size
    long = length-map ws (λ (w : Word). record { word = w; gone = false })

    all_marks : marks all ≡ marks m.cells ++ new_marks (size ∷ [])
    all_marks = map_on mark m.cells (record { of = t; slots = fresh ws; freed = false } ∷ []) ∙ ap (λ k. marks m.cells ++ (k, false) ∷ []) long

    counts : (n : ℕ) → count n (marks all) ≡ count n (marks m.cells) + slot_count n (size ∷ [])
    counts n = ap (count n) all_marks ∙ (count_on n (marks m.cells) (new_marks (size ∷ [])) ∙ ap (λ k. count n (marks m.cells) + k) (count_new n (size ∷ [])))

    one : (k : ℕ) → slot_count k (k ∷ []) ≡ 1
    one k = grind (arith, nat_tests)

    none : (n k : ℕ) → (n ≡ k → ⊥) → slot_count n (k ∷ []) ≡ 0
    none n k other = grind (arith, nat_tests)

    same_size : peak_of size (with_new_cell t ws m).peaks ≡ top (peak_of size before.peaks) (count size (marks all))
    same_size =
        let next : count size (marks all) ≡ suc (count size (marks m.cells)) = let c = counts size in let o = one size in omega (arith, c, o) in
        greatest_same size (live_count size all) m.peaks
        ∙ (ap (λ k. top k (live_count size all)) (is.rises size)
        ∙ (ap (top (top (peak_of size before.peaks) (count size (marks m.cells)))) (count_is size all ∙ next)
        ∙ (top_twice (peak_of size before.peaks) (count size (marks m.cells)) ∙ ap (top (peak_of size before.peaks)) (sym next))))

    other_size : (n : ℕ) → (n ≡ size → ⊥) → peak_of n (with_new_cell t ws m).peaks ≡ top (peak_of n before.peaks) (count n (marks all))
    other_size n other =
        let same : count n (marks m.cells) ≡ count n (marks all) = let c = counts n in let o = none n size other in omega (arith, c, o) in
        greatest_other size (live_count size all) n m.peaks other ∙ (is.rises n ∙ ap (top (peak_of n before.peaks)) same)

    pub new_risen : Risen (with_new_cell t ws m)
    new_risen = record {
      more = is.more ++ size ∷ [];
      marks_are =
          all_marks ∙ (ap (λ l. l ++ new_marks (size ∷ [])) is.marks_are
          ∙ (list_on (marks before.cells) (new_marks is.more) (new_marks (size ∷ [])) ∙ ap (λ l. marks before.cells ++ l) (sym (map_on (λ (k : ℕ). (k, false)) is.more (size ∷ [])))));
      rises = λ n. elim (cases_eq n size) [
        | inl same ↦ subst (λ k. peak_of k (with_new_cell t ws m).peaks ≡ top (peak_of k before.peaks) (count k (marks all))) (sym same) same_size
        | inr other ↦ other_size n other
      ];
    }

  pub keeps_risen : (h : Here) → IsKeeping h Anywhere Risen
  keeps_risen h = record {
    variables = λ x. tt;
    cells = λ n. tt;
    moves = λ p m low is. same_risen m (moved_out h.typing p m) (moved_marks h.typing p m) (moved_peaks h.typing p m) is;
    news = λ t ws m is. new_risen t ws m is;
  }
