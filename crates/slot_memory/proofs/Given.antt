-- Cells that are freed one handle after the other.
use Rattle.std.proofs.Common.{◌≡◌, ℕ, ◌+◌, ◌<◌, ◌≤◌, ◌==◌, ◌&&◌, Bool, true, false, nat_lt, nat_le, if◌then◌else◌, None, Some, List, [], ◌∷◌, refl, sym, ap, subst, ◌∙◌, arith, ⊎_elim}
use Rattle.std.proofs.lemmas.Bool.{cases_eq, cases_lt}
use Rattle.std.proofs.lemmas.Bool.Decides.{nat_tests}
use Rattle.run_values.specs.declared.value.Value.{Value}
use Rattle.slot_heap.specs.Heaps.{Cell, words_at, without}
use Rattle.slot_heap.specs.Runs.{IsOnce}
use Rattle.made_cells.specs.Since.{cells_to}

-- The number of this handle is greater than k, and the handle is one of the first ones.
abbrev pub is_given : ℕ → (ℕ → ℕ) → ℕ → ℕ → Bool
is_given k numbers i h = nat_lt h i && nat_lt k (numbers h)

-- What is left without these.
abbrev pub left_below : ℕ → (ℕ → ℕ) → ℕ → List Cell → List Cell
left_below k numbers i [] = []
left_below k numbers i (c ∷ cells) = if is_given k numbers i c.handle then left_below k numbers i cells else c ∷ left_below k numbers i cells

-- ---- one test

zero_not : (k n h : ℕ) → false ≡ (nat_lt h 0 && nat_lt k n)
zero_not k n h = grind (arith, nat_tests)

other_same : (k n h i : ℕ) → (h ≡ i → ⊥) → (nat_lt h i && nat_lt k n) ≡ (nat_lt h (i + 1) && nat_lt k n)
other_same k n h i other = grind (arith, nat_tests)

small_same : (k n h i : ℕ) → n ≤ k → (nat_lt h i && nat_lt k n) ≡ (nat_lt h (i + 1) && nat_lt k n)
small_same k n h i less = grind (arith, nat_tests)

-- ---- lists

pub none_below : (k : ℕ) (numbers : ℕ → ℕ) (cells : List Cell) → left_below k numbers 0 cells ≡ cells
none_below k numbers [] = refl
none_below k numbers (c ∷ cells) =
    ap (λ b. if b then left_below k numbers 0 cells else c ∷ left_below k numbers 0 cells) (sym (zero_not k (numbers c.handle) c.handle)) ∙ ap (λ rest. c ∷ rest) (none_below k numbers cells)

with_test : (b d : Bool) (c : Cell) (gone kept : List Cell) → b ≡ d → (if b then gone else c ∷ kept) ≡ (if d then gone else c ∷ kept)
with_test b d c gone kept same = ap (λ (x : Bool). if x then gone else c ∷ kept) same

-- A handle with a small number is kept.
pub small_kept : (k : ℕ) (numbers : ℕ → ℕ) (i : ℕ) (cells : List Cell) → numbers i ≤ k → left_below k numbers i cells ≡ left_below k numbers (i + 1) cells
small_kept k numbers i [] less = refl
small_kept k numbers i (c ∷ cells) less =
    (λ j. if is_given k numbers i c.handle then small_kept k numbers i cells less j else c ∷ small_kept k numbers i cells less j)
    ∙ with_test (is_given k numbers i c.handle) (is_given k numbers (i + 1) c.handle) c (left_below k numbers (i + 1) cells) (left_below k numbers (i + 1) cells)
    (⊎_elim (λ (e : c.handle ≡ i). small_same k (numbers c.handle) c.handle i (subst (λ h. numbers h ≤ k) (sym e) less)) (λ other. other_same k (numbers c.handle) c.handle i other) (cases_eq c.handle i))

-- So is each where no cell has the handle.
not_first : (c : Cell) (cells : List Cell) (i : ℕ) → words_at (c ∷ cells) i ≡ None → (c.handle ≡ i → ⊥) × (words_at cells i ≡ None)
not_first c cells i none = by (c.handle == i) refl none
  where
    differ : (h i : ℕ) → (h == i) ≡ false → h ≡ i → ⊥
    differ h i other e = (let both : true ≡ false = equal i ∙ ap (λ (x : ℕ). x == i) (sym e) ∙ other in cc)
      where
        equal : (n : ℕ) → true ≡ (n == n)
        equal n = grind arith

    by : (b : Bool) → (c.handle == i) ≡ b → (if b then Some c.words else words_at cells i) ≡ None → (c.handle ≡ i → ⊥) × (words_at cells i ≡ None)
    by true is none = cc
    by false is none = (differ c.handle i is, none)

pub none_kept : (k : ℕ) (numbers : ℕ → ℕ) (i : ℕ) (cells : List Cell) → words_at cells i ≡ None → left_below k numbers i cells ≡ left_below k numbers (i + 1) cells
none_kept k numbers i [] none = refl
none_kept k numbers i (c ∷ cells) none =
    let first = not_first c cells i none in
    (λ j. if is_given k numbers i c.handle then none_kept k numbers i cells first.1 j else c ∷ none_kept k numbers i cells first.1 j)
    ∙ with_test (is_given k numbers i c.handle) (is_given k numbers (i + 1) c.handle) c (left_below k numbers (i + 1) cells) (left_below k numbers (i + 1) cells) (other_same k (numbers c.handle) c.handle i first.0)

-- ---- the cell of a handle

own_kept : (k n i : ℕ) → false ≡ (nat_lt i i && nat_lt k n)
own_kept k n i = grind (arith, nat_tests)

own_given : (k n i : ℕ) → k < n → true ≡ (nat_lt i (i + 1) && nat_lt k n)
own_given k n i more = grind (arith, nat_tests)

own_is : (i : ℕ) → true ≡ (i == i)
own_is i = grind arith

not_is : (h i : ℕ) → (h ≡ i → ⊥) → false ≡ (h == i)
not_is h i other = grind arith

module _ (k : ℕ) (numbers : ℕ → ℕ) (i : ℕ) where
  abbrev now : List Cell → List Cell
  now cells = left_below k numbers i cells

  abbrev next : List Cell → List Cell
  next cells = left_below k numbers (i + 1) cells

  -- It is freed next.
  given_here : (c : Cell) (cells : List Cell) → c.handle ≡ i → k < numbers i → words_at cells c.handle ≡ None → without (now (c ∷ cells)) i ≡ next (c ∷ cells)
  given_here c cells e more none =
      ap (λ (b : Bool). without (if b then now cells else c ∷ now cells) i) (sym (subst (λ h. false ≡ is_given k numbers i h) (sym e) (own_kept k (numbers i) i)))
      ∙ (ap (λ (b : Bool). if b then now cells else c ∷ without (now cells) i) (sym (subst (λ h. true ≡ (h == i)) (sym e) (own_is i)))
      ∙ (none_kept k numbers i cells (subst (λ h. words_at cells h ≡ None) e none)
      ∙ ap (λ (b : Bool). if b then next cells else c ∷ next cells) (subst (λ h. true ≡ is_given k numbers (i + 1) h) (sym e) (own_given k (numbers i) i more))))

  given_later : (c : Cell) (cells : List Cell) → (c.handle ≡ i → ⊥) → without (now cells) i ≡ next cells → without (now (c ∷ cells)) i ≡ next (c ∷ cells)
  given_later c cells other rest =
      by (is_given k numbers i c.handle)
      ∙ ap (λ (b : Bool). if b then next cells else c ∷ next cells) (other_same k (numbers c.handle) c.handle i other)
    where
      by : (b : Bool) → without (if b then now cells else c ∷ now cells) i ≡ (if b then next cells else c ∷ next cells)
      by true = rest
      by false = ap (λ (x : Bool). if x then now cells else c ∷ without (now cells) i) (sym (not_is c.handle i other)) ∙ ap (λ l. c ∷ l) rest

  pub given_next : (cells : List Cell) → IsOnce cells → k < numbers i → without (now cells) i ≡ next cells
  given_next [] once more = refl
  given_next (c ∷ cells) once more =
      ⊎_elim (λ (e : c.handle ≡ i). given_here c cells e more once.0) (λ other. given_later c cells other (given_next cells once.1 more)) (cases_eq c.handle i)

  -- Until then it is live.
  pub live_now : (cells : List Cell) (ws : List Value) → words_at cells i ≡ Some ws → words_at (now cells) i ≡ Some ws
  live_now [] ws is = is
  live_now (c ∷ cells) ws is =
      ⊎_elim
      (λ (e : c.handle ≡ i). ap (λ (b : Bool). words_at (if b then now cells else c ∷ now cells) i) (sym (subst (λ h. false ≡ is_given k numbers i h) (sym e) (own_kept k (numbers i) i)))
      ∙ (ap (λ (b : Bool). if b then Some c.words else words_at (now cells) i) (sym (subst (λ h. true ≡ (h == i)) (sym e) (own_is i)))
      ∙ (ap (λ (b : Bool). if b then Some c.words else words_at cells i) (subst (λ h. true ≡ (h == i)) (sym e) (own_is i)) ∙ is)))
      (λ other. by other (is_given k numbers i c.handle) (live_now cells ws (ap (λ (b : Bool). if b then Some c.words else words_at cells i) (not_is c.handle i other) ∙ is)))
      (cases_eq c.handle i)
    where
      by : (c.handle ≡ i → ⊥) → (b : Bool) → words_at (now cells) i ≡ Some ws → words_at (if b then now cells else c ∷ now cells) i ≡ Some ws
      by other true rest = rest
      by other false rest = ap (λ (b : Bool). if b then Some c.words else words_at (now cells) i) (sym (not_is c.handle i other)) ∙ rest

-- ---- all handles

past_same : (k n h i : ℕ) → (i ≤ h → n ≤ k) → (if nat_lt h i && nat_lt k n then false else true) ≡ nat_le n k
past_same k n h i less = ⊎_elim (λ (low : h < i). low_same k n h i low) (λ (high : i ≤ h). high_same k n h i high (less high)) (cases_lt h i)
  where
    low_same : (k n h i : ℕ) → h < i → (if nat_lt h i && nat_lt k n then false else true) ≡ nat_le n k
    low_same k n h i low = grind (arith, nat_tests)

    high_same : (k n h i : ℕ) → i ≤ h → n ≤ k → (if nat_lt h i && nat_lt k n then false else true) ≡ nat_le n k
    high_same k n h i high less = grind (arith, nat_tests)

pub past_all : (k : ℕ) (numbers : ℕ → ℕ) (i : ℕ) (cells : List Cell) → ((h : ℕ) → i ≤ h → numbers h ≤ k) → left_below k numbers i cells ≡ cells_to k numbers cells
past_all k numbers i [] less = refl
past_all k numbers i (c ∷ cells) less =
    (λ j. if is_given k numbers i c.handle then past_all k numbers i cells less j else c ∷ past_all k numbers i cells less j)
    ∙ (by (is_given k numbers i c.handle) ∙ ap (λ (b : Bool). if b then c ∷ cells_to k numbers cells else cells_to k numbers cells) (past_same k (numbers c.handle) c.handle i (less c.handle)))
  where
    by : (b : Bool) → (if b then cells_to k numbers cells else c ∷ cells_to k numbers cells) ≡ (if (if b then false else true) then c ∷ cells_to k numbers cells else cells_to k numbers cells)
    by true = refl
    by false = refl
