-- What a memory gives is given where more cells were made.
use Rattle.std.proofs.Common.{◌≡◌, refl, sym, ap, ◌∙◌, subst, ℕ, zero, suc, ◌+◌, Bool, true, false, not, ◌&&◌, nat_le, nat_lt, List, [], ◌∷◌, ◌++◌, drop, length, slice_get, Some, None, ℤ, if◌then◌else◌}
use Rattle.std.specs.Prelude.{unsigned_abs, is_some}
use Rattle.std.proofs.lemmas.Bool.{false≢true}
use Rattle.kept_cells.specs.run_values.declared.value.Kind.{Kind}
use Rattle.kept_cells.specs.run_values.Items.{at_end}
use Rattle.kept_cells.specs.Cells.{Cell}
use Rattle.run_codes.specs.Codes.{Code, Number, Local, Global, Via, Scaled, Plus, Unary, Binary, Short, IsNull, Waiting, EndOfFile, Nothing, Place, InFrame, InPackages, Behind}
use Rattle.run_codes.specs.Flat.{Flat, Got, Given, Stops, Broken, and_then, found, truth, is_zero, operated, operated_alone, decides, offset, scaled, most_cells, most_offsets, touched, value_word, behind, behind_at, front, front_of_cell, word, indexes, Spot, InStack, InCell, spot, stack_spot, cell_spot, words_at}

-- ---- one after the other

-- The second one is the first one, where that isn't broken.
abbrev pub Less : {A : Type 0} → Got A → Got A → Type 0
Less (Given a) h = h ≡ Given a
Less (Stops x) h = h ≡ Stops x
Less Broken h = Unit {0}

less_same : {A : Type 0} (g h : Got A) → h ≡ g → Less g h
less_same (Given a) h e = e
less_same (Stops x) h e = e
less_same Broken h e = tt

less_then : {A B : Type 0} (g h : Got A) (F G : A → Got B) → Less g h → ((a : A) → Less (F a) (G a)) → Less (and_then g F) (and_then h G)
less_then (Given a) h F G less on = subst (λ y. Less (F a) (and_then y G)) (sym less) (on a)
less_then (Stops x) h F G less on = ap (λ y. and_then y G) less
less_then Broken h F G less on = tt

decided : (c : Bool) (y : ℤ) (g h : Got ℤ) → Less g h → Less (if c then Given y else g) (if c then Given y else h)
decided true y g h less = refl
decided false y g h less = less

-- ---- a memory that grows

-- Cells were made after those that there were.
pub record Grows (x w : Flat) : Type 0 where
  pub stack : w.stack ≡ x.stack
  pub base : w.base ≡ x.base
  pub waits : w.waits ≡ x.waits
  pub rest : w.rest ≡ x.rest
  pub more : List Cell
  pub cells : w.cells ≡ x.cells ++ more

pub slice_more : {A : Type 0} (xs ys : List A) (n : ℕ) (a : A) → slice_get xs n ≡ Some a → slice_get (xs ++ ys) n ≡ Some a
slice_more [] ys n a e = absurd (false≢true (ap is_some e))
slice_more (x ∷ xs) ys zero a e = e
slice_more (x ∷ xs) ys (suc n) a e = slice_more xs ys n a e

module _ (x w : Flat) (grows : Grows x w) where
  touched_less : {A : Type 0} (n : ℕ) (f : Cell → Got A) → Less (touched (slice_get x.cells n) f) (touched (slice_get w.cells n) f)
  touched_less {A = A} n f = by (slice_get x.cells n) refl
    where
      by : (c : _) → slice_get x.cells n ≡ c → Less {A = A} (touched c f) (touched (slice_get w.cells n) f)
      by None e = tt
      by (Some c) e = less_same (touched (Some c) f) (touched (slice_get w.cells n) f) (ap (λ y. touched y f) (ap (λ cs. slice_get cs n) grows.cells ∙ slice_more x.cells grows.more n c e))

  behind_less : (o : ℕ) (k : Kind) (z : ℤ) → Less (behind x o k z) (behind w o k z)
  behind_less o k z = by (unsigned_abs z)
    where
      within : (b : Bool) (n : ℕ) → Less (if b then touched (slice_get x.cells n) (λ (c : Cell). value_word k (slice_get c.words o)) else Broken)
          (if b then touched (slice_get w.cells n) (λ (c : Cell). value_word k (slice_get c.words o)) else Broken)
      within true n = touched_less n (λ (c : Cell). value_word k (slice_get c.words o))
      within false n = tt

      by : (n : ℕ) → Less (behind_at x o k n) (behind_at w o k n)
      by zero = refl
      by (suc n) = within (nat_lt n most_cells && nat_lt o most_offsets) n

  stack_less : (i j : ℕ) → j ≡ i → Less (found (slice_get x.stack i)) (found (slice_get w.stack j))
  stack_less i j same = less_same (found (slice_get x.stack i)) (found (slice_get w.stack j)) (ap (λ n. found (slice_get w.stack n)) same ∙ ap (λ zs. found (slice_get zs i)) grows.stack)

  mutual
    unfolding word indexes

    pub word_less : (c : Code) → Less (word x c) (word w c)
    word_less (Number z) = refl
    word_less (Local at i) =
        less_then (word x i) (word w i) (λ o. found (slice_get x.stack (x.base + at + unsigned_abs o))) (λ o. found (slice_get w.stack (w.base + at + unsigned_abs o))) (word_less i)
        (λ o. stack_less (x.base + at + unsigned_abs o) (w.base + at + unsigned_abs o) (ap (λ b. b + at + unsigned_abs o) grows.base))
    word_less (Global at i) =
        less_then (word x i) (word w i) (λ o. found (slice_get x.stack (at + unsigned_abs o))) (λ o. found (slice_get w.stack (at + unsigned_abs o))) (word_less i)
        (λ o. stack_less (at + unsigned_abs o) (at + unsigned_abs o) refl)
    word_less (Via p at i k) =
        less_then (indexes x p) (indexes w p) (λ q. and_then (word x i) (λ o. and_then (word x p) (behind x (at + unsigned_abs o) k))) (λ q. and_then (word w i) (λ o. and_then (word w p) (behind w (at + unsigned_abs o) k))) (indexes_less p)
        (λ q. less_then (word x i) (word w i) (λ o. and_then (word x p) (behind x (at + unsigned_abs o) k)) (λ o. and_then (word w p) (behind w (at + unsigned_abs o) k)) (word_less i)
        (λ o. less_then (word x p) (word w p) (behind x (at + unsigned_abs o) k) (behind w (at + unsigned_abs o) k) (word_less p) (λ z. behind_less (at + unsigned_abs o) k z)))
    word_less (Scaled i low high size) =
        less_then (word x i) (word w i) (scaled low high size) (scaled low high size) (word_less i) (λ o. less_same (scaled low high size o) (scaled low high size o) refl)
    word_less (Plus a b) =
        less_then (word x a) (word w a) (λ y. and_then (word x b) (λ z. offset (unsigned_abs y + unsigned_abs z))) (λ y. and_then (word w b) (λ z. offset (unsigned_abs y + unsigned_abs z))) (word_less a)
        (λ y. less_then (word x b) (word w b) (λ z. offset (unsigned_abs y + unsigned_abs z)) (λ z. offset (unsigned_abs y + unsigned_abs z)) (word_less b)
        (λ z. less_same (offset (unsigned_abs y + unsigned_abs z)) (offset (unsigned_abs y + unsigned_abs z)) refl))
    word_less (Unary op a) = less_then (word x a) (word w a) (operated_alone op) (operated_alone op) (word_less a) (λ y. less_same (operated_alone op y) (operated_alone op y) refl)
    word_less (Binary op a b) =
        less_then (word x a) (word w a) (λ y. and_then (word x b) (operated op y)) (λ y. and_then (word w b) (operated op y)) (word_less a)
        (λ y. less_then (word x b) (word w b) (operated op y) (operated op y) (word_less b) (λ z. less_same (operated op y z) (operated op y z) refl))
    word_less (Short op a b) =
        less_then (word x a) (word w a) (λ y. if decides op y then Given y else word x b) (λ y. if decides op y then Given y else word w b) (word_less a) (λ y. decided (decides op y) y (word x b) (word w b) (word_less b))
    word_less (IsNull equal p) =
        less_then (word x p) (word w p) (λ z. Given (truth (if is_zero z then equal else not equal))) (λ z. Given (truth (if is_zero z then equal else not equal))) (word_less p) (λ z. refl)
    word_less (Waiting at) = less_same (found (slice_get x.waits at)) (found (slice_get w.waits at)) (ap (λ zs. found (slice_get zs at)) grows.waits)
    word_less EndOfFile = ap (λ r. Given (truth (at_end r))) grows.rest
    word_less Nothing = tt

    pub indexes_less : (c : Code) → Less (indexes x c) (indexes w c)
    indexes_less (Local at i) = word_less i
    indexes_less (Global at i) = word_less i
    indexes_less (Via p at i j) = less_then (indexes x p) (indexes w p) (λ q. word x i) (λ q. word w i) (indexes_less p) (λ q. word_less i)
    indexes_less c = refl

  -- ---- places

  spots_less : (i j : ℕ) → j ≡ i → Less (stack_spot x i) (stack_spot w j)
  spots_less i j same =
      less_same (stack_spot x i) (stack_spot w j) (ap (stack_spot w) same ∙ ap (λ (zs : List ℤ). if nat_le i (length zs) then Given (InStack i) else Broken) grows.stack)

  cells_less : (o n : ℕ) → Less (cell_spot x o n) (cell_spot w o n)
  cells_less o zero = refl
  cells_less o (suc n) = by (nat_lt n most_cells && nat_lt o most_offsets)
    where
      by : (b : Bool) → Less (if b then touched (slice_get x.cells n) (λ (c : Cell). Given (InCell n o)) else Broken) (if b then touched (slice_get w.cells n) (λ (c : Cell). Given (InCell n o)) else Broken)
      by true = touched_less n (λ (c : Cell). Given (InCell n o))
      by false = tt

  pub spot_less : (p : Place) → Less (spot x p) (spot w p)
  spot_less (InFrame at i) =
      less_then (word x i) (word w i) (λ o. stack_spot x (x.base + at + unsigned_abs o)) (λ o. stack_spot w (w.base + at + unsigned_abs o)) (word_less i)
      (λ o. spots_less (x.base + at + unsigned_abs o) (w.base + at + unsigned_abs o) (ap (λ b. b + at + unsigned_abs o) grows.base))
  spot_less (InPackages at i) =
      less_then (word x i) (word w i) (λ o. stack_spot x (at + unsigned_abs o)) (λ o. stack_spot w (at + unsigned_abs o)) (word_less i) (λ o. spots_less (at + unsigned_abs o) (at + unsigned_abs o) refl)
  spot_less (Behind p at i) =
      less_then (indexes x p) (indexes w p) (λ q. and_then (word x i) (λ o. and_then (word x p) (λ z. cell_spot x (at + unsigned_abs o) (unsigned_abs z))))
      (λ q. and_then (word w i) (λ o. and_then (word w p) (λ z. cell_spot w (at + unsigned_abs o) (unsigned_abs z)))) (indexes_less p)
      (λ q. less_then (word x i) (word w i) (λ o. and_then (word x p) (λ z. cell_spot x (at + unsigned_abs o) (unsigned_abs z))) (λ o. and_then (word w p) (λ z. cell_spot w (at + unsigned_abs o) (unsigned_abs z))) (word_less i)
      (λ o. less_then (word x p) (word w p) (λ z. cell_spot x (at + unsigned_abs o) (unsigned_abs z)) (λ z. cell_spot w (at + unsigned_abs o) (unsigned_abs z)) (word_less p) (λ z. cells_less (at + unsigned_abs o) (unsigned_abs z))))

  pub words_less : (q : Spot) (ks : List Kind) → Less (words_at x q ks) (words_at w q ks)
  words_less (InStack n) ks = less_same (words_at x (InStack n) ks) (words_at w (InStack n) ks) (ap (λ zs. front ks (drop n zs)) grows.stack)
  words_less (InCell n o) ks = touched_less n (front_of_cell o ks)
