-- What leak checks tell of is there also after values were moved and made, where it was there before.
use Rattle.std.proofs.Common.{◌≡◌, refl, sym, ap, ◌∙◌, subst, ℕ, zero, suc, ◌≤◌, Bool, true, false, List, [], ◌∷◌, drop, length, get_or, slice_get, Some, ℤ, pos, negsuc, if◌then◌else◌, arith}
use Rattle.machine.specs.type_definitions.Types.{Table}
use Rattle.kept_cells.specs.run_values.declared.value.Value.{Value}
use Rattle.kept_cells.specs.run_values.declared.value.Kind.{Kind}
use Rattle.kept_cells.specs.run_values.declared.value.Kind.TheVariants as sort
use Rattle.kept_cells.specs.Cells.{Cell}
use Rattle.run_codes.specs.Codes.{Place}
use Rattle.run_codes.specs.Flat.{Flat, Got, Given, Stops, Broken, touched, as_fresh, all_fresh, are_in, front_of_cell, words_in, Spot, InStack, InCell, spot, words_at}
use Rattle.run_codes.specs.Flat as flat
use Rattle.numbered_cells.specs.Follows.{IsThere}
use Rattle.handled_runs.specs.Beside.{mapped}
use Rattle.handled_runs.specs.Leaks.{IsLeaked, AreLeaked}
use Rattle.handled_runs.specs.Looks.{LooksAt, AreKept}
use Rattle.handled_runs.specs.Alike.{StandAt}
use Rattle.handled_runs.specs.Marks.{CellsUnmarked, IsUnmarked}
use Rattle.handled_runs.proofs.Gots.{there_of}
use Rattle.handled_runs.proofs.Standing.{front_long}
use Rattle.handled_runs.proofs.Unmarked.{spot_same, words_fresh, fresh_long}
use Rattle.recycled_runs.proofs.More.{Less, Grows, slice_more, spot_less, words_less}
use Rattle.recycled_runs.proofs.Growing.{Grown}
use Rattle.soundness.proofs.Parted.{some_same}
use Rattle.std.proofs.lemmas.Bool.{false≢true}
use Rattle.recycled_runs.proofs.Parted.{is_given}
use Rattle.std.specs.Prelude.{is_some}

given_same : {A : Type 0} (a b : A) → Given a ≡ Given b → a ≡ b
given_same a b e = cc

-- ---- cells

cell_on : (cs ds : List Cell) (n : ℕ) (ws : List Value) → CellsUnmarked cs ds → IsThere cs n ws → (us : List Value) × IsThere ds n us
cell_on [] ds n ws are there = absurd (false≢true (ap is_some there))
cell_on (c ∷ cs) [] n ws are there = absurd are
cell_on (c ∷ cs) (d ∷ ds) zero ws are there =
    let same : c ≡ record { words = ws; freed = false } = some_same there in
    (d.words, ap (λ b. Some (record { words = d.words; freed = b })) (sym are.0 ∙ ap (λ (k : Cell). k.freed) same))
cell_on (c ∷ cs) (d ∷ ds) (suc n) ws are there = cell_on cs ds n ws are.2 there

module _ (x w m : Flat) (here : List Kind) (grows : Grows x w) (un : IsUnmarked here w m) where
  leaked_on : (z : ℤ) → IsLeaked x.cells z → IsLeaked m.cells z
  leaked_on (pos zero) is = tt
  leaked_on (negsuc n) is = tt
  leaked_on (pos (suc n)) is =
      cell_on w.cells m.cells n is.0 un.cells (ap (λ cs. slice_get cs n) grows.cells ∙ slice_more x.cells grows.more n (record { words = is.0; freed = false }) is.1)

  fresh_at : (ks : List Kind) (us : List ℤ) (o n : ℕ) → length ks ≡ length us → get_or us o (pos 0) ≡ pos (suc n) → get_or (all_fresh ks us) o (pos 0) ≡ pos (suc n)
  fresh_at [] [] o n long is = is
  fresh_at [] (u ∷ us) o n long is = absurd (omega (arith, long))
  fresh_at (k ∷ ks) [] o n long is = absurd (omega (arith, long))
  fresh_at (k ∷ ks) (u ∷ us) zero n long is = subst (λ z. as_fresh k z ≡ pos (suc n)) (sym is) (one k)
    where
      one : (k : Kind) → as_fresh k (pos (suc n)) ≡ pos (suc n)
      one sort.Int = refl
      one sort.Enum = refl
      one sort.Access = refl
  fresh_at (k ∷ ks) (u ∷ us) (suc o) n long is = fresh_at ks us o n (omega (arith, long)) is

  all_on : (ks : List Kind) (us : List ℤ) (offsets : List ℕ) → length ks ≡ length us → AreLeaked x.cells (all_fresh ks us) offsets → AreLeaked m.cells us offsets
  all_on ks us [] long are = tt
  all_on ks us (o ∷ offsets) long are = (one (get_or us o (pos 0)) refl, all_on ks us offsets long are.1)
    where
      one : (z : ℤ) → get_or us o (pos 0) ≡ z → IsLeaked m.cells z
      one (pos zero) is = tt
      one (negsuc n) is = tt
      one (pos (suc n)) is = leaked_on (pos (suc n)) (subst (IsLeaked x.cells) (fresh_at ks us o n long is) are.0)

words_long : (m : Flat) (q : Spot) (ks : List Kind) (us : List ℤ) → words_at m q ks ≡ Given us → length ks ≡ length us
words_long m (InStack n) ks us e = front_long ks (drop n m.stack) us e
words_long m (InCell n o) ks us e =
    let there = there_of (slice_get m.cells n) (front_of_cell o ks) us e in
    by (are_in o ks (record { words = there.0; freed = false })) there.0 (sym (ap (λ c. touched c (front_of_cell o ks)) there.1) ∙ e)
  where
    by : (b : Bool) (ws : List Value) → (if b then flat.front ks (drop o (words_in ws)) else Broken) ≡ Given us → length ks ≡ length us
    by true ws f = front_long ks (drop o (words_in ws)) us f
    by false ws f = absurd (false≢true (ap is_given f))

-- ---- the law

module _ (table : Table) (here taken : List Kind) (x : Flat) (kept : AreKept taken x.waits) (n : Flat) (grown : Grown table here taken x n) where
  -- What a place leads to then it led to before.
  pub spot_back : (p : Place) → LooksAt n here taken p → (spot x p ≡ Broken → ⊥) → (q : Spot) → spot n p ≡ Given q → spot x p ≡ Given q
  spot_back p looks whole q e = by (spot x p) refl (spot_less x grown.whole grown.grows p)
    where
      waits : AreKept taken n.waits
      waits = subst (AreKept taken) (sym grown.grows.waits ∙ grown.unmarked.waits) kept

      there : spot grown.whole p ≡ Given q
      there = spot_same here taken grown.whole n grown.unmarked waits p looks ∙ e

      by : (g : Got Spot) → spot x p ≡ g → Less g (spot grown.whole p) → spot x p ≡ Given q
      by (Given r) is less = is ∙ (sym less ∙ there)
      by (Stops s) is less = absurd (false≢true (ap is_given (sym less ∙ there)))
      by Broken is less = absurd (whole is)

  pub stand_then : (q : Spot) (ks : List Kind) → StandAt x here q ks → StandAt n here q ks
  stand_then (InStack i) ks stand = (stand.0, subst (λ k. i ≤ k) (sym (ap length grown.grows.stack) ∙ (long ∙ grown.unmarked.known)) stand.1)
    where
      long : length grown.whole.stack ≡ length here
      long = ap length grown.unmarked.stack ∙ (fresh_long here n.stack grown.unmarked.known ∙ sym grown.unmarked.known)
  stand_then (InCell i o) ks stand = tt

  -- So what leak checks tell of there is there, if it was before.
  pub leaked_then : (q : Spot) (ks : List Kind) (offsets : List ℕ) (vs : List ℤ) → StandAt x here q ks → words_at x q ks ≡ Given vs → AreLeaked x.cells vs offsets
      → (us : List ℤ) → words_at n q ks ≡ Given us → AreLeaked n.cells us offsets
  leaked_then q ks offsets vs stand before are us e =
      let waits : AreKept taken n.waits = subst (AreKept taken) (sym grown.grows.waits ∙ grown.unmarked.waits) kept in
      let fresh : words_at grown.whole q ks ≡ mapped (all_fresh ks) (words_at n q ks) = words_fresh here taken grown.whole n grown.unmarked waits q ks (stand_then q ks stand) in
      let less : words_at grown.whole q ks ≡ Given vs = subst (λ g. Less g (words_at grown.whole q ks)) before (words_less x grown.whole grown.grows q ks) in
      let same : vs ≡ all_fresh ks us = given_same vs (all_fresh ks us) (sym less ∙ (fresh ∙ ap (mapped (all_fresh ks)) e)) in
      all_on x grown.whole n here grown.grows grown.unmarked ks us offsets (words_long n q ks us e) (subst (λ zs. AreLeaked x.cells zs offsets) same are)
