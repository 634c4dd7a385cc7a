-- Where no word of a memory is gone, no access value that is looked at is.
use Rattle.std.proofs.Common.{◌≡◌, refl, sym, ap, ◌∙◌, subst, ℕ, zero, suc, ◌+◌, Bool, true, false, ◌&&◌, nat_lt, List, [], ◌∷◌, map, drop, length, slice_get, Option, Some, None, ℤ, if◌then◌else◌}
use Rattle.std.specs.Prelude.{unsigned_abs}
use Rattle.numbered_cells.specs.run_values.declared.value.Value.{Value}
use Rattle.numbered_cells.specs.run_values.declared.value.Kind.{Kind}
use Rattle.numbered_cells.specs.run_values.declared.value.Kind.TheVariants as sort
use Rattle.numbered_cells.specs.run_values.Values.{kind}
use Rattle.numbered_cells.specs.kept_cells.Cells.{Cell}
use Rattle.numbered_cells.specs.run_codes.Codes.{Code, Number, Local, Global, Via, Scaled, Plus, Unary, Binary, Short, IsNull, Waiting, EndOfFile, Nothing}
use Rattle.numbered_cells.specs.run_codes.Flat.{Flat, Got, Given, Stops, Broken, and_then, found, is_word, word_of, words_in, same_kind, have_kinds, most_cells, most_offsets, touched, value_word, behind_at, front_of_cell, Spot, InStack, InCell}
use Rattle.numbered_cells.specs.run_codes.Flat as flat
use Rattle.handled_runs.specs.Looks.{IsKept, Looks, IsFront, IsKeptAs, AreKept, IsClear}
use Rattle.handled_runs.specs.Alike.{StandAt}
use Rattle.handled_runs.proofs.Gots.{there_of}
use Rattle.handled_runs.proofs.Named.{kind_same}
use Rattle.handled_runs.proofs.Standing.{drop_map, kinds_front}

slice_kept : (ks : List Kind) (zs : List ℤ) (i : ℕ) (z : ℤ) → slice_get ks i ≡ Some sort.Access → slice_get zs i ≡ Some z → AreKept ks zs → IsKept z
slice_kept [] zs i z is at kept = cc
slice_kept (j ∷ ks) [] i z is at kept = cc
slice_kept (j ∷ ks) (y ∷ zs) zero z is at kept =
    let one : j ≡ sort.Access = cc in
    let two : y ≡ z = cc in
    subst IsKept two (subst (λ q. IsKeptAs q y) one kept.0)
slice_kept (j ∷ ks) (y ∷ zs) (suc i) z is at kept = slice_kept ks zs i z is at kept.1

found_is : {A : Type 0} (x : Option A) (a : A) → found x ≡ Given a → x ≡ Some a
found_is (Some b) a e = let same : b ≡ a = cc in ap Some same
found_is None a e = cc

one_kept : (ws : List Value) (o : ℕ) (z : ℤ) → AreKept (map kind ws) (words_in ws) → value_word sort.Access (slice_get ws o) ≡ Given z → IsKept z
one_kept [] o z kept e = cc
one_kept (v ∷ ws) zero z kept e = by (same_kind (kind v) sort.Access) refl e
  where
    by : (b : Bool) → same_kind (kind v) sort.Access ≡ b → (if b then Given (word_of v) else Broken) ≡ Given z → IsKept z
    by true same e = let word : word_of v ≡ z = cc in subst IsKept word (subst (λ q. IsKeptAs q (word_of v)) (kind_same (kind v) sort.Access same) kept.0)
    by false same e = cc
one_kept (v ∷ ws) (suc o) z kept e = one_kept ws o z kept.1 e

pub drop_kept : (n : ℕ) (ks : List Kind) (zs : List ℤ) → AreKept ks zs → AreKept (drop n ks) (drop n zs)
drop_kept zero ks zs kept = kept
drop_kept (suc n) [] zs kept = tt
drop_kept (suc n) (k ∷ ks) [] kept = nothing (drop n ks)
  where
    nothing : (ks : List Kind) → AreKept ks []
    nothing [] = tt
    nothing (k ∷ ks) = tt
drop_kept (suc n) (k ∷ ks) (z ∷ zs) kept = drop_kept n ks zs kept.1

pub front_kept : (ks js : List Kind) (zs us : List ℤ) → IsFront ks js → flat.front ks zs ≡ Given us → AreKept js zs → AreKept ks us
front_kept [] js zs us is e kept = tt
front_kept (k ∷ ks) [] zs us is e kept = absurd is
front_kept (k ∷ ks) (j ∷ js) [] us is e kept = cc
front_kept (k ∷ ks) (j ∷ js) (z ∷ zs) us is e kept = by (is_word k z) (flat.front ks zs) refl e (λ more found. front_kept ks js zs more is.1 found kept.1)
  where
    by : (b : Bool) (g : Got (List ℤ)) → flat.front ks zs ≡ g → (if b then and_then g (λ more. Given (z ∷ more)) else Broken) ≡ Given us
        → ((more : List ℤ) → flat.front ks zs ≡ Given more → AreKept ks more) → AreKept (k ∷ ks) us
    by true (Given more) found f on =
        let same : z ∷ more ≡ us = cc in
        subst (AreKept (k ∷ ks)) same (subst (λ q. IsKeptAs q z) (sym is.0) kept.0, on more found)
    by true (Stops t) found f on = cc
    by true Broken found f on = cc
    by false g found f on = cc

module _ (here taken : List Kind) (m : Flat) (clear : IsClear here taken m) where
  behind_kept : (o i : ℕ) (z : ℤ) → behind_at m o sort.Access i ≡ Given z → IsKept z
  behind_kept o zero z e = cc
  behind_kept o (suc n) z e = by (nat_lt n most_cells && nat_lt o most_offsets) e
    where
      by : (b : Bool) → (if b then touched (slice_get m.cells n) (λ (c : Cell). value_word sort.Access (slice_get c.words o)) else Broken) ≡ Given z → IsKept z
      by true f =
          let there = there_of (slice_get m.cells n) (λ (c : Cell). value_word sort.Access (slice_get c.words o)) z f in
          one_kept there.0 o z (clear.cells n (record { words = there.0; freed = false }) there.1) (sym (ap (λ x. touched x (λ (c : Cell). value_word sort.Access (slice_get c.words o))) there.1) ∙ f)
      by false f = cc

  pub word_kept : (c : Code) (z : ℤ) → Looks m here taken c sort.Access → flat.word m c ≡ Given z → IsKept z
  unfolding flat.word Looks
  word_kept (Number y) z looks e = let same : y ≡ z = cc in subst IsKept same (subst IsKept (sym looks) tt)
  word_kept (Local at i) z looks e = by (flat.word m i) looks.1 e
    where
      by : (g : Got ℤ) → ((o : ℤ) → g ≡ Given o → slice_get here (m.base + at + unsigned_abs o) ≡ Some sort.Access)
          → and_then g (λ o. found (slice_get m.stack (m.base + at + unsigned_abs o))) ≡ Given z → IsKept z
      by (Given o) is e = slice_kept here m.stack (m.base + at + unsigned_abs o) z (is o refl) (found_is (slice_get m.stack (m.base + at + unsigned_abs o)) z e) clear.stack
      by (Stops t) is e = cc
      by Broken is e = cc
  word_kept (Global at i) z looks e = by (flat.word m i) looks.1 e
    where
      by : (g : Got ℤ) → ((o : ℤ) → g ≡ Given o → slice_get here (at + unsigned_abs o) ≡ Some sort.Access)
          → and_then g (λ o. found (slice_get m.stack (at + unsigned_abs o))) ≡ Given z → IsKept z
      by (Given o) is e = slice_kept here m.stack (at + unsigned_abs o) z (is o refl) (found_is (slice_get m.stack (at + unsigned_abs o)) z e) clear.stack
      by (Stops t) is e = cc
      by Broken is e = cc
  word_kept (Via p at i j) z looks e = by (flat.indexes m p) (flat.word m i) (flat.word m p) (subst (λ q. flat.word m (Via p at i q) ≡ Given z) looks.0 e)
    where
      by : (x w v : Got ℤ) → and_then x (λ q. and_then w (λ o. and_then v (flat.behind m (at + unsigned_abs o) sort.Access))) ≡ Given z → IsKept z
      by (Given x) (Given o) (Given y) e = behind_kept (at + unsigned_abs o) (unsigned_abs y) z e
      by (Given x) (Given o) (Stops t) e = cc
      by (Given x) (Given o) Broken e = cc
      by (Given x) (Stops t) v e = cc
      by (Given x) Broken v e = cc
      by (Stops t) w v e = cc
      by Broken w v e = cc
  word_kept (Scaled i low high size) z looks e = absurd looks.0
  word_kept (Plus a b) z looks e = absurd looks.0
  word_kept (Unary op a) z looks e = absurd looks.0
  word_kept (Binary op a b) z looks e = absurd looks.0
  word_kept (Short op a b) z looks e = absurd looks.0
  word_kept (IsNull equal p) z looks e = absurd looks.0
  word_kept (Waiting at) z looks e = slice_kept taken m.waits at z looks (found_is (slice_get m.waits at) z e) clear.waits
  word_kept EndOfFile z looks e = absurd looks
  word_kept Nothing z looks e = cc

  -- What stands at a spot.
  pub words_kept : (q : Spot) (ks : List Kind) (zs : List ℤ) → StandAt m here q ks → flat.words_at m q ks ≡ Given zs → AreKept ks zs
  words_kept (InStack n) ks zs stand e = front_kept ks (drop n here) (drop n m.stack) zs stand.0 e (drop_kept n here m.stack clear.stack)
  words_kept (InCell n o) ks zs stand e =
      let there = there_of (slice_get m.cells n) (front_of_cell o ks) zs e in
      by there.0 (nat_lt (o + length ks) most_offsets) (have_kinds ks (drop o there.0)) refl (clear.cells n (record { words = there.0; freed = false }) there.1) (sym (ap (λ x. touched x (front_of_cell o ks)) there.1) ∙ e)
    where
      by : (ws : List Value) (a b : Bool) → have_kinds ks (drop o ws) ≡ b → AreKept (map kind ws) (words_in ws) → (if a && b then flat.front ks (drop o (words_in ws)) else Broken) ≡ Given zs → AreKept ks zs
      by ws true true have kept f =
          front_kept ks (drop o (map kind ws)) (drop o (words_in ws)) zs (subst (λ js. IsFront ks js) (sym (drop_map kind o ws)) (kinds_front ks (drop o ws) have)) f (drop_kept o (map kind ws) (words_in ws) kept)
      by ws true false have kept f = cc
      by ws false b have kept f = cc
