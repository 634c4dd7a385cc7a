-- What codes give, and what stands at a spot, names cells that were made.
use Rattle.std.proofs.Common.{◌≡◌, refl, sym, ap, ◌∙◌, subst, ℕ, zero, suc, ◌+◌, ◌-◌, Bool, true, false, ◌&&◌, nat_lt, List, [], ◌∷◌, map, drop, length, slice_get, Option, Some, None, ℤ, pos, negsuc, if◌then◌else◌}
use Rattle.std.specs.Prelude.{unsigned_abs}
use Rattle.numbered_cells.specs.run_values.declared.value.Value.{Value}
use Rattle.numbered_cells.specs.run_values.declared.value.Value.TheVariants as value
use Rattle.numbered_cells.specs.run_values.declared.value.Kind.{Kind}
use Rattle.numbered_cells.specs.run_values.declared.value.Kind.TheVariants as sort
use Rattle.numbered_cells.specs.run_values.Values.{kind}
use Rattle.numbered_cells.specs.kept_cells.Cells.{Cell}
use Rattle.numbered_cells.specs.run_codes.Codes.{Code, Number, Local, Global, Via, Scaled, Plus, Unary, Binary, Short, IsNull, Waiting, EndOfFile, Nothing}
use Rattle.numbered_cells.specs.run_codes.Flat.{Flat, Got, Given, Stops, Broken, and_then, found, gone_from, word_of, words_in, same_kind, have_kinds, most_cells, most_offsets, touched, value_word, behind_at, front_of_cell, InCell}
use Rattle.numbered_cells.specs.run_codes.Flat as flat
use Rattle.numbered_cells.specs.Follows.{IsThere, Names, AllName}
use Rattle.handled_runs.specs.Slots.{Slots}
use Rattle.handled_runs.specs.Beside.{NamesWord, NameWords, Beside}
use Rattle.handled_runs.specs.Looks.{IsData, IsNumber, Looks, IsFront}
use Rattle.handled_runs.proofs.Gots.{there_of}
use Rattle.handled_runs.proofs.Named.{kind_same}
use Rattle.handled_runs.proofs.Standing.{drop_map, kinds_front}
use Rattle.handled_runs.proofs.Lists.{front_names}

pub named_data : (bound : ℕ) (k : Kind) (z : ℤ) → IsData k → NamesWord bound k z
named_data bound sort.Int z is = tt
named_data bound sort.Enum z is = tt
named_data bound sort.Access z is = absurd is

pub number_named : (bound : ℕ) (k : Kind) (z : ℤ) → IsNumber k z → NamesWord bound k z
number_named bound sort.Int z is = tt
number_named bound sort.Enum z is = tt
number_named bound sort.Access z is = subst (NamesWord bound sort.Access) (sym is) tt

slice_named : (bound : ℕ) (ks : List Kind) (zs : List ℤ) (i : ℕ) (k : Kind) (z : ℤ) → slice_get ks i ≡ Some k → slice_get zs i ≡ Some z → NameWords bound ks zs → NamesWord bound k z
slice_named bound [] zs i k z is at names = cc
slice_named bound (j ∷ ks) [] i k z is at names = cc
slice_named bound (j ∷ ks) (y ∷ zs) zero k z is at names =
    let one : j ≡ k = cc in
    let two : y ≡ z = cc in
    subst (λ q. NamesWord bound q z) one (subst (NamesWord bound j) two names.0)
slice_named bound (j ∷ ks) (y ∷ zs) (suc i) k z is at names = slice_named bound ks zs i k z is at names.1

found_is : {A : Type 0} (x : Option A) (a : A) → found x ≡ Given a → x ≡ Some a
found_is (Some b) a e = let same : b ≡ a = cc in ap Some same
found_is None a e = cc

-- ---- words of cells

value_named : (bound : ℕ) (v : Value) → Names bound v → NamesWord bound (kind v) (word_of v)
value_named bound (value.Int i) names = tt
value_named bound (value.Enum n) names = tt
value_named bound value.Null names = tt
value_named bound (value.Cell n) names = by (nat_lt n gone_from) refl
  where
    by : (b : Bool) → nat_lt n gone_from ≡ b → NamesWord bound sort.Access (if b then pos (suc n) else negsuc (n - gone_from))
    by true low = names low
    by false low = tt

values_named : (bound : ℕ) (ws : List Value) → AllName bound ws → NameWords bound (map kind ws) (words_in ws)
values_named bound [] names = tt
values_named bound (v ∷ ws) names = (value_named bound v names.0, values_named bound ws names.1)

one_named : (bound : ℕ) (ws : List Value) (o : ℕ) (k : Kind) (z : ℤ) → AllName bound ws → value_word k (slice_get ws o) ≡ Given z → NamesWord bound k z
one_named bound [] o k z names e = cc
one_named bound (v ∷ ws) zero k z names e = by (same_kind (kind v) k) refl e
  where
    by : (b : Bool) → same_kind (kind v) k ≡ b → (if b then Given (word_of v) else Broken) ≡ Given z → NamesWord bound k z
    by true same e = let word : word_of v ≡ z = cc in subst (λ q. NamesWord bound q z) (kind_same (kind v) k same) (subst (NamesWord bound (kind v)) word (value_named bound v names.0))
    by false same e = cc
one_named bound (v ∷ ws) (suc o) k z names e = one_named bound ws o k z names.1 e

pub drop_named : (bound n : ℕ) (js : List Kind) (zs : List ℤ) → NameWords bound js zs → NameWords bound (drop n js) (drop n zs)
drop_named bound zero js zs names = names
drop_named bound (suc n) [] zs names = tt
drop_named bound (suc n) (j ∷ js) [] names = nothing (drop n js)
  where
    nothing : (js : List Kind) → NameWords bound js []
    nothing [] = tt
    nothing (j ∷ js) = tt
drop_named bound (suc n) (j ∷ js) (z ∷ zs) names = drop_named bound n js zs names.1

module _ (handles : List ℕ) (here taken : List Kind) (m : Flat) (s : Slots) (beside : Beside handles here taken m s) where
  abbrev bound : ℕ
  bound = length handles

  behind_named : (o : ℕ) (k : Kind) (i : ℕ) (z : ℤ) → behind_at m o k i ≡ Given z → NamesWord bound k z
  behind_named o k zero z e = cc
  behind_named o k (suc n) z e = by (nat_lt n most_cells && nat_lt o most_offsets) e
    where
      by : (b : Bool) → (if b then touched (slice_get m.cells n) (λ (c : Cell). value_word k (slice_get c.words o)) else Broken) ≡ Given z → NamesWord bound k z
      by true f =
          let there = there_of (slice_get m.cells n) (λ (c : Cell). value_word k (slice_get c.words o)) z f in
          one_named bound there.0 o k z (beside.cells.names n there.0 there.1) (sym (ap (λ x. touched x (λ (c : Cell). value_word k (slice_get c.words o))) there.1) ∙ f)
      by false f = cc

  pub word_named : (c : Code) (k : Kind) (z : ℤ) → Looks m here taken c k → flat.word m c ≡ Given z → NamesWord bound k z
  unfolding flat.word Looks
  word_named (Number y) k z looks e = let same : y ≡ z = cc in subst (NamesWord bound k) same (number_named bound k y looks)
  word_named (Local at i) k z looks e = by (flat.word m i) looks.1 e
    where
      by : (g : Got ℤ) → ((o : ℤ) → g ≡ Given o → slice_get here (m.base + at + unsigned_abs o) ≡ Some k)
          → and_then g (λ o. found (slice_get m.stack (m.base + at + unsigned_abs o))) ≡ Given z → NamesWord bound k z
      by (Given o) is e = slice_named bound here m.stack (m.base + at + unsigned_abs o) k z (is o refl) (found_is (slice_get m.stack (m.base + at + unsigned_abs o)) z e) beside.names
      by (Stops t) is e = cc
      by Broken is e = cc
  word_named (Global at i) k z looks e = by (flat.word m i) looks.1 e
    where
      by : (g : Got ℤ) → ((o : ℤ) → g ≡ Given o → slice_get here (at + unsigned_abs o) ≡ Some k)
          → and_then g (λ o. found (slice_get m.stack (at + unsigned_abs o))) ≡ Given z → NamesWord bound k z
      by (Given o) is e = slice_named bound here m.stack (at + unsigned_abs o) k z (is o refl) (found_is (slice_get m.stack (at + unsigned_abs o)) z e) beside.names
      by (Stops t) is e = cc
      by Broken is e = cc
  word_named (Via p at i j) k z looks e = by (flat.indexes m p) (flat.word m i) (flat.word m p) e
    where
      by : (x w v : Got ℤ) → and_then x (λ q. and_then w (λ o. and_then v (flat.behind m (at + unsigned_abs o) j))) ≡ Given z → NamesWord bound k z
      by (Given x) (Given o) (Given y) e = subst (λ q. NamesWord bound q z) looks.0 (behind_named (at + unsigned_abs o) j (unsigned_abs y) z e)
      by (Given x) (Given o) (Stops t) e = cc
      by (Given x) (Given o) Broken e = cc
      by (Given x) (Stops t) v e = cc
      by (Given x) Broken v e = cc
      by (Stops t) w v e = cc
      by Broken w v e = cc
  word_named (Scaled i low high size) k z looks e = named_data bound k z looks.0
  word_named (Plus a b) k z looks e = named_data bound k z looks.0
  word_named (Unary op a) k z looks e = named_data bound k z looks.0
  word_named (Binary op a b) k z looks e = named_data bound k z looks.0
  word_named (Short op a b) k z looks e = named_data bound k z looks.0
  word_named (IsNull equal p) k z looks e = named_data bound k z looks.0
  word_named (Waiting at) k z looks e = slice_named bound taken m.waits at k z looks (found_is (slice_get m.waits at) z e) beside.waiting_names
  word_named EndOfFile k z looks e = named_data bound k z looks
  word_named Nothing k z looks e = cc

  -- Words of a cell that is there.
  pub cell_named : (n o : ℕ) (ws : List Value) (ks : List Kind) (zs : List ℤ) → IsThere m.cells n ws → flat.words_at m (InCell n o) ks ≡ Given zs → NameWords bound ks zs
  cell_named n o ws ks zs there e = by (nat_lt (o + length ks) most_offsets) (have_kinds ks (drop o ws)) refl (sym (ap (λ x. touched x (front_of_cell o ks)) there) ∙ e)
    where
      by : (a b : Bool) → have_kinds ks (drop o ws) ≡ b → (if a && b then flat.front ks (drop o (words_in ws)) else Broken) ≡ Given zs → NameWords bound ks zs
      by true true have f =
          front_names bound ks (drop o (map kind ws)) (drop o (words_in ws)) zs
          (subst (λ js. IsFront ks js) (sym (drop_map kind o ws)) (kinds_front ks (drop o ws) have)) f
          (drop_named bound o (map kind ws) (words_in ws) (values_named bound ws (beside.cells.names n ws there)))
      by true false have f = cc
      by false b have f = cc
