-- Without its marks a memory gives the same, but for the marks.
use Rattle.std.proofs.Common.{◌≡◌, refl, sym, ap, ◌∙◌, subst, ℕ, zero, suc, ◌+◌, Bool, true, false, not, ◌&&◌, nat_le, nat_lt, List, [], ◌∷◌, map, drop, length, slice_get, Some, ℤ, pos, negsuc, if◌then◌else◌}
use Rattle.std.specs.Prelude.{unsigned_abs}
use Rattle.numbered_cells.specs.run_values.declared.value.Value.{Value}
use Rattle.numbered_cells.specs.run_values.declared.value.Kind.{Kind}
use Rattle.numbered_cells.specs.run_values.declared.value.Kind.TheVariants as sort
use Rattle.numbered_cells.specs.run_values.Values.{kind}
use Rattle.numbered_cells.specs.run_values.Items.{at_end}
use Rattle.numbered_cells.specs.machine.Evaluate.{Touched}
use Rattle.numbered_cells.specs.kept_cells.Cells.{Cell}
use Rattle.numbered_cells.specs.run_codes.Codes.{Code, Number, Local, Global, Via, Scaled, Plus, Unary, Binary, Short, IsNull, Waiting, EndOfFile, Nothing, Place, InFrame, InPackages, Behind}
use Rattle.numbered_cells.specs.run_codes.Flat.{Flat, Got, Given, Stops, Broken, Traps, and_then, found, truth, is_zero, access, operated, operated_alone, decides, offset, scaled, is_word, as_fresh, all_fresh, word_of, words_in, same_kind, have_kinds, most_cells, most_offsets, touched, value_word, behind, behind_at, are_in, front_of_cell, word, indexes, Spot, InStack, InCell, spot, stack_spot, cell_spot, words_at, held}
use Rattle.numbered_cells.specs.run_codes.Flat as flat
use Rattle.handled_runs.specs.Beside.{mapped}
use Rattle.handled_runs.specs.Looks.{IsData, Looks, LooksAt, IsFront, IsKeptAs, AreKept, IsClear}
use Rattle.handled_runs.specs.Alike.{StandAt}
use Rattle.handled_runs.specs.Marks.{ValueUnmarked, ValuesUnmarked, CellsUnmarked, IsUnmarked}
use Rattle.handled_runs.proofs.Named.{kind_same}
use Rattle.handled_runs.proofs.Standing.{drop_map, kinds_front}

-- ---- what is read, one after the other

then_on : {A B : Type 0} (g h : Got A) (F G : A → Got B) → g ≡ h → ((a : A) → h ≡ Given a → F a ≡ G a) → and_then g F ≡ and_then h G
then_on {A = A} g h F G e on = ap (λ y. and_then y F) e ∙ by h on
  where
    by : (y : Got A) → ((a : A) → y ≡ Given a → F a ≡ G a) → and_then y F ≡ and_then y G
    by (Given a) on = on a refl
    by (Stops t) on = refl
    by Broken on = refl

then_mapped : {A B C : Type 0} (f : A → B) (g : Got A) (F : B → Got C) → and_then (mapped f g) F ≡ and_then g (λ a. F (f a))
then_mapped f (Given a) F = refl
then_mapped f (Stops t) F = refl
then_mapped f Broken F = refl

mapped_then : {A B C : Type 0} (f : B → C) (g : Got A) (F : A → Got B) → mapped f (and_then g F) ≡ and_then g (λ a. mapped f (F a))
mapped_then f (Given a) F = refl
mapped_then f (Stops t) F = refl
mapped_then f Broken F = refl

mapped_itself : (g : Got ℤ) → mapped (λ z. z) g ≡ g
mapped_itself (Given z) = refl
mapped_itself (Stops t) = refl
mapped_itself Broken = refl

pub fresh_data : (k : Kind) → IsData k → (g : Got ℤ) → mapped (as_fresh k) g ≡ g
fresh_data sort.Int is g = mapped_itself g
fresh_data sort.Enum is g = mapped_itself g
fresh_data sort.Access is g = absurd is

-- ---- lists of words

slice_fresh : (ks : List Kind) (zs : List ℤ) (i : ℕ) (k : Kind) → slice_get ks i ≡ Some k → found (slice_get (all_fresh ks zs) i) ≡ mapped (as_fresh k) (found (slice_get zs i))
slice_fresh [] zs i k is = cc
slice_fresh (j ∷ ks) [] i k is = refl
slice_fresh (j ∷ ks) (z ∷ zs) zero k is = ap (λ x. Given (as_fresh x z)) (let same : j ≡ k = cc in same)
slice_fresh (j ∷ ks) (z ∷ zs) (suc i) k is = slice_fresh ks zs i k is

pub drop_fresh : (n : ℕ) (ks : List Kind) (zs : List ℤ) → drop n (all_fresh ks zs) ≡ all_fresh (drop n ks) (drop n zs)
drop_fresh zero ks zs = refl
drop_fresh (suc n) [] zs = none n (drop (suc n) zs)
  where
    none : (n : ℕ) (zs : List ℤ) → drop (suc n) [] ≡ all_fresh [] zs
    none n zs = refl
drop_fresh (suc n) (k ∷ ks) [] = nothing (drop n ks)
  where
    nothing : (js : List Kind) → [] ≡ all_fresh js []
    nothing [] = refl
    nothing (j ∷ js) = refl
drop_fresh (suc n) (k ∷ ks) (z ∷ zs) = drop_fresh n ks zs

pub fresh_long : (ks : List Kind) (zs : List ℤ) → length ks ≡ length zs → length (all_fresh ks zs) ≡ length zs
fresh_long [] [] e = refl
fresh_long [] (z ∷ zs) e = cc
fresh_long (k ∷ ks) [] e = cc
fresh_long (k ∷ ks) (z ∷ zs) e = ap suc (fresh_long ks zs (let same : length ks ≡ length zs = cc in same))

twice : (k : Kind) (z : ℤ) → as_fresh k (as_fresh k z) ≡ as_fresh k z
twice sort.Int z = refl
twice sort.Enum z = refl
twice sort.Access z = refl

pub all_twice : (ks : List Kind) (zs : List ℤ) → all_fresh ks (all_fresh ks zs) ≡ all_fresh ks zs
all_twice [] zs = refl
all_twice (k ∷ ks) [] = refl
all_twice (k ∷ ks) (z ∷ zs) = ap (λ y. y ∷ all_fresh ks (all_fresh ks zs)) (twice k z) ∙ ap (λ rest. as_fresh k z ∷ rest) (all_twice ks zs)

word_same : (k : Kind) (z : ℤ) → is_word k (as_fresh k z) ≡ is_word k z
word_same sort.Int z = refl
word_same sort.Enum z = refl
word_same sort.Access z = refl

pub front_fresh : (ks js : List Kind) (zs : List ℤ) → IsFront ks js → flat.front ks (all_fresh js zs) ≡ mapped (all_fresh ks) (flat.front ks zs)
front_fresh [] js zs is = refl
front_fresh (k ∷ ks) [] zs is = absurd is
front_fresh (k ∷ ks) (j ∷ js) [] is = refl
front_fresh (k ∷ ks) (j ∷ js) (z ∷ zs) is =
    ap (λ x. if is_word k (as_fresh x z) then and_then (flat.front ks (all_fresh js zs)) (λ more. Given (as_fresh x z ∷ more)) else Broken) (sym is.0)
    ∙ (ap (λ b. if b then and_then (flat.front ks (all_fresh js zs)) (λ more. Given (as_fresh k z ∷ more)) else Broken) (word_same k z) ∙ by (is_word k z) (front_fresh ks js zs is.1))
  where
    more : (g : Got (List ℤ)) → and_then (mapped (all_fresh ks) g) (λ more. Given (as_fresh k z ∷ more)) ≡ mapped (all_fresh (k ∷ ks)) (and_then g (λ more. Given (z ∷ more)))
    more (Given zs) = refl
    more (Stops t) = refl
    more Broken = refl

    by : (b : Bool) → flat.front ks (all_fresh js zs) ≡ mapped (all_fresh ks) (flat.front ks zs)
        → (if b then and_then (flat.front ks (all_fresh js zs)) (λ more. Given (as_fresh k z ∷ more)) else Broken) ≡ mapped (all_fresh (k ∷ ks)) (if b then and_then (flat.front ks zs) (λ more. Given (z ∷ more)) else Broken)
    by true rest = ap (λ g. and_then g (λ more. Given (as_fresh k z ∷ more))) rest ∙ more (flat.front ks zs)
    by false rest = refl

-- What isn't gone has no mark.
pub kept_fresh : (k : Kind) (z : ℤ) → IsKeptAs k z → z ≡ as_fresh k z
kept_fresh sort.Int z kept = refl
kept_fresh sort.Enum z kept = refl
kept_fresh sort.Access (pos n) kept = refl
kept_fresh sort.Access (negsuc n) kept = absurd kept

pub all_kept : (ks : List Kind) (zs : List ℤ) → length ks ≡ length zs → AreKept ks zs → zs ≡ all_fresh ks zs
all_kept [] [] e kept = refl
all_kept [] (z ∷ zs) e kept = cc
all_kept (k ∷ ks) [] e kept = cc
all_kept (k ∷ ks) (z ∷ zs) e kept = ap (λ y. y ∷ zs) (kept_fresh k z kept.0) ∙ ap (λ rest. as_fresh k z ∷ rest) (all_kept ks zs (let same : length ks ≡ length zs = cc in same) kept.1)

slice_waits : (ks : List Kind) (zs : List ℤ) (i : ℕ) (k : Kind) → slice_get ks i ≡ Some k → AreKept ks zs → found (slice_get zs i) ≡ mapped (as_fresh k) (found (slice_get zs i))
slice_waits [] zs i k is kept = cc
slice_waits (j ∷ ks) [] i k is kept = refl
slice_waits (j ∷ ks) (z ∷ zs) zero k is kept = ap Given (subst (λ q. z ≡ as_fresh q z) (let same : j ≡ k = cc in same) (kept_fresh j z kept.0))
slice_waits (j ∷ ks) (z ∷ zs) (suc i) k is kept = slice_waits ks zs i k is kept.1

-- ---- words of cells

one_unmarked : (v w : Value) (k : Kind) → ValueUnmarked v w → value_word k (Some v) ≡ mapped (as_fresh k) (value_word k (Some w))
one_unmarked v w k is = ap (λ j. if same_kind j k then Given (word_of v) else Broken) is.0 ∙ by (same_kind (kind w) k) refl
  where
    by : (b : Bool) → same_kind (kind w) k ≡ b → (if b then Given (word_of v) else Broken) ≡ mapped (as_fresh k) (if b then Given (word_of w) else Broken)
    by true same = ap Given (is.1 ∙ ap (λ j. as_fresh j (word_of w)) (kind_same (kind w) k same))
    by false same = refl

value_unmarked : (vs ws : List Value) (o : ℕ) (k : Kind) → ValuesUnmarked vs ws → value_word k (slice_get vs o) ≡ mapped (as_fresh k) (value_word k (slice_get ws o))
value_unmarked [] [] o k are = refl
value_unmarked [] (w ∷ ws) o k are = absurd are
value_unmarked (v ∷ vs) [] o k are = absurd are
value_unmarked (v ∷ vs) (w ∷ ws) zero k are = one_unmarked v w k are.0
value_unmarked (v ∷ vs) (w ∷ ws) (suc o) k are = value_unmarked vs ws o k are.1

drop_unmarked : (o : ℕ) (vs ws : List Value) → ValuesUnmarked vs ws → ValuesUnmarked (drop o vs) (drop o ws)
drop_unmarked zero vs ws are = are
drop_unmarked (suc o) [] [] are = tt
drop_unmarked (suc o) [] (w ∷ ws) are = absurd are
drop_unmarked (suc o) (v ∷ vs) [] are = absurd are
drop_unmarked (suc o) (v ∷ vs) (w ∷ ws) are = drop_unmarked o vs ws are.1

kinds_unmarked : (ks : List Kind) (vs ws : List Value) → ValuesUnmarked vs ws → have_kinds ks vs ≡ have_kinds ks ws
kinds_unmarked [] vs ws are = refl
kinds_unmarked (k ∷ ks) [] [] are = refl
kinds_unmarked (k ∷ ks) [] (w ∷ ws) are = absurd are
kinds_unmarked (k ∷ ks) (v ∷ vs) [] are = absurd are
kinds_unmarked (k ∷ ks) (v ∷ vs) (w ∷ ws) are = ap (λ j. same_kind j k && have_kinds ks vs) are.0.0 ∙ ap (λ b. same_kind (kind w) k && b) (kinds_unmarked ks vs ws are.1)

words_unmarked : (vs ws : List Value) → ValuesUnmarked vs ws → words_in vs ≡ all_fresh (map kind ws) (words_in ws)
words_unmarked [] [] are = refl
words_unmarked [] (w ∷ ws) are = absurd are
words_unmarked (v ∷ vs) [] are = absurd are
words_unmarked (v ∷ vs) (w ∷ ws) are = ap (λ y. y ∷ words_in vs) are.0.1 ∙ ap (λ rest. as_fresh (kind w) (word_of w) ∷ rest) (words_unmarked vs ws are.1)

-- What is read of a cell.
cell_read : {A B : Type 0} (f : B → A) (F : List Value → Got A) (G : List Value → Got B) → ((vs ws : List Value) → ValuesUnmarked vs ws → F vs ≡ mapped f (G ws))
    → (cs ds : List Cell) (n : ℕ) → CellsUnmarked cs ds → touched (slice_get cs n) (λ (c : Cell). F c.words) ≡ mapped f (touched (slice_get ds n) (λ (c : Cell). G c.words))
cell_read f F G on [] [] n are = refl
cell_read f F G on [] (d ∷ ds) n are = absurd are
cell_read f F G on (c ∷ cs) [] n are = absurd are
cell_read f F G on (c ∷ cs) (d ∷ ds) zero are = ap (λ b. if b then Stops (Traps Touched) else F c.words) are.0 ∙ by d.freed
  where
    by : (b : Bool) → (if b then Stops (Traps Touched) else F c.words) ≡ mapped f (if b then Stops (Traps Touched) else G d.words)
    by true = refl
    by false = on c.words d.words are.1
cell_read f F G on (c ∷ cs) (d ∷ ds) (suc n) are = cell_read f F G on cs ds n are.2

front_unmarked : (o : ℕ) (ks : List Kind) (vs ws : List Value) → ValuesUnmarked vs ws
    → front_of_cell o ks (record { words = vs; freed = false }) ≡ mapped (all_fresh ks) (front_of_cell o ks (record { words = ws; freed = false }))
front_unmarked o ks vs ws are =
    ap (λ b. if nat_lt (o + length ks) most_offsets && b then flat.front ks (drop o (words_in vs)) else Broken) (kinds_unmarked ks (drop o vs) (drop o ws) (drop_unmarked o vs ws are))
    ∙ by (nat_lt (o + length ks) most_offsets) (have_kinds ks (drop o ws)) refl
  where
    by : (a b : Bool) → have_kinds ks (drop o ws) ≡ b → (if a && b then flat.front ks (drop o (words_in vs)) else Broken) ≡ mapped (all_fresh ks) (if a && b then flat.front ks (drop o (words_in ws)) else Broken)
    by true true have =
        ap (λ zs. flat.front ks (drop o zs)) (words_unmarked vs ws are)
        ∙ (ap (flat.front ks) (drop_fresh o (map kind ws) (words_in ws))
        ∙ front_fresh ks (drop o (map kind ws)) (drop o (words_in ws)) (subst (λ js. IsFront ks js) (sym (drop_map kind o ws)) (kinds_front ks (drop o ws) have)))
    by true false have = refl
    by false b have = refl

-- ---- codes

pub abs_fresh : (z : ℤ) → unsigned_abs (as_fresh sort.Access z) ≡ unsigned_abs z
abs_fresh z = refl

module _ (here taken : List Kind) (x m : Flat) (un : IsUnmarked here x m) (kept : AreKept taken m.waits) where
  behind_fresh : (o : ℕ) (k : Kind) (z : ℤ) → behind x o k (as_fresh sort.Access z) ≡ mapped (as_fresh k) (behind m o k z)
  behind_fresh o k z = ap (behind_at x o k) (abs_fresh z) ∙ by (unsigned_abs z)
    where
      within : (b : Bool) (n : ℕ) → (if b then touched (slice_get x.cells n) (λ (c : Cell). value_word k (slice_get c.words o)) else Broken)
          ≡ mapped (as_fresh k) (if b then touched (slice_get m.cells n) (λ (c : Cell). value_word k (slice_get c.words o)) else Broken)
      within true n = cell_read (as_fresh k) (λ ws. value_word k (slice_get ws o)) (λ ws. value_word k (slice_get ws o)) (λ vs ws are. value_unmarked vs ws o k are) x.cells m.cells n un.cells
      within false n = refl

      by : (n : ℕ) → behind_at x o k n ≡ mapped (as_fresh k) (behind_at m o k n)
      by zero = refl
      by (suc n) = within (nat_lt n most_cells && nat_lt o most_offsets) n

  stack_fresh : (n i : ℕ) (k : Kind) → n ≡ i → slice_get here i ≡ Some k → found (slice_get x.stack n) ≡ mapped (as_fresh k) (found (slice_get m.stack i))
  stack_fresh n i k same is = ap (λ j. found (slice_get x.stack j)) same ∙ (ap (λ zs. found (slice_get zs i)) un.stack ∙ slice_fresh here m.stack i k is)

  via_fresh : (p i : Code) (at : ℕ) (j : Kind) → word x p ≡ mapped (as_fresh sort.Access) (word m p) → word x i ≡ word m i → indexes x p ≡ indexes m p
      → word x (Via p at i j) ≡ mapped (as_fresh j) (word m (Via p at i j))
  unfolding word
  via_fresh p i at j pointer index names =
      then_on (indexes x p) (indexes m p) (λ q. and_then (word x i) (λ o. and_then (word x p) (behind x (at + unsigned_abs o) j)))
      (λ q. mapped (as_fresh j) (and_then (word m i) (λ o. and_then (word m p) (behind m (at + unsigned_abs o) j)))) names (λ q e. middle)
      ∙ sym (mapped_then (as_fresh j) (indexes m p) (λ q. and_then (word m i) (λ o. and_then (word m p) (behind m (at + unsigned_abs o) j))))
    where
      inner : (o : ℕ) → and_then (word x p) (behind x o j) ≡ mapped (as_fresh j) (and_then (word m p) (behind m o j))
      inner o =
          ap (λ g. and_then g (behind x o j)) pointer
          ∙ (then_mapped (as_fresh sort.Access) (word m p) (behind x o j)
          ∙ (then_on (word m p) (word m p) (λ z. behind x o j (as_fresh sort.Access z)) (λ z. mapped (as_fresh j) (behind m o j z)) refl (λ z e. behind_fresh o j z) ∙ sym (mapped_then (as_fresh j) (word m p) (behind m o j))))

      middle : and_then (word x i) (λ o. and_then (word x p) (behind x (at + unsigned_abs o) j)) ≡ mapped (as_fresh j) (and_then (word m i) (λ o. and_then (word m p) (behind m (at + unsigned_abs o) j)))
      middle =
          then_on (word x i) (word m i) (λ o. and_then (word x p) (behind x (at + unsigned_abs o) j)) (λ o. mapped (as_fresh j) (and_then (word m p) (behind m (at + unsigned_abs o) j)))
          index (λ o e. inner (at + unsigned_abs o))
          ∙ sym (mapped_then (as_fresh j) (word m i) (λ o. and_then (word m p) (behind m (at + unsigned_abs o) j)))

  as_whole : (c : Code) → word x c ≡ mapped (as_fresh sort.Int) (word m c) → word x c ≡ word m c
  as_whole c same = same ∙ fresh_data sort.Int tt (word m c)

  as_data : (c : Code) (k : Kind) → IsData k → word x c ≡ mapped (as_fresh k) (word m c) → word x c ≡ word m c
  as_data c k is same = same ∙ fresh_data k is (word m c)

  mutual
    unfolding word indexes Looks

    pub word_fresh : (c : Code) (k : Kind) → Looks m here taken c k → word x c ≡ mapped (as_fresh k) (word m c)
    word_fresh (Number z) k looks = by k looks
      where
        by : (k : Kind) → Looks m here taken (Number z) k → Given z ≡ Given (as_fresh k z)
        by sort.Int looks = refl
        by sort.Enum looks = refl
        by sort.Access looks = ap Given (subst (λ y. y ≡ as_fresh sort.Access y) (sym looks) refl)
    word_fresh (Local at i) k looks =
        then_on (word x i) (word m i) (λ o. found (slice_get x.stack (x.base + at + unsigned_abs o))) (λ o. mapped (as_fresh k) (found (slice_get m.stack (m.base + at + unsigned_abs o)))) (as_whole i (word_fresh i sort.Int looks.0))
        (λ o e. stack_fresh (x.base + at + unsigned_abs o) (m.base + at + unsigned_abs o) k (ap (λ b. b + at + unsigned_abs o) un.base) (looks.1 o e))
        ∙ sym (mapped_then (as_fresh k) (word m i) (λ o. found (slice_get m.stack (m.base + at + unsigned_abs o))))
    word_fresh (Global at i) k looks =
        then_on (word x i) (word m i) (λ o. found (slice_get x.stack (at + unsigned_abs o))) (λ o. mapped (as_fresh k) (found (slice_get m.stack (at + unsigned_abs o)))) (as_whole i (word_fresh i sort.Int looks.0))
        (λ o e. stack_fresh (at + unsigned_abs o) (at + unsigned_abs o) k refl (looks.1 o e))
        ∙ sym (mapped_then (as_fresh k) (word m i) (λ o. found (slice_get m.stack (at + unsigned_abs o))))
    word_fresh (Via p at i j) k looks =
        subst (λ q. word x (Via p at i j) ≡ mapped (as_fresh q) (word m (Via p at i j))) looks.0
        (via_fresh p i at j (word_fresh p sort.Access looks.2) (as_whole i (word_fresh i sort.Int looks.1)) (indexes_fresh p sort.Access looks.2))
    word_fresh (Scaled i low high size) k looks =
        ap (λ g. and_then g (scaled low high size)) (as_whole i (word_fresh i sort.Int looks.1)) ∙ sym (fresh_data k looks.0 (word m (Scaled i low high size)))
    word_fresh (Plus a b) k looks =
        then_on (word x a) (word m a) (λ y. and_then (word x b) (λ z. offset (unsigned_abs y + unsigned_abs z))) (λ y. and_then (word m b) (λ z. offset (unsigned_abs y + unsigned_abs z)))
        (as_whole a (word_fresh a sort.Int looks.1)) (λ y e. ap (λ g. and_then g (λ z. offset (unsigned_abs y + unsigned_abs z))) (as_whole b (word_fresh b sort.Int looks.2)))
        ∙ sym (fresh_data k looks.0 (word m (Plus a b)))
    word_fresh (Unary op a) k looks =
        ap (λ g. and_then g (operated_alone op)) (as_data a looks.1 looks.2 (word_fresh a looks.1 looks.3)) ∙ sym (fresh_data k looks.0 (word m (Unary op a)))
    word_fresh (Binary op a b) k looks =
        then_on (word x a) (word m a) (λ y. and_then (word x b) (operated op y)) (λ y. and_then (word m b) (operated op y))
        (as_data a looks.1.0 looks.1.1 (word_fresh a looks.1.0 looks.1.2)) (λ y e. ap (λ g. and_then g (operated op y)) (as_data b looks.2.0 looks.2.1 (word_fresh b looks.2.0 looks.2.2)))
        ∙ sym (fresh_data k looks.0 (word m (Binary op a b)))
    word_fresh (Short op a b) k looks =
        then_on (word x a) (word m a) (λ y. if decides op y then Given y else word x b) (λ y. if decides op y then Given y else word m b)
        (as_data a looks.1.0 looks.1.1 (word_fresh a looks.1.0 looks.1.2)) (λ y e. ap (λ g. if decides op y then Given y else g) (as_data b looks.2.0 looks.2.1 (word_fresh b looks.2.0 looks.2.2)))
        ∙ sym (fresh_data k looks.0 (word m (Short op a b)))
    word_fresh (IsNull equal p) k looks =
        ap (λ g. and_then g tests) (word_fresh p sort.Access looks.1) ∙ (then_mapped (as_fresh sort.Access) (word m p) tests
        ∙ (then_on (word m p) (word m p) (λ z. tests (as_fresh sort.Access z)) tests refl (λ z e. refl) ∙ sym (fresh_data k looks.0 (word m (IsNull equal p)))))
      where
        tests : ℤ → Got ℤ
        tests w = Given (truth (if is_zero w then equal else not equal))
    word_fresh (Waiting at) k looks = ap (λ zs. found (slice_get zs at)) un.waits ∙ slice_waits taken m.waits at k looks kept
    word_fresh EndOfFile k looks = ap (λ r. Given (truth (at_end r))) un.rest ∙ sym (fresh_data k looks (word m EndOfFile))
    word_fresh Nothing k looks = refl

    pub indexes_fresh : (c : Code) (k : Kind) → Looks m here taken c k → indexes x c ≡ indexes m c
    indexes_fresh (Local at i) k looks = as_whole i (word_fresh i sort.Int looks.0)
    indexes_fresh (Global at i) k looks = as_whole i (word_fresh i sort.Int looks.0)
    indexes_fresh (Via p at i j) k looks = then_on (indexes x p) (indexes m p) (λ q. word x i) (λ q. word m i) (indexes_fresh p sort.Access looks.2) (λ q e. as_whole i (word_fresh i sort.Int looks.1))
    indexes_fresh c k looks = refl

  pub whole_same : (c : Code) → Looks m here taken c sort.Int → word x c ≡ word m c
  whole_same c looks = as_whole c (word_fresh c sort.Int looks)

  pub data_same : (c : Code) (k : Kind) → IsData k → Looks m here taken c k → word x c ≡ word m c
  data_same c k is looks = as_data c k is (word_fresh c k looks)

  -- ---- places

  stack_spots : (n i : ℕ) → n ≡ i → stack_spot x n ≡ stack_spot m i
  stack_spots n i same =
      ap (stack_spot x) same ∙ ap (λ l. if nat_le i l then Given (InStack i) else Broken) (ap length un.stack ∙ fresh_long here m.stack un.known)

  cell_spots : (o n : ℕ) → cell_spot x o n ≡ cell_spot m o n
  cell_spots o zero = refl
  cell_spots o (suc n) = by (nat_lt n most_cells && nat_lt o most_offsets)
    where
      by : (b : Bool) → (if b then touched (slice_get x.cells n) (λ (c : Cell). Given (InCell n o)) else Broken) ≡ (if b then touched (slice_get m.cells n) (λ (c : Cell). Given (InCell n o)) else Broken)
      by true =
          cell_read (λ q. q) (λ ws. Given (InCell n o)) (λ ws. Given (InCell n o)) (λ vs ws are. refl) x.cells m.cells n un.cells
          ∙ same (touched (slice_get m.cells n) (λ (c : Cell). Given (InCell n o)))
        where
          same : (g : Got Spot) → mapped (λ q. q) g ≡ g
          same (Given q) = refl
          same (Stops t) = refl
          same Broken = refl
      by false = refl

  pub spot_same : (p : Place) → LooksAt m here taken p → spot x p ≡ spot m p
  spot_same (InFrame at i) looks =
      then_on (word x i) (word m i) (λ o. stack_spot x (x.base + at + unsigned_abs o)) (λ o. stack_spot m (m.base + at + unsigned_abs o)) (whole_same i looks)
      (λ o e. stack_spots (x.base + at + unsigned_abs o) (m.base + at + unsigned_abs o) (ap (λ b. b + at + unsigned_abs o) un.base))
  spot_same (InPackages at i) looks =
      then_on (word x i) (word m i) (λ o. stack_spot x (at + unsigned_abs o)) (λ o. stack_spot m (at + unsigned_abs o)) (whole_same i looks)
      (λ o e. stack_spots (at + unsigned_abs o) (at + unsigned_abs o) refl)
  spot_same (Behind p at i) looks =
      then_on (indexes x p) (indexes m p) (λ q. and_then (word x i) (λ o. and_then (word x p) (λ w. cell_spot x (at + unsigned_abs o) (unsigned_abs w))))
      (λ q. and_then (word m i) (λ o. and_then (word m p) (λ w. cell_spot m (at + unsigned_abs o) (unsigned_abs w)))) (indexes_fresh p sort.Access looks.1)
      (λ q e.
      then_on (word x i) (word m i) (λ o. and_then (word x p) (λ w. cell_spot x (at + unsigned_abs o) (unsigned_abs w))) (λ o. and_then (word m p) (λ w. cell_spot m (at + unsigned_abs o) (unsigned_abs w)))
      (whole_same i looks.0)
      (λ o f.
      ap (λ g. and_then g (λ w. cell_spot x (at + unsigned_abs o) (unsigned_abs w))) (word_fresh p sort.Access looks.1)
      ∙ (then_mapped (as_fresh sort.Access) (word m p) (λ w. cell_spot x (at + unsigned_abs o) (unsigned_abs w))
      ∙ then_on (word m p) (word m p) (λ z. cell_spot x (at + unsigned_abs o) (unsigned_abs (as_fresh sort.Access z))) (λ z. cell_spot m (at + unsigned_abs o) (unsigned_abs z)) refl
      (λ z h. ap (cell_spot x (at + unsigned_abs o)) (abs_fresh z) ∙ cell_spots (at + unsigned_abs o) (unsigned_abs z)))))

  -- ---- what stands at a spot

  pub words_fresh : (q : Spot) (ks : List Kind) → StandAt m here q ks → words_at x q ks ≡ mapped (all_fresh ks) (words_at m q ks)
  words_fresh (InStack n) ks stand =
      ap (λ zs. flat.front ks (drop n zs)) un.stack ∙ (ap (flat.front ks) (drop_fresh n here m.stack) ∙ front_fresh ks (drop n here) (drop n m.stack) stand.0)
  words_fresh (InCell n o) ks stand =
      cell_read (all_fresh ks) (λ ws. front_of_cell o ks (record { words = ws; freed = false })) (λ ws. front_of_cell o ks (record { words = ws; freed = false }))
      (λ vs ws are. front_unmarked o ks vs ws are) x.cells m.cells n un.cells

  pub held_same : (q : Spot) (ks : List Kind) → StandAt m here q ks → held x q ks ≡ held m q ks
  held_same q ks stand =
      ap (λ g. and_then g (λ zs. Given (all_fresh ks zs))) (words_fresh q ks stand)
      ∙ (then_mapped (all_fresh ks) (words_at m q ks) (λ zs. Given (all_fresh ks zs))
      ∙ then_on (words_at m q ks) (words_at m q ks) (λ zs. Given (all_fresh ks (all_fresh ks zs))) (λ zs. Given (all_fresh ks zs)) refl (λ zs e. ap Given (all_twice ks zs)))

  -- The number of an access value.
  pub access_same : (c : Code) → Looks m here taken c sort.Access → and_then (word x c) access ≡ and_then (word m c) access
  access_same c looks =
      ap (λ g. and_then g access) (word_fresh c sort.Access looks)
      ∙ (then_mapped (as_fresh sort.Access) (word m c) access ∙ then_on (word m c) (word m c) (λ z. access (as_fresh sort.Access z)) access refl (λ z e. refl))

-- So it is where the stack alone is told.
pub stack_held : (here : List Kind) (x m : Flat) (n : ℕ) (ks : List Kind) → x.stack ≡ all_fresh here m.stack → IsFront ks (drop n here) → held x (InStack n) ks ≡ held m (InStack n) ks
stack_held here x m n ks stack is =
    ap (λ g. and_then g fresh)
    (ap (λ zs. flat.front ks (drop n zs)) stack ∙ (ap (flat.front ks) (drop_fresh n here m.stack) ∙ front_fresh ks (drop n here) (drop n m.stack) is))
    ∙ (then_mapped (all_fresh ks) (flat.front ks (drop n m.stack)) fresh
    ∙ then_on (flat.front ks (drop n m.stack)) (flat.front ks (drop n m.stack)) (λ zs. Given (all_fresh ks (all_fresh ks zs))) fresh refl (λ zs e. ap Given (all_twice ks zs)))
  where
    fresh : List ℤ → Got (List ℤ)
    fresh zs = Given (all_fresh ks zs)

-- ---- none of an unmarked memory is gone

pub fresh_keeps : (ks : List Kind) (zs : List ℤ) → AreKept ks (all_fresh ks zs)
fresh_keeps [] zs = tt
fresh_keeps (k ∷ ks) [] = tt
fresh_keeps (k ∷ ks) (z ∷ zs) = (one k, fresh_keeps ks zs)
  where
    one : (k : Kind) → IsKeptAs k (as_fresh k z)
    one sort.Int = tt
    one sort.Enum = tt
    one sort.Access = tt

values_kept : (vs ws : List Value) → ValuesUnmarked vs ws → AreKept (map kind vs) (words_in vs)
values_kept [] [] are = tt
values_kept [] (w ∷ ws) are = absurd are
values_kept (v ∷ vs) [] are = absurd are
values_kept (v ∷ vs) (w ∷ ws) are = (subst (λ k. IsKeptAs k (word_of v)) (sym are.0.0) (subst (IsKeptAs (kind w)) (sym are.0.1) (one (kind w))), values_kept vs ws are.1)
  where
    one : (k : Kind) → IsKeptAs k (as_fresh k (word_of w))
    one sort.Int = tt
    one sort.Enum = tt
    one sort.Access = tt

cells_kept : (cs ds : List Cell) → CellsUnmarked cs ds → (n : ℕ) (c : Cell) → slice_get cs n ≡ Some c → AreKept (map kind c.words) (words_in c.words)
cells_kept [] ds are n c there = cc
cells_kept (b ∷ cs) [] are n c there = absurd are
cells_kept (b ∷ cs) (d ∷ ds) are zero c there = subst (λ (y : Cell). AreKept (map kind y.words) (words_in y.words)) (let same : b ≡ c = cc in same) (values_kept b.words d.words are.1)
cells_kept (b ∷ cs) (d ∷ ds) are (suc n) c there = cells_kept cs ds are.2 n c there

pub unmarked_clear : (here taken : List Kind) (x m : Flat) → IsUnmarked here x m → AreKept taken m.waits → IsClear here taken x
unmarked_clear here taken x m un kept = record {
  stack = subst (AreKept here) (sym un.stack) (fresh_keeps here m.stack);
  waits = subst (AreKept taken) (sym un.waits) kept;
  cells = cells_kept x.cells m.cells un.cells;
}

-- A memory of which none is gone has no marks.
values_itself : (ws : List Value) → AreKept (map kind ws) (words_in ws) → ValuesUnmarked ws ws
values_itself [] kept = tt
values_itself (w ∷ ws) kept = ((refl, kept_fresh (kind w) (word_of w) kept.0), values_itself ws kept.1)

cells_itself : (cs : List Cell) → ((n : ℕ) (c : Cell) → slice_get cs n ≡ Some c → AreKept (map kind c.words) (words_in c.words)) → CellsUnmarked cs cs
cells_itself [] kept = tt
cells_itself (c ∷ cs) kept = (refl, values_itself c.words (kept 0 c refl), cells_itself cs (λ n d there. kept (suc n) d there))

pub clear_itself : (here taken : List Kind) (m : Flat) → length here ≡ length m.stack → IsClear here taken m → IsUnmarked here m m
clear_itself here taken m known clear = record {
  stack = all_kept here m.stack known clear.stack;
  known = known;
  cells = cells_itself m.cells clear.cells;
  base = refl;
  freed = refl;
  live = refl;
  waits = refl;
  rest = refl;
}
