-- What is moved out of a cell is so over both heaps: a name that is gone over numbers is null over handles.
use Rattle.std.proofs.Common.{◌≡◌, refl, sym, ap, ◌∙◌, subst, ℕ, zero, suc, ◌+◌, ◌<◌, ◌≤◌, arith, Bool, true, false, true≢false, ◌&&◌, nat_lt, List, [], ◌∷◌, map, take, drop, length, get_or, slice_get, slice_set, Some, if◌then◌else◌}
use Rattle.numbered_cells.specs.run_values.declared.value.Value.{Value}
use Rattle.numbered_cells.specs.run_values.declared.value.Value.TheVariants as value
use Rattle.numbered_cells.specs.run_values.declared.value.Kind.{Kind}
use Rattle.numbered_cells.specs.run_values.declared.value.Kind.TheVariants as sort
use Rattle.numbered_cells.specs.run_values.Values.{kind}
use Rattle.numbered_cells.specs.machine.Memory.{at_number}
use Rattle.numbered_cells.specs.kept_cells.Cells as numbered
use Rattle.numbered_cells.specs.kept_cells.Cells.{Cell}
use Rattle.numbered_cells.specs.slot_heap.Heaps.{Heap, written}
use Rattle.numbered_cells.specs.run_codes.Flat.{Flat, Got, Given, Broken, gone_from, value_gone, values_gone, is_pointer, are_pointers, are_in, have_kinds, most_offsets, touched, with_words, spliced, InCell}
use Rattle.numbered_cells.specs.run_codes.Flat as flat
use Rattle.numbered_cells.specs.Follows.{handled, IsThere, Names, Follows}
use Rattle.numbered_cells.proofs.Numbering.{follows-written}
use Rattle.handled_runs.specs.Slots.{Slots}
use Rattle.handled_runs.specs.Changes.{nulled, emptied, with_heap}
use Rattle.handled_runs.specs.Changes as changes
use Rattle.handled_runs.specs.Beside.{Beside}
use Rattle.handled_runs.specs.Looks.{IsFront}
use Rattle.handled_runs.proofs.Standing.{drop_map, kinds_front}
use Rattle.handled_runs.proofs.Fit.{both_true, kinds_stand}
use Rattle.handled_runs.proofs.Lists.{replaced, spliced_is}
use Rattle.handled_runs.proofs.Sizes.{sizes_changed, spliced_long}
use Rattle.handled_runs.proofs.Rows.{numbers_kept, changed_were}
use Rattle.handled_runs.proofs.Cells.{never_below, changed_at, changed_there, kinds_long, drop_long, long_changed}

-- ---- one value that is gone

pub gone_kind : (v : Value) → kind (value_gone v) ≡ kind v
gone_kind (value.Int i) = refl
gone_kind (value.Enum n) = refl
gone_kind value.Null = refl
gone_kind (value.Cell n) = by (nat_lt n gone_from)
  where
    by : (b : Bool) → kind (if b then value.Cell (n + gone_from) else value.Cell n) ≡ sort.Access
    by true = refl
    by false = refl

gone_handled : (handles : List ℕ) (v : Value) → kind v ≡ sort.Access → handled handles (value_gone v) ≡ value.Null
gone_handled handles (value.Int i) is = cc
gone_handled handles (value.Enum n) is = cc
gone_handled handles value.Null is = refl
gone_handled handles (value.Cell n) is = by (nat_lt n gone_from) refl
  where
    by : (b : Bool) → nat_lt n gone_from ≡ b → handled handles (if b then value.Cell (n + gone_from) else value.Cell n) ≡ value.Null
    by true low = ap (λ c. if c then value.Cell (get_or handles (n + gone_from) 0) else value.Null) (never_below n)
    by false low = ap (λ c. if c then value.Cell (get_or handles n 0) else value.Null) low

gone_names : (bound : ℕ) (v : Value) → kind v ≡ sort.Access → Names bound (value_gone v)
gone_names bound (value.Int i) is = cc
gone_names bound (value.Enum n) is = cc
gone_names bound value.Null is = tt
gone_names bound (value.Cell n) is = by (nat_lt n gone_from) refl
  where
    by : (b : Bool) → nat_lt n gone_from ≡ b → Names bound (if b then value.Cell (n + gone_from) else value.Cell n)
    by true low = λ less. absurd (true≢false (sym less ∙ never_below n))
    by false low = λ less. absurd (true≢false (sym less ∙ low))

-- ---- words that are gone, one after the other

abbrev pub moved : ℕ → List ℕ → List Value → List Value
moved o [] ws = ws
moved o (g ∷ gone) ws = moved o gone (at_number (o + g) value_gone ws)

at_long : {A : Type 0} (f : A → A) (o : ℕ) (xs : List A) → length (at_number o f xs) ≡ length xs
at_long f o [] = refl
at_long f zero (x ∷ xs) = refl
at_long f (suc o) (x ∷ xs) = ap suc (at_long f o xs)

replaced_at : (f : Value → Value) (o g : ℕ) (vs ws : List Value) → g < length vs → o + length vs ≤ length ws → replaced o (at_number g f vs) ws ≡ at_number (o + g) f (replaced o vs ws)
replaced_at f zero g [] ws low fits = absurd (omega (arith, low))
replaced_at f zero g (v ∷ vs) [] low fits = absurd (omega (arith, fits))
replaced_at f zero zero (v ∷ vs) (w ∷ ws) low fits = refl
replaced_at f zero (suc g) (v ∷ vs) (w ∷ ws) low fits =
    let next : 0 + suc g ≡ suc (0 + g) = omega arith in
    ap (λ rest. v ∷ rest) (replaced_at f zero g vs ws (omega (arith, low)) (omega (arith, fits)))
    ∙ ap (λ i. at_number i f (v ∷ replaced zero vs ws)) (sym next)
replaced_at f (suc o) g vs [] low fits = absurd (omega (arith, fits))
replaced_at f (suc o) g vs (w ∷ ws) low fits =
    let next : suc o + g ≡ suc (o + g) = omega arith in
    ap (λ rest. w ∷ rest) (replaced_at f o g vs ws low (omega (arith, fits)))
    ∙ ap (λ i. at_number i f (w ∷ replaced o vs ws)) (sym next)

abbrev pub AllBelow : ℕ → List ℕ → Type 0
AllBelow n [] = Unit {0}
AllBelow n (g ∷ gone) = (g < n) × AllBelow n gone

pub replaced_gone : (o : ℕ) (gone : List ℕ) (vs ws : List Value) → AllBelow (length vs) gone → o + length vs ≤ length ws → replaced o (values_gone gone vs) ws ≡ moved o gone (replaced o vs ws)
replaced_gone o [] vs ws below fits = refl
replaced_gone o (g ∷ gone) vs ws below fits =
    let same = at_long value_gone g vs in
    replaced_gone o gone (at_number g value_gone vs) ws (subst (λ n. AllBelow n gone) (sym same) below.1) (omega (arith, same, fits))
    ∙ ap (moved o gone) (replaced_at value_gone o g vs ws below.0 fits)

pub gone_long : (gone : List ℕ) (vs : List Value) → length (values_gone gone vs) ≡ length vs
gone_long [] vs = refl
gone_long (g ∷ gone) vs = gone_long gone (at_number g value_gone vs) ∙ at_long value_gone g vs

-- what stands there anyway
pub replaced_same : (o k : ℕ) (ws : List Value) → replaced o (take k (drop o ws)) ws ≡ ws
replaced_same zero zero ws = refl
replaced_same zero (suc k) [] = refl
replaced_same zero (suc k) (w ∷ ws) = ap (λ rest. w ∷ rest) (replaced_same zero k ws)
replaced_same (suc o) k [] = refl
replaced_same (suc o) k (w ∷ ws) = ap (λ rest. w ∷ rest) (replaced_same o k ws)

pub take_long : (k : ℕ) (ws : List Value) → k ≤ length ws → length (take k ws) ≡ k
take_long zero ws less = refl
take_long (suc k) [] less = absurd (omega (arith, less))
take_long (suc k) (w ∷ ws) less = ap suc (take_long k ws (omega (arith, less)))

-- ---- access values at offsets

abbrev pub AreAccess : ℕ → List ℕ → List Kind → Type 0
AreAccess o [] js = Unit {0}
AreAccess o (g ∷ gone) js = (slice_get js (o + g) ≡ Some sort.Access) × AreAccess o gone js

kind_there : (ws : List Value) (i : ℕ) (k : Kind) → slice_get (map kind ws) i ≡ Some k → (v : Value) × (slice_get ws i ≡ Some v) × (kind v ≡ k)
kind_there [] i k is = cc
kind_there (w ∷ ws) zero k is = (w, refl, (let same : kind w ≡ k = cc in same))
kind_there (w ∷ ws) (suc i) k is = kind_there ws i k is

set_at : (f : Value → Value) (ws : List Value) (i : ℕ) (v : Value) → slice_get ws i ≡ Some v → at_number i f ws ≡ slice_set ws i (f v)
set_at f [] i v is = cc
set_at f (w ∷ ws) zero v is = ap (λ x. f x ∷ ws) (let same : w ≡ v = cc in same)
set_at f (w ∷ ws) (suc i) v is = ap (λ rest. w ∷ rest) (set_at f ws i v is)

pub kinds_at : (i : ℕ) (ws : List Value) → map kind (at_number i value_gone ws) ≡ map kind ws
kinds_at i [] = refl
kinds_at zero (w ∷ ws) = ap (λ k. k ∷ map kind ws) (gone_kind w)
kinds_at (suc i) (w ∷ ws) = ap (λ ks. kind w ∷ ks) (kinds_at i ws)

-- ---- a cell whose words are gone

abbrev one_moved : ℕ → Cell → Cell
one_moved i c = record c { words = at_number i value_gone c.words }

abbrev pub all_moved : ℕ → List ℕ → Cell → Cell
all_moved o gone c = record c { words = moved o gone c.words }

moved_none : (o : ℕ) (cells : List Cell) (n : ℕ) → numbered.changed (all_moved o []) cells n ≡ cells
moved_none o [] n = refl
moved_none o (c ∷ cells) zero = refl
moved_none o (c ∷ cells) (suc n) = ap (λ rest. c ∷ rest) (moved_none o cells n)

moved_next : (o g : ℕ) (gone : List ℕ) (cells : List Cell) (n : ℕ)
    → numbered.changed (all_moved o (g ∷ gone)) cells n ≡ numbered.changed (all_moved o gone) (numbered.changed (one_moved (o + g)) cells n) n
moved_next o g gone [] n = refl
moved_next o g gone (c ∷ cells) zero = refl
moved_next o g gone (c ∷ cells) (suc n) = ap (λ rest. c ∷ rest) (moved_next o g gone cells n)

all_null : (handles : List ℕ) (n o : ℕ) (gone : List ℕ) (ws : List Value) (cells : List Cell) (m : Heap) → IsThere cells n ws → AreAccess o gone (map kind ws) → Follows handles cells m
    → Follows handles (numbered.changed (all_moved o gone) cells n) (nulled m (get_or handles n 0) o gone)
all_null handles n o [] ws cells m there access f = subst (λ x. Follows handles x m) (sym (moved_none o cells n)) f
all_null handles n o (g ∷ gone) ws cells m there access f =
    let h : ℕ = get_or handles n 0 in
    let i : ℕ = o + g in
    let found = kind_there ws i sort.Access access.0 in
    let v : Value = found.0 in
    let one : numbered.changed (one_moved i) cells n ≡ numbered.written cells n i (value_gone v)
    = changed_at (one_moved i) (λ (c : Cell). record c { words = slice_set c.words i (value_gone v) }) cells n (record { words = ws; freed = false }) there
    (ap (λ us. record { words = us; freed = false }) (set_at value_gone ws i v found.1)) in
    let first : Follows handles (numbered.written cells n i (value_gone v)) (written m h i value.Null)
    = subst (λ x. Follows handles (numbered.written cells n i (value_gone v)) (written m h i x)) (gone_handled handles v found.2)
    (follows-written handles cells m n ws i (value_gone v) there (gone_names (length handles) v found.2) f) in
    subst (λ x. Follows handles x (nulled (written m h i value.Null) h o gone)) (sym (moved_next o g gone cells n))
    (all_null handles n o gone (at_number i value_gone ws) (numbered.changed (one_moved i) cells n) (written m h i value.Null)
    (changed_there (one_moved i) cells n (record { words = ws; freed = false }) there)
    (subst (AreAccess o gone) (sym (kinds_at i ws)) access.1)
    (subst (λ x. Follows handles x (written m h i value.Null)) (sym one) first))

-- ---- what the tests say

pub first_of : (a b : Bool) → a && b ≡ true → a ≡ true
first_of true b e = refl
first_of false b e = cc

pub second_of : (a b : Bool) → a && b ≡ true → b ≡ true
second_of true b e = e
second_of false b e = cc

pub pointer_there : (ks : List Kind) (g : ℕ) → is_pointer (slice_get ks g) ≡ true → (slice_get ks g ≡ Some sort.Access) × (g < length ks)
pointer_there [] g is = cc
pointer_there (sort.Access ∷ ks) zero is = (refl, omega arith)
pointer_there (sort.Int ∷ ks) zero is = cc
pointer_there (sort.Enum ∷ ks) zero is = cc
pointer_there (k ∷ ks) (suc g) is = let more = pointer_there ks g is in let less = more.1 in (more.0, omega (arith, less))

front_there : (ks js : List Kind) (g : ℕ) (k : Kind) → IsFront ks js → slice_get ks g ≡ Some k → slice_get js g ≡ Some k
front_there [] js g k is e = cc
front_there (j ∷ ks) [] g k is e = absurd is
front_there (j ∷ ks) (i ∷ js) zero k is e = ap Some (sym is.0) ∙ e
front_there (j ∷ ks) (i ∷ js) (suc g) k is e = front_there ks js g k is.1 e

drop_there : (js : List Kind) (o g : ℕ) → slice_get (drop o js) g ≡ slice_get js (o + g)
drop_there js zero g = let same : g ≡ 0 + g = omega arith in ap (slice_get js) same
drop_there [] (suc o) g = refl
drop_there (j ∷ js) (suc o) g = let next : suc (o + g) ≡ suc o + g = omega arith in drop_there js o g ∙ ap (slice_get (j ∷ js)) next

pub all_access : (ks : List Kind) (o : ℕ) (gone : List ℕ) (js : List Kind) → IsFront ks (drop o js) → are_pointers ks gone ≡ true → AreAccess o gone js
all_access ks o [] js is e = tt
all_access ks o (g ∷ gone) js is e = (
  sym (drop_there js o g) ∙ front_there ks (drop o js) g sort.Access is (pointer_there ks g (first_of (is_pointer (slice_get ks g)) (are_pointers ks gone) e)).0,
  all_access ks o gone js is (second_of (is_pointer (slice_get ks g)) (are_pointers ks gone) e),
)

pub all_below : (ks : List Kind) (gone : List ℕ) → are_pointers ks gone ≡ true → AllBelow (length ks) gone
all_below ks [] e = tt
all_below ks (g ∷ gone) e = (
  (pointer_there ks g (first_of (is_pointer (slice_get ks g)) (are_pointers ks gone) e)).1,
  all_below ks gone (second_of (is_pointer (slice_get ks g)) (are_pointers ks gone) e),
)

-- ---- the law

module _ (handles : List ℕ) (kinds taken : List Kind) (m : Flat) (s : Slots) (beside : Beside handles kinds taken m s) where
  -- Access values are moved out of a cell that is there.
  pub cell_emptied : (n o : ℕ) (ws : List Value) (ks : List Kind) (gone : List ℕ) (m_after : Flat) → IsThere m.cells n ws → o ≤ length ws
      → flat.moved_out m (InCell n o) ks gone ≡ Given m_after
      → (s_after : Slots) × (emptied s (InCell (get_or handles n 0) o) ks gone ≡ Given s_after) × Beside handles kinds taken m_after s_after
  cell_emptied n o ws ks gone m_after there less e =
      by (are_pointers ks gone) (are_in o ks c) refl refl
      (sym (ap (λ x. touched x (λ (d : Cell). if are_pointers ks gone && are_in o ks d then Given (with_words m n o (values_gone gone (take (length ks) (drop o d.words)))) else Broken)) there) ∙ e)
    where
      c : Cell
      c = record { words = ws; freed = false }

      vs : List Value
      vs = take (length ks) (drop o ws)

      after : Slots
      after = with_heap s (nulled s.heap (get_or handles n 0) o gone)

      by : (a b : Bool) → are_pointers ks gone ≡ a → are_in o ks c ≡ b → (if a && b then Given (with_words m n o (values_gone gone vs)) else Broken) ≡ Given m_after
          → (s_after : Slots) × (emptied s (InCell (get_or handles n 0) o) ks gone ≡ Given s_after) × Beside handles kinds taken m_after s_after
      by true true pointers fits e =
          let same : with_words m n o (values_gone gone vs) ≡ m_after = cc in
          let have : have_kinds ks (drop o ws) ≡ true = second_of (nat_lt (o + length ks) most_offsets) (have_kinds ks (drop o ws)) fits in
          let room = kinds_long ks (drop o ws) have in
          let rest = drop_long o ws less in
          let long : length vs ≡ length ks = take_long (length ks) (drop o ws) room in
          let count = gone_long gone vs in
          let within : o + length vs ≤ length ws = omega (arith, long, room, rest) in
          let words : spliced o (values_gone gone vs) ws ≡ moved o gone ws
          = spliced_is o (values_gone gone vs) ws (omega (arith, count, within))
          ∙ (replaced_gone o gone vs ws (subst (λ n. AllBelow n gone) (sym long) (all_below ks gone pointers)) within ∙ ap (moved o gone) (replaced_same o (length ks) ws)) in
          let cells : numbered.changed (λ (d : Cell). record d { words = spliced o (values_gone gone vs) d.words }) m.cells n ≡ numbered.changed (all_moved o gone) m.cells n
          = changed_at (λ (d : Cell). record d { words = spliced o (values_gone gone vs) d.words }) (all_moved o gone) m.cells n c there (ap (λ us. record { words = us; freed = false }) words) in
          let access : AreAccess o gone (map kind ws) = all_access ks o gone (map kind ws) (subst (IsFront ks) (sym (drop_map kind o ws)) (kinds_front ks (drop o ws) have)) pointers in (
            after,
            ap (changes.cell_emptied s (get_or handles n 0) o ks gone) (beside.cells.live n ws there)
                ∙ ap (λ b. if b then Given after else Broken) (both_true (are_pointers ks gone) (have_kinds ks (drop o (map (handled handles) ws))) pointers (kinds_stand handles ks o ws have)),
            subst (λ x. Beside handles kinds taken x after) same (record {
              stack = beside.stack;
              known = beside.known;
              waits = beside.waits;
              base = beside.base;
              live = beside.live;
              made = (
                beside.made.0 ∙ sym (long_changed (λ (d : Cell). record d { words = spliced o (values_gone gone vs) d.words }) m.cells n),
                beside.made.1 ∙ sym (sizes_changed (λ (d : Cell). record d { words = spliced o (values_gone gone vs) d.words }) m.cells n c there (spliced_long o (values_gone gone vs) ws (omega (arith, count, within)))),
              );
              freed = beside.freed;
              rest = beside.rest;
              cells = subst (λ x. Follows handles x (nulled s.heap (get_or handles n 0) o gone)) (sym cells) (all_null handles n o gone ws m.cells s.heap there access beside.cells);
              numbered = numbers_kept s.numbers handles m.cells (numbered.changed (λ (d : Cell). record d { words = spliced o (values_gone gone vs) d.words }) m.cells n)
                  (changed_were (spliced o (values_gone gone vs)) m.cells n) beside.numbered;
              small = beside.small;
              names = beside.names;
              waiting_names = beside.waiting_names;
            }),
          )
      by true false pointers fits e = cc
      by false b pointers fits e = cc
