-- What a step that stops leaves is alike over both heaps.
use Rattle.std.proofs.Common.{◌≡◌, refl, sym, ap, ◌∙◌, ℕ, zero, suc, ◌+◌, ◌-◌, ◌<◌, ◌≤◌, arith, Bool, true, false, true≢false, nat_lt, List, [], ◌∷◌, ◌++◌, map, drop, length, length-append, get_or, Some, if◌then◌else◌}
use Rattle.std.proofs.lemmas.List.{get_or_append_left, length-map, map-append}
use Rattle.handled_runs.specs.run_values.declared.value.Value.{Value}
use Rattle.handled_runs.specs.run_values.declared.value.Value.TheVariants as value
use Rattle.handled_runs.specs.run_values.declared.value.Kind.{Kind}
use Rattle.handled_runs.specs.kept_cells.Cells.{Cell}
use Rattle.handled_runs.specs.slot_heap.Heaps.{Heap, words_at}
use Rattle.handled_runs.specs.run_codes.Flat.{Flat, gone_from}
use Rattle.handled_runs.specs.run_codes.Points.{as_freed}
use Rattle.handled_runs.specs.run_codes.Points as points
use Rattle.handled_runs.specs.numbered_cells.Follows.{handled, IsThere, Names, AllName, there_count, Back, Follows}
use Rattle.handled_runs.specs.Slots.{Slots}
use Rattle.handled_runs.specs.Marks.{During}
use Rattle.handled_runs.proofs.Copies.{unmarked_long}
use Rattle.handled_runs.specs.Fits.{AreSmall}
use Rattle.handled_runs.specs.Beside.{Numbers, sizes_of, AreMade, Beside}
use Rattle.handled_runs.proofs.Sizes.{sizes_unmarked}
use Rattle.handled_runs.proofs.Standing.{drop_map}
use Rattle.handled_runs.proofs.Cells.{words_on, names_on}
use Rattle.handled_steps.specs.States.{given_up}

-- ---- cells that count as freed

none_there : (gone : List Cell) (n : ℕ) (ws : List Value) → IsThere (map as_freed gone) n ws → ⊥
none_there [] n ws there = cc
none_there (c ∷ gone) zero ws there = true≢false (ap (λ (d : Cell). d.freed) (let same : as_freed c ≡ record { words = ws; freed = false } = cc in same))
none_there (c ∷ gone) (suc n) ws there = none_there gone n ws there

were_there : (cells gone : List Cell) (n : ℕ) (ws : List Value) → IsThere (cells ++ map as_freed gone) n ws → IsThere cells n ws
were_there [] gone n ws there = absurd (none_there gone n ws there)
were_there (c ∷ cells) gone zero ws there = there
were_there (c ∷ cells) gone (suc n) ws there = were_there cells gone n ws there

still_there : (cells gone : List Cell) (n : ℕ) (ws : List Value) → IsThere cells n ws → IsThere (cells ++ gone) n ws
still_there [] gone n ws there = cc
still_there (c ∷ cells) gone zero ws there = there
still_there (c ∷ cells) gone (suc n) ws there = still_there cells gone n ws there

pub there_below : (cells : List Cell) (n : ℕ) (ws : List Value) → IsThere cells n ws → n < length cells
there_below [] n ws there = cc
there_below (c ∷ cells) zero ws there = omega arith
there_below (c ∷ cells) (suc n) ws there = let less = there_below cells n ws there in omega (arith, less)

none_counted : (n : ℕ) (gone : List Cell) → there_count n (map as_freed gone) ≡ 0
none_counted n [] = refl
none_counted n (c ∷ gone) = let rest = none_counted n gone in omega (arith, rest)

all_counted : (n : ℕ) (cells gone : List Cell) → there_count n (cells ++ map as_freed gone) ≡ there_count n cells
all_counted n [] gone = none_counted n gone
all_counted n (c ∷ cells) gone = let rest = all_counted n cells gone in omega (arith, rest)

-- ---- words with more handles

module _ (handles added : List ℕ) where
  one_handled : (v : Value) → Names (length handles) v → handled handles v ≡ handled (handles ++ added) v
  one_handled (value.Int i) named = refl
  one_handled (value.Enum n) named = refl
  one_handled value.Null named = refl
  one_handled (value.Cell n) named = by (nat_lt n gone_from) named
    where
      by : (b : Bool) → (b ≡ true → n < length handles) → (if b then value.Cell (get_or handles n 0) else value.Null) ≡ (if b then value.Cell (get_or (handles ++ added) n 0) else value.Null)
      by true named = ap (λ k. value.Cell k) (sym (get_or_append_left handles added 0 n (named refl)))
      by false named = refl

  all_handled : (ws : List Value) → AllName (length handles) ws → map (handled handles) ws ≡ map (handled (handles ++ added)) ws
  all_handled [] named = refl
  all_handled (v ∷ ws) named =
      ap (λ w. w ∷ map (handled handles) ws) (one_handled v named.0) ∙ ap (λ rest. handled (handles ++ added) v ∷ rest) (all_handled ws named.1)

name_more : (a b : ℕ) (v : Value) → a ≤ b → Names a v → Names b v
name_more a b (value.Int i) le named = tt
name_more a b (value.Enum n) le named = tt
name_more a b value.Null le named = tt
name_more a b (value.Cell n) le named = λ is. (let lt = named is in omega (arith, lt, le))

more_names : (a b : ℕ) (ws : List Value) → a ≤ b → AllName a ws → AllName b ws
more_names a b [] le named = tt
more_names a b (v ∷ ws) le named = (name_more a b v le named.0, more_names a b ws le named.1)

-- ---- the cells of before, and those that are given up

module _ (handles added : List ℕ) (cells gone : List Cell) (m : Heap) (slots : List ℕ) (follows : Follows handles cells m) where
  abbrev all : List Cell
  all = cells ++ map as_freed gone

  abbrev more : List ℕ
  more = handles ++ added

  same_handle : (n : ℕ) (ws : List Value) → IsThere cells n ws → get_or more n 0 ≡ get_or handles n 0
  same_handle n ws there =
      let less = there_below cells n ws there in
      let long = follows.len in
      get_or_append_left handles added 0 n (omega (arith, less, long))

  given_live : (n : ℕ) (ws : List Value) → IsThere all n ws → words_at m.cells (get_or more n 0) ≡ Some (map (handled more) ws)
  given_live n ws there =
      let was = were_there cells gone n ws there in
      ap (words_at m.cells) (same_handle n ws was) ∙ (follows.live n ws was ∙ ap Some (all_handled handles added ws (follows.names n ws was)))

  given_once : (n k : ℕ) (us ws : List Value) → IsThere all n us → IsThere all k ws → get_or more n 0 ≡ get_or more k 0 → n ≡ k
  given_once n k us ws first second same =
      let one = were_there cells gone n us first in
      let two = were_there cells gone k ws second in
      follows.once n k us ws one two (sym (same_handle n us one) ∙ (same ∙ same_handle k ws two))

  given_back : (h : ℕ) (us : List Value) → words_at m.cells h ≡ Some us → Back more all h
  given_back h us is =
      let back = follows.back h us is in record {
        number = back.number;
        words = back.words;
        there = still_there cells (map as_freed gone) back.number back.words back.there;
        same = same_handle back.number back.words back.there ∙ back.same;
      }

  pub given_follows : length more ≡ length all → Follows more all (record { cells = m.cells; slots = slots })
  given_follows long = record {
    len = long;
    live = given_live;
    once = given_once;
    names = λ n ws there. more_names (length handles) (length more) ws (let count = length-append handles added in omega (arith, count)) (follows.names n ws (were_there cells gone n ws there));
    alone = follows.alone;
    back = given_back;
    counts = λ n. follows.counts n ∙ sym (all_counted n cells gone);
  }

-- ---- the law

-- As many cells were made over both, and each has a handle.
abbrev pub IsMade : List ℕ → Flat → Slots → Type 0
IsMade hs m s = AreMade s m × (length hs ≡ length m.cells) × AreSmall hs

pub beside_made : (hs : List ℕ) (here taken : List Kind) (m : Flat) (s : Slots) → Beside hs here taken m s → IsMade hs m s
beside_made hs here taken m s is = (is.made, is.cells.len, is.small)

pub during_made : (hs : List ℕ) (here taken : List Kind) (m : Flat) (s : Slots) → During hs here taken m s → IsMade hs m s
during_made hs here taken m s is =
    let long = unmarked_long is.whole.cells m.cells is.unmarked.cells in
    ((is.beside.made.0 ∙ long, is.beside.made.1 ∙ sizes_unmarked is.whole.cells m.cells is.unmarked.cells), is.beside.cells.len ∙ long, is.beside.small)

long_drop : {A : Type 0} (n : ℕ) (xs : List A) → n ≤ length xs → n + length (drop n xs) ≡ length xs
long_drop zero xs less = omega arith
long_drop (suc n) [] less = absurd (omega (arith, less))
long_drop (suc n) (x ∷ xs) less = let same = long_drop n xs (omega (arith, less)) in omega (arith, same)

freed_sizes : (cells : List Cell) → sizes_of cells ≡ sizes_of (map as_freed cells)
freed_sizes [] = refl
freed_sizes (c ∷ cells) = ap (λ rest. length c.words ∷ rest) (freed_sizes cells)

module _ (handles more : List ℕ) (here taken : List Kind) (before : Flat) (old : Slots) (beside : Beside handles here taken before old)
    (m : Flat) (s : Slots) (after : IsMade (handles ++ more) m s) where
  abbrev gone : List Cell
  gone = drop (length before.cells) m.cells

  all_long : length (before.cells ++ map as_freed gone) ≡ length m.cells
  all_long =
      let first = beside.cells.len in
      let second = after.1 in
      let both = length-append handles more in
      let less : length before.cells ≤ length m.cells = omega (arith, first, second, both) in
      let rest = long_drop (length before.cells) m.cells less in
      let sum = length-append before.cells (map as_freed gone) in
      let same = length-map gone as_freed in
      omega (arith, rest, sum, same)

  row : Numbers old.numbers (handles ++ more) (before.cells ++ map as_freed gone)
  row n ws there =
      let was = were_there before.cells gone n ws there in
      ap old.numbers (same_handle handles more before.cells gone old.heap [] beside.cells n ws was) ∙ beside.numbered n ws was

  sizes : old.sizes ++ drop (length old.sizes) s.sizes ≡ sizes_of (before.cells ++ map as_freed gone)
  sizes =
      (λ j. beside.made.1 j ++ drop (length (beside.made.1 j)) (after.0.1 j))
      ∙ (ap (λ n. sizes_of before.cells ++ drop n (sizes_of m.cells)) (length-map before.cells (λ (c : Cell). length c.words))
      ∙ (ap (λ rest. sizes_of before.cells ++ rest) (drop_map (λ (c : Cell). length c.words) (length before.cells) m.cells ∙ freed_sizes gone)
      ∙ sym (map-append (λ (c : Cell). length c.words) before.cells (map as_freed gone))))

  pub given_beside : Beside (handles ++ more) here taken (points.given_up before m) (given_up old s)
  given_beside = record {
    stack = beside.stack ∙ words_on handles more here before.stack beside.names;
    known = beside.known;
    waits = beside.waits ∙ words_on handles more taken before.waits beside.waiting_names;
    base = beside.base;
    live = beside.live;
    made = (after.0.0 ∙ sym all_long, sizes);
    freed = ap (λ n. n + (s.made - old.made)) beside.freed ∙ (ap (λ n. before.freed + (n - old.made)) after.0.0 ∙ ap (λ n. before.freed + (length m.cells - n)) beside.made.0);
    rest = beside.rest;
    cells = given_follows handles more before.cells gone old.heap s.heap.slots beside.cells (after.1 ∙ sym all_long);
    numbered = row;
    small = after.2;
    names = names_on handles more here before.stack beside.names;
    waiting_names = names_on handles more taken before.waits beside.waiting_names;
  }
