-- The cells by number and the heap go on together.
use Rattle.std.proofs.Common.{◌≡◌, ◌⊎◌, ℕ, zero, suc, ◌+◌, ◌<◌, ◌≤◌, ◌==◌, Bool, true, false, true≢false, nat_lt, if◌then◌else◌, None, Some, Option, IsSomeAnd, List, [], ◌∷◌, ◌++◌, map, length, get_or, option_and_then, slice_get, slice_set, refl, sym, ap, subst, ◌∙◌, arith, inl, inr, ⊎_elim, length-append, length-set}
use Rattle.std.proofs.lemmas.Bool.{cases_eq, cases_lt}
use Rattle.std.proofs.lemmas.Bool.Decides.{nat_tests}
use Rattle.std.proofs.lemmas.List.{get_or_append_left, get_or_push, length-map}
use Rattle.run_values.specs.declared.value.Value.{Value}
use Rattle.run_values.specs.declared.value.Value.TheVariants as value
use Rattle.run_values.specs.Values.{kind}
use Rattle.kept_cells.specs.Cells as numbered
use Rattle.kept_cells.specs.Cells.{Cell}
use Rattle.run_codes.specs.Flat.{gone_from}
use Rattle.slot_heap.specs.Heaps.{Heap, no_heap, words_at, allocated, written, released, without, changed, live_count, IsOfSize, HasWord, Holds}
use Rattle.slot_heap.proofs.Heaps.{words_at-changed_same, words_at-changed_other, words_at-without_other, words_at-without_same, IsOnce-changed, IsOnce-without, live_count-changed, live_count-without_same, live_count-without_other}
use Rattle.slot_heap.proofs.Made.{words_at-new_same, words_at-new_other}
use Rattle.slot_heap.proofs.Places.{get-append, get-append_right, is_within}
use Rattle.numbered_cells.specs.Follows.{handled, IsThere, Names, AllName, one_there, there_count, Follows}

-- ---- one cell is changed

changed_other : (f : Cell → Cell) (cells : List Cell) (n k : ℕ) → (k ≡ n → ⊥) → slice_get (numbered.changed f cells n) k ≡ slice_get cells k
changed_other f [] n k other = refl
changed_other f (c ∷ cells) zero zero other = absurd (other refl)
changed_other f (c ∷ cells) zero (suc k) other = refl
changed_other f (c ∷ cells) (suc n) zero other = refl
changed_other f (c ∷ cells) (suc n) (suc k) other = changed_other f cells n k (λ e. other (ap suc e))

changed_same : (f : Cell → Cell) (cells : List Cell) (n : ℕ) (c : Cell) → slice_get cells n ≡ Some c → slice_get (numbered.changed f cells n) n ≡ Some (f c)
changed_same f [] n c is = cc
changed_same f (d ∷ cells) zero c is = ap (λ x. Some (f x)) (let same : d ≡ c = cc in same)
changed_same f (d ∷ cells) (suc n) c is = changed_same f cells n c is

changed_long : (f : Cell → Cell) (cells : List Cell) (n : ℕ) → length (numbered.changed f cells n) ≡ length cells
changed_long f [] n = refl
changed_long f (c ∷ cells) zero = refl
changed_long f (c ∷ cells) (suc n) = ap suc (changed_long f cells n)

abbrev words_of : Option Cell → List Value
words_of None = []
words_of (Some c) = c.words

abbrev freed_of : Option Cell → Bool
freed_of None = false
freed_of (Some c) = c.freed

some_none : {A : Type 0} (a : A) → Some a ≡ None → ⊥
some_none a is = cc

-- ---- without cells

pub follows-none : Follows [] [] no_heap
follows-none = record {
  len = refl;
  live = λ n ws there. absurd (some_none _ (sym there));
  once = λ n k us ws there_n there_k same. absurd (some_none _ (sym there_n));
  names = λ n ws there. absurd (some_none _ (sym there));
  alone = tt;
  back = λ h us there. absurd (some_none _ (sym there));
  counts = λ n. refl;
}

-- ---- a cell is freed

freed_not_there : (cells : List Cell) (n : ℕ) (ws : List Value) → IsThere (numbered.released cells n) n ws → ⊥
freed_not_there [] n ws there = cc
freed_not_there (c ∷ cells) zero ws there = true≢false (ap freed_of there)
freed_not_there (c ∷ cells) (suc n) ws there = freed_not_there cells n ws there

-- What is still there is another one.
still_there : (cells : List Cell) (n k : ℕ) (ws : List Value) → IsThere (numbered.released cells n) k ws → (k ≡ n → ⊥) × IsThere cells k ws
still_there cells n k ws there =
    let other : k ≡ n → ⊥ = λ e. freed_not_there cells n ws (let P : ℕ → Type 0 = λ i. IsThere (numbered.released cells n) i ws in subst P e there) in
    (other, sym (changed_other (λ c. record c { freed = true }) cells n k other) ∙ there)

count_freed_same : (cells : List Cell) (k : ℕ) (ws : List Value) → IsThere cells k ws
    → there_count (length ws) cells ≡ suc (there_count (length ws) (numbered.released cells k))
count_freed_same [] k ws there = cc
count_freed_same (c ∷ cells) zero ws there =
    let same : c ≡ record { words = ws; freed = false } = cc in
    subst (λ (d : Cell). one_there (length ws) d + there_count (length ws) cells ≡ suc (0 + there_count (length ws) cells)) (sym same) (grind (arith, nat_tests))
count_freed_same (c ∷ cells) (suc k) ws there =
    let others = count_freed_same cells k ws there in
    omega (arith, others)

count_freed_other : (cells : List Cell) (k n : ℕ) (ws : List Value) → IsThere cells k ws → (n ≡ length ws → ⊥)
    → there_count n cells ≡ there_count n (numbered.released cells k)
count_freed_other [] k n ws there other = cc
count_freed_other (c ∷ cells) zero n ws there other =
    let same : c ≡ record { words = ws; freed = false } = cc in
    subst (λ (d : Cell). one_there n d + there_count n cells ≡ 0 + there_count n cells) (sym same) (grind (arith, nat_tests))
count_freed_other (c ∷ cells) (suc k) n ws there other = ap (λ i. one_there n c + i) (count_freed_other cells k n ws there other)

counts-freed : (handles : List ℕ) (cells : List Cell) (m : Heap) (k : ℕ) (ws : List Value) → IsThere cells k ws → Follows handles cells m
    → (n : ℕ) → live_count n (without m.cells (get_or handles k 0)) ≡ there_count n (numbered.released cells k)
counts-freed handles cells m k ws is f n =
    let size = length-map ws (handled handles) in
    let us : List Value = map (handled handles) ws in
    let live = f.live k ws is in
    ⊎_elim
    (λ (e : n ≡ length ws).
    let before = f.counts (length ws) in
    let one : live_count (length ws) m.cells ≡ live_count (length ws) (without m.cells (get_or handles k 0)) + 1 =
    subst (λ i. live_count i m.cells ≡ live_count i (without m.cells (get_or handles k 0)) + 1) size (live_count-without_same m.cells (get_or handles k 0) us live) in
    let here : live_count (length ws) (without m.cells (get_or handles k 0)) ≡ there_count (length ws) (numbered.released cells k) =
    omega (arith, before, one, count_freed_same cells k ws is) in
    subst (λ i. live_count i (without m.cells (get_or handles k 0)) ≡ there_count i (numbered.released cells k)) (sym e) here)
    (λ other.
    sym (live_count-without_other m.cells (get_or handles k 0) us n live (λ e. other (e ∙ size))) ∙ f.counts n ∙ count_freed_other cells k n ws is other)
    (cases_eq n (length ws))

pub follows-freed : (handles : List ℕ) (cells : List Cell) (m : Heap) (n : ℕ) (ws : List Value) → IsThere cells n ws → Follows handles cells m
    → Follows handles (numbered.released cells n) (released m (get_or handles n 0))
follows-freed handles cells m n ws is f = record {
  len = f.len ∙ sym (changed_long (λ c. record c { freed = true }) cells n);
  live = λ k us there.
      let before = still_there cells n k us there in
      words_at-without_other m.cells (get_or handles n 0) (get_or handles k 0) (λ e. before.0 (f.once k n us ws before.1 is e)) ∙ f.live k us before.1;
  once = λ j k us vs there_j there_k same. f.once j k us vs (still_there cells n j us there_j).1 (still_there cells n k vs there_k).1 same;
  names = λ k us there. f.names k us (still_there cells n k us there).1;
  alone = IsOnce-without m.cells (get_or handles n 0) f.alone;
  back = λ h us there. ⊎_elim
      (λ (e : h ≡ get_or handles n 0).
      let P : ℕ → Type 0 = λ a. words_at (without m.cells (get_or handles n 0)) a ≡ Some us in
      let clash : None ≡ Some us = sym (words_at-without_same m.cells (get_or handles n 0) f.alone) ∙ subst P e there in
      absurd (some_none us (sym clash)))
      (λ other.
      let before = f.back h us (sym (words_at-without_other m.cells (get_or handles n 0) h other) ∙ there) in
      let same = before.same in
      let not_n : before.number ≡ n → ⊥ = λ e. other (sym same ∙ ap (λ i. get_or handles i 0) e) in
      record { number = before.number; words = before.words; there = changed_other (λ c. record c { freed = true }) cells n before.number not_n ∙ before.there; same = same })
      (cases_eq h (get_or handles n 0));
  counts = counts-freed handles cells m n ws is f;
}

-- ---- a cell is made

handled_one : (handles : List ℕ) (h : ℕ) (v : Value) → Names (length handles) v → handled (handles ++ h ∷ []) v ≡ handled handles v
handled_one handles h (value.Int i) named = refl
handled_one handles h (value.Enum n) named = refl
handled_one handles h value.Null named = refl
handled_one handles h (value.Cell n) named = by (nat_lt n gone_from) named
  where
    by : (b : Bool) → (b ≡ true → n < length handles)
        → (if b then value.Cell (get_or (handles ++ h ∷ []) n 0) else value.Null) ≡ (if b then value.Cell (get_or handles n 0) else value.Null)
    by true named = ap (λ k. value.Cell k) (get_or_append_left handles (h ∷ []) 0 n (named refl))
    by false named = refl

-- Words that name earlier cells have the handles that they had.
handled_more : (handles : List ℕ) (h : ℕ) (ws : List Value) → AllName (length handles) ws → map (handled (handles ++ h ∷ [])) ws ≡ map (handled handles) ws
handled_more handles h [] named = refl
handled_more handles h (v ∷ ws) named =
    ap (λ w. w ∷ map (handled (handles ++ h ∷ [])) ws) (handled_one handles h v named.0)
    ∙ ap (λ rest. handled handles v ∷ rest) (handled_more handles h ws named.1)

name_more : (a b : ℕ) (v : Value) → a ≤ b → Names a v → Names b v
name_more a b (value.Int i) le named = tt
name_more a b (value.Enum n) le named = tt
name_more a b value.Null le named = tt
name_more a b (value.Cell n) le named = λ is. (let lt = named is in omega (arith, lt, le))

more_names : (a b : ℕ) (ws : List Value) → a ≤ b → AllName a ws → AllName b ws
more_names a b [] le named = named
more_names a b (v ∷ ws) le named = (name_more a b v le named.0, more_names a b ws le named.1)

-- The last cell, or one before.
record Earlier (cells : List Cell) (k : ℕ) (us : List Value) : Type 0 where
  within : k < length cells
  there : IsThere cells k us

there_cases : (cells : List Cell) (ws : List Value) (k : ℕ) (us : List Value) → IsThere (numbered.allocated cells ws) k us → Earlier cells k us ⊎ ((k ≡ length cells) × (us ≡ ws))
there_cases cells ws k us there =
    let last : Cell = record { words = ws; freed = false } in
    let all = cells ++ last ∷ [] in
    ⊎_elim
    (λ (less : k < length cells).
    let before : Earlier cells k us = record { within = less; there = sym (get-append cells (last ∷ []) k less) ∙ there } in
    inl before)
    (λ from.
    let within = is_within all k _ there in
    let size = length-append cells (last ∷ []) in
    let at : k ≡ length cells = omega (arith, within, size, from) in
    let place : k ≡ length cells + 0 = omega (arith, at) in
    let P : ℕ → Type 0 = λ i. IsThere all i us in
    let here : Some last ≡ Some (record { words = us; freed = false }) = sym (get-append_right cells (last ∷ []) 0) ∙ subst P place there in
    let same : ws ≡ us = ap words_of here in
    inr (at, sym same))
    (cases_lt k (length cells))

count_last : (cells : List Cell) (ws : List Value) (n : ℕ) → there_count n (numbered.allocated cells ws) ≡ (if length ws == n then 1 else 0) + there_count n cells
count_last [] ws n = refl
count_last (c ∷ cells) ws n =
    let others = count_last cells ws n in
    omega (arith, others)

count_new : (cells : List Cell) (m : Heap) (h n : ℕ) (us ws : List Value) → length us ≡ length ws → live_count n m.cells ≡ there_count n cells
    → live_count n (allocated m h us).cells ≡ there_count n (numbered.allocated cells ws)
count_new cells m h n us ws size before =
    let last = count_last cells ws n in
    grind (arith, nat_tests)

pub follows-allocated : (handles : List ℕ) (cells : List Cell) (m : Heap) (h : ℕ) (ws : List Value) → words_at m.cells h ≡ None → AllName (length handles) ws → Follows handles cells m
    → Follows (handles ++ h ∷ []) (numbered.allocated cells ws) (allocated m h (map (handled handles) ws))
follows-allocated handles cells m h ws new named f =
    let more = length-append handles (h ∷ []) in
    let last : Cell = record { words = ws; freed = false } in
    let many = length-append cells (last ∷ []) in
    let len = f.len in
    let hs = handles ++ h ∷ [] in
    let old = λ (k : ℕ) (less : k < length cells). let it : get_or hs k 0 ≡ get_or handles k 0 = get_or_append_left handles (h ∷ []) 0 k (omega (arith, less, len)) in it in
    let at_last : get_or hs (length cells) 0 ≡ h = get_or_push handles h 0 (length cells) len in
    let not_new = λ (k : ℕ) (us : List Value) (e : Earlier cells k us) (same : get_or hs k 0 ≡ h).
    let live = f.live k us e.there in
    let P : ℕ → Type 0 = λ a. words_at m.cells a ≡ None in
    let dead : words_at m.cells (get_or handles k 0) ≡ None = subst P (sym (sym (old k e.within) ∙ same)) new in
    let never : ⊥ = some_none (map (handled handles) us) (sym live ∙ dead) in never in
    record {
      len = omega (arith, more, many, len);
      live = λ k us there. ⊎_elim
          (λ e. words_at-new_other m.cells h (get_or hs k 0) (map (handled handles) ws) (not_new k us e)
          ∙ ap (words_at m.cells) (old k e.within) ∙ f.live k us e.there ∙ ap Some (sym (handled_more handles h us (f.names k us e.there))))
          (λ e.
          let place : get_or hs k 0 ≡ h = ap (λ i. get_or hs i 0) e.0 ∙ at_last in
          ap (words_at (allocated m h (map (handled handles) ws)).cells) place ∙ words_at-new_same m.cells h (map (handled handles) ws)
          ∙ ap Some (sym (handled_more handles h ws named) ∙ ap (map (handled hs)) (sym e.1)))
          (there_cases cells ws k us there);
      once = λ j k us vs there_j there_k same. ⊎_elim
          (λ a. ⊎_elim
          (λ b. f.once j k us vs a.there b.there (sym (old j a.within) ∙ same ∙ old k b.within))
          (λ b. absurd (not_new j us a (same ∙ ap (λ i. get_or hs i 0) b.0 ∙ at_last)))
          (there_cases cells ws k vs there_k))
          (λ a. ⊎_elim
          (λ b. absurd (not_new k vs b (sym same ∙ ap (λ i. get_or hs i 0) a.0 ∙ at_last)))
          (λ b. a.0 ∙ sym b.0)
          (there_cases cells ws k vs there_k))
          (there_cases cells ws j us there_j);
      names = λ k us there. ⊎_elim
          (λ e. more_names (length handles) (length hs) us (omega (arith, more)) (f.names k us e.there))
          (λ e. let P : List Value → Type 0 = λ l. AllName (length hs) l in
          subst P (sym e.1) (more_names (length handles) (length hs) ws (omega (arith, more)) named))
          (there_cases cells ws k us there);
      alone = (new, f.alone);
      back = λ g us there. ⊎_elim
          (λ (e : g ≡ h).
          let place : length cells + 0 ≡ length cells = omega arith in
          let P : ℕ → Type 0 = λ i. IsThere (cells ++ last ∷ []) i ws in
          let here : IsThere (cells ++ last ∷ []) (length cells) ws = subst P place (get-append_right cells (last ∷ []) 0) in
          record { number = length cells; words = ws; there = here; same = at_last ∙ sym e })
          (λ other.
          let before = f.back g us (sym (words_at-new_other m.cells h g (map (handled handles) ws) other) ∙ there) in
          let within = is_within cells before.number _ before.there in
          record { number = before.number; words = before.words; there = get-append cells (last ∷ []) before.number within ∙ before.there; same = old before.number within ∙ before.same })
          (cases_eq g h);
      counts = λ n. count_new cells m h n (map (handled handles) ws) ws (length-map ws (handled handles)) (f.counts n);
    }

-- ---- a word is written

map_set : (f : Value → Value) (ws : List Value) (at : ℕ) (v : Value) → map f (slice_set ws at v) ≡ slice_set (map f ws) at (f v)
map_set f [] at v = refl
map_set f (w ∷ ws) zero v = refl
map_set f (w ∷ ws) (suc at) v = ap (λ l. f w ∷ l) (map_set f ws at v)

names_set : (bound : ℕ) (ws : List Value) (at : ℕ) (v : Value) → AllName bound ws → Names bound v → AllName bound (slice_set ws at v)
names_set bound [] at v all named = all
names_set bound (w ∷ ws) zero v all named = (named, all.1)
names_set bound (w ∷ ws) (suc at) v all named = (all.0, names_set bound ws at v all.1 named)

count_written : (n : ℕ) (cells : List Cell) (k at : ℕ) (v : Value) → there_count n (numbered.written cells k at v) ≡ there_count n cells
count_written n [] k at v = refl
count_written n (c ∷ cells) zero at v = ap (λ i. (if c.freed then 0 else (if i == n then 1 else 0)) + there_count n cells) (length-set c.words at v)
count_written n (c ∷ cells) (suc k) at v = ap (λ i. one_there n c + i) (count_written n cells k at v)

module _ (handles : List ℕ) (cells : List Cell) (m : Heap) (n : ℕ) (ws : List Value) (at : ℕ) (v : Value) (is : IsThere cells n ws) (named : Names (length handles) v) (f : Follows handles cells m) where
  change : Cell → Cell
  change c = record c { words = slice_set c.words at v }

  -- It is the cell with the word, or another one.
  written_cases : (k : ℕ) (us : List Value) → IsThere (numbered.written cells n at v) k us → ((k ≡ n) × (us ≡ slice_set ws at v)) ⊎ ((k ≡ n → ⊥) × IsThere cells k us)
  written_cases k us there =
      ⊎_elim
      (λ (e : k ≡ n).
      let here : IsThere (numbered.written cells n at v) n us = subst (λ i. IsThere (numbered.written cells n at v) i us) e there in
      let same : us ≡ slice_set ws at v = ap words_of (sym here ∙ changed_same (λ c. record c { words = slice_set c.words at v }) cells n (record { words = ws; freed = false }) is) in
      inl (e, same))
      (λ other. inr (other, sym (changed_other (λ c. record c { words = slice_set c.words at v }) cells n k other) ∙ there))
      (cases_eq k n)

  -- It was there.
  was_there : (k : ℕ) (us : List Value) → IsThere (numbered.written cells n at v) k us → (vs : List Value) × IsThere cells k vs
  was_there k us there =
      ⊎_elim
      (λ (e : (k ≡ n) × (us ≡ slice_set ws at v)). let it : (vs : List Value) × IsThere cells k vs = (ws, subst (λ i. IsThere cells i ws) (sym e.0) is) in it)
      (λ (e : (k ≡ n → ⊥) × IsThere cells k us). (us, e.1))
      (written_cases k us there)

  pub follows-written : Follows handles (numbered.written cells n at v) (written m (get_or handles n 0) at (handled handles v))
  follows-written =
      let set : List Value → List Value = λ us. slice_set us at (handled handles v) in
      record {
        len = f.len ∙ sym (changed_long (λ c. record c { words = slice_set c.words at v }) cells n);
        live = λ k us there. ⊎_elim
            (λ (e : (k ≡ n) × (us ≡ slice_set ws at v)).
            ap (λ i. words_at (changed set m.cells (get_or handles n 0)) (get_or handles i 0)) e.0
            ∙ words_at-changed_same set m.cells (get_or handles n 0) (map (handled handles) ws) (f.live n ws is)
            ∙ ap Some (sym (map_set (handled handles) ws at v) ∙ ap (map (handled handles)) (sym e.1)))
            (λ (e : (k ≡ n → ⊥) × IsThere cells k us).
            words_at-changed_other set m.cells (get_or handles n 0) (get_or handles k 0) (λ same. e.0 (f.once k n us ws e.1 is same)) ∙ f.live k us e.1)
            (written_cases k us there);
        once = λ j k us vs there_j there_k same.
            let a = was_there j us there_j in
            let b = was_there k vs there_k in
            f.once j k a.0 b.0 a.1 b.1 same;
        names = λ k us there. ⊎_elim
            (λ (e : (k ≡ n) × (us ≡ slice_set ws at v)). subst (λ l. AllName (length handles) l) (sym e.1) (names_set (length handles) ws at v (f.names n ws is) named))
            (λ (e : (k ≡ n → ⊥) × IsThere cells k us). f.names k us e.1)
            (written_cases k us there);
        alone = IsOnce-changed set m.cells (get_or handles n 0) f.alone;
        back = λ h us there. ⊎_elim
            (λ (e : h ≡ get_or handles n 0).
            record {
              number = n;
              words = slice_set ws at v;
              there = changed_same (λ c. record c { words = slice_set c.words at v }) cells n (record { words = ws; freed = false }) is;
              same = sym e;
            })
            (λ other.
            let before = f.back h us (sym (words_at-changed_other set m.cells (get_or handles n 0) h other) ∙ there) in
            let not_n : before.number ≡ n → ⊥ = λ e. other (sym before.same ∙ ap (λ i. get_or handles i 0) e) in
            record { number = before.number; words = before.words; there = changed_other (λ c. record c { words = slice_set c.words at v }) cells n before.number not_n ∙ before.there; same = before.same })
            (cases_eq h (get_or handles n 0));
        counts = λ i. live_count-changed set i m.cells (get_or handles n 0) (λ us. length-set us at (handled handles v)) ∙ f.counts i ∙ sym (count_written i cells n at v);
      }

-- ---- what a touch asks of the heap

map_at : (g : Value → Value) (ws : List Value) (at : ℕ) (v : Value) → slice_get ws at ≡ Some v → slice_get (map g ws) at ≡ Some (g v)
map_at g [] at v is = cc
map_at g (w ∷ ws) zero v is = ap (λ x. Some (g x)) (let same : w ≡ v = cc in same)
map_at g (w ∷ ws) (suc at) v is = map_at g ws at v is

kind_handled : (handles : List ℕ) (v : Value) → kind (handled handles v) ≡ kind v
kind_handled handles (value.Int i) = refl
kind_handled handles (value.Enum n) = refl
kind_handled handles value.Null = refl
kind_handled handles (value.Cell n) = by (nat_lt n gone_from)
  where
    by : (b : Bool) → kind (if b then value.Cell (get_or handles n 0) else value.Null) ≡ kind (value.Cell n)
    by true = refl
    by false = refl

module _ (handles : List ℕ) (cells : List Cell) (m : Heap) (n : ℕ) (ws : List Value) (is : IsThere cells n ws) (f : Follows handles cells m) where
  -- The size of a cell that is there is that of its handle.
  pub there_sized : IsOfSize m (get_or handles n 0) (length ws)
  there_sized =
      subst (λ (x : Option (List Value)). IsSomeAnd x (λ us. length us ≡ length ws)) (sym (f.live n ws is)) (length-map ws (handled handles))

  -- Its words stand there, with handles in place of numbers.
  pub there_word : (at : ℕ) (v : Value) → slice_get ws at ≡ Some v → HasWord m (get_or handles n 0) at (handled handles v)
  there_word at v e =
      ap (option_and_then (λ us. slice_get us at)) (f.live n ws is) ∙ map_at (handled handles) ws at v e

  pub there_holds : (at : ℕ) (v : Value) → slice_get ws at ≡ Some v → Holds m (get_or handles n 0) at (kind v)
  there_holds at v e =
      subst (λ (x : Option Value). IsSomeAnd x (λ w. kind w ≡ kind v)) (sym (there_word at v e)) (kind_handled handles v)
