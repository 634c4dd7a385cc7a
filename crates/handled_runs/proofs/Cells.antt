-- Cells that are made, written and freed are so over both heaps.
use Rattle.std.proofs.Common.{◌≡◌, refl, sym, ap, ◌∙◌, subst, ℕ, zero, suc, ◌+◌, ◌-◌, ◌<◌, ◌≤◌, arith, Bool, true, false, true≢false, not, ◌&&◌, nat_lt, nat_le, List, [], ◌∷◌, ◌++◌, map, drop, length, get_or, slice_get, slice_set, length-append, Some, None, ℤ, pos, negsuc, if◌then◌else◌}
use Rattle.std.proofs.lemmas.Bool.Decides.{nat_tests}
use Rattle.std.proofs.lemmas.List.{get_or_append_left, length-map}
use Rattle.numbered_cells.specs.run_values.declared.value.Value.{Value}
use Rattle.numbered_cells.specs.run_values.declared.value.Value.TheVariants as value
use Rattle.numbered_cells.specs.run_values.declared.value.Kind.{Kind}
use Rattle.numbered_cells.specs.run_values.declared.value.Kind.TheVariants as sort
use Rattle.numbered_cells.specs.machine.Evaluate.{StorageError, heap_words}
use Rattle.numbered_cells.specs.kept_cells.Cells as numbered
use Rattle.numbered_cells.specs.kept_cells.Cells.{Cell}
use Rattle.numbered_cells.specs.slot_heap.Heaps.{Heap, words_at, written, allocated}
use Rattle.numbered_cells.specs.run_codes.Flat.{Flat, Got, Given, Stops, Broken, Memory, Raises, spliced, gone_from, most_cells, values, is_word, are_words, are_in, have_kinds, most_offsets, touched, with_words, with_cell, made, Made, Done, Halted, Failed, InCell}
use Rattle.numbered_cells.specs.run_codes.Flat as flat
use Rattle.numbered_cells.specs.Follows.{handled, IsThere, Names, AllName, Follows}
use Rattle.numbered_cells.proofs.Numbering.{follows-freed, follows-allocated, follows-written}
use Rattle.handled_runs.specs.Fits.{most_handles, are_slot_words}
use Rattle.handled_runs.specs.Slots.{Slots}
use Rattle.handled_runs.specs.Changes.{slot_value, slot_values, written_all, cell_stored, stored, row_with, with_heap}
use Rattle.handled_runs.specs.Changes as changes
use Rattle.handled_runs.specs.Beside.{renamed, all_renamed, NamesWord, NameWords, Numbers, sizes_of, Beside}
use Rattle.handled_runs.proofs.Named.{long_renamed}
use Rattle.handled_runs.proofs.Fit.{small_next, both_true, words_fit, kinds_stand}
use Rattle.handled_runs.proofs.Lists.{replaced, spliced_is}
use Rattle.handled_runs.proofs.Sizes.{sizes_changed, sizes_freed, sizes_next, spliced_long}
use Rattle.handled_runs.proofs.Rows.{numbers_kept, changed_were, freed_were, row_kept}

-- ---- values

below : (n : ℕ) → nat_le (suc n) most_cells ≡ true → nat_lt n gone_from ≡ true
below n e = grind (arith, nat_tests)

pub never_below : (n : ℕ) → nat_lt (n + gone_from) gone_from ≡ false
never_below n = grind (arith, nat_tests)

first_of : (a b : Bool) → a && b ≡ true → a ≡ true
first_of true b e = refl
first_of false b e = cc

second_of : (a b : Bool) → a && b ≡ true → b ≡ true
second_of true b e = e
second_of false b e = cc

value_handled : (handles : List ℕ) (k : Kind) (z : ℤ) → is_word k z ≡ true → slot_value k (renamed handles k z) ≡ handled handles (flat.value_of k z)
value_handled handles sort.Int z is = refl
value_handled handles sort.Enum z is = refl
value_handled handles sort.Access (pos zero) is = refl
value_handled handles sort.Access (pos (suc n)) is = ap (λ b. if b then value.Cell (get_or handles n 0) else value.Null) (sym (below n is))
value_handled handles sort.Access (negsuc n) is = ap (λ b. if b then value.Cell (get_or handles (n + gone_from) 0) else value.Null) (sym (never_below n))

pub values_handled : (handles : List ℕ) (ks : List Kind) (zs : List ℤ) → are_words ks zs ≡ true → slot_values ks (all_renamed handles ks zs) ≡ map (handled handles) (values ks zs)
values_handled handles [] [] is = refl
values_handled handles [] (z ∷ zs) is = cc
values_handled handles (k ∷ ks) [] is = cc
values_handled handles (k ∷ ks) (z ∷ zs) is =
    ap (λ v. v ∷ slot_values ks (all_renamed handles ks zs)) (value_handled handles k z (first_of (is_word k z) (are_words ks zs) is))
    ∙ ap (λ vs. handled handles (flat.value_of k z) ∷ vs) (values_handled handles ks zs (second_of (is_word k z) (are_words ks zs) is))

words_long : (ks : List Kind) (zs : List ℤ) → are_words ks zs ≡ true → length ks ≡ length zs
words_long [] [] is = refl
words_long [] (z ∷ zs) is = cc
words_long (k ∷ ks) [] is = cc
words_long (k ∷ ks) (z ∷ zs) is = ap suc (words_long ks zs (second_of (is_word k z) (are_words ks zs) is))

values_long : (ks : List Kind) (zs : List ℤ) → length ks ≡ length zs → length (values ks zs) ≡ length zs
values_long [] [] e = refl
values_long [] (z ∷ zs) e = cc
values_long (k ∷ ks) [] e = cc
values_long (k ∷ ks) (z ∷ zs) e = ap suc (values_long ks zs (let same : length ks ≡ length zs = cc in same))

value_names : (bound : ℕ) (k : Kind) (z : ℤ) → NamesWord bound k z → Names bound (flat.value_of k z)
value_names bound sort.Int z is = tt
value_names bound sort.Enum z is = tt
value_names bound sort.Access (pos zero) is = tt
value_names bound sort.Access (pos (suc n)) is = λ low. is
value_names bound sort.Access (negsuc n) is = λ low. absurd (true≢false (sym low ∙ never_below n))

pub values_name : (bound : ℕ) (ks : List Kind) (zs : List ℤ) → NameWords bound ks zs → AllName bound (values ks zs)
values_name bound [] zs names = tt
values_name bound (k ∷ ks) [] names = tt
values_name bound (k ∷ ks) (z ∷ zs) names = (value_names bound k z names.0, values_name bound ks zs names.1)

-- ---- more handles

module _ (handles added : List ℕ) where
  abbrev more : List ℕ
  more = handles ++ added

  word_on : (k : Kind) (z : ℤ) → NamesWord (length handles) k z → renamed handles k z ≡ renamed more k z
  word_on sort.Int z is = refl
  word_on sort.Enum z is = refl
  word_on sort.Access (pos zero) is = refl
  word_on sort.Access (pos (suc n)) is = ap (λ x. pos (suc x)) (sym (get_or_append_left handles added 0 n is))
  word_on sort.Access (negsuc n) is = refl

  pub words_on : (ks : List Kind) (zs : List ℤ) → NameWords (length handles) ks zs → all_renamed handles ks zs ≡ all_renamed more ks zs
  words_on [] zs names = refl
  words_on (k ∷ ks) [] names = refl
  words_on (k ∷ ks) (z ∷ zs) names = ap (λ w. w ∷ all_renamed handles ks zs) (word_on k z names.0) ∙ ap (λ ws. renamed more k z ∷ ws) (words_on ks zs names.1)

  name_on : (k : Kind) (z : ℤ) → NamesWord (length handles) k z → NamesWord (length more) k z
  name_on sort.Int z is = tt
  name_on sort.Enum z is = tt
  name_on sort.Access (pos zero) is = tt
  name_on sort.Access (pos (suc n)) is = let long = length-append handles added in omega (arith, is, long)
  name_on sort.Access (negsuc n) is = tt

  pub names_on : (ks : List Kind) (zs : List ℤ) → NameWords (length handles) ks zs → NameWords (length more) ks zs
  names_on [] zs names = tt
  names_on (k ∷ ks) [] names = tt
  names_on (k ∷ ks) (z ∷ zs) names = (name_on k z names.0, names_on ks zs names.1)

-- ---- some words of a cell

replaced_none : {A : Type 0} (o : ℕ) (ws : List A) → replaced o [] ws ≡ ws
replaced_none zero ws = refl
replaced_none (suc o) [] = refl
replaced_none (suc o) (w ∷ ws) = ap (λ rest. w ∷ rest) (replaced_none o ws)

replaced_next : (o : ℕ) (v : Value) (vs ws : List Value) → replaced o (v ∷ vs) ws ≡ replaced (suc o) vs (slice_set ws o v)
replaced_next zero v vs [] = refl
replaced_next zero v vs (w ∷ ws) = refl
replaced_next (suc o) v vs [] = refl
replaced_next (suc o) v vs (w ∷ ws) = ap (λ rest. w ∷ rest) (replaced_next o v vs ws)

abbrev pub change : ℕ → List Value → Cell → Cell
change o vs c = record c { words = replaced o vs c.words }

change_none : (o : ℕ) (cells : List Cell) (n : ℕ) → numbered.changed (change o []) cells n ≡ cells
change_none o [] n = refl
change_none o (c ∷ cells) zero = ap (λ ws. record c { words = ws } ∷ cells) (replaced_none o c.words)
change_none o (c ∷ cells) (suc n) = ap (λ rest. c ∷ rest) (change_none o cells n)

change_next : (o : ℕ) (v : Value) (vs : List Value) (cells : List Cell) (n : ℕ)
    → numbered.changed (change o (v ∷ vs)) cells n ≡ numbered.changed (change (suc o) vs) (numbered.written cells n o v) n
change_next o v vs [] n = refl
change_next o v vs (c ∷ cells) zero = ap (λ ws. record c { words = ws } ∷ cells) (replaced_next o v vs c.words)
change_next o v vs (c ∷ cells) (suc n) = ap (λ rest. c ∷ rest) (change_next o v vs cells n)

pub changed_at : (f g : Cell → Cell) (cells : List Cell) (n : ℕ) (c : Cell) → slice_get cells n ≡ Some c → f c ≡ g c → numbered.changed f cells n ≡ numbered.changed g cells n
changed_at f g [] n c is same = refl
changed_at f g (d ∷ cells) zero c is same = let one : d ≡ c = cc in ap (λ x. x ∷ cells) (ap f one ∙ (same ∙ ap g (sym one)))
changed_at f g (d ∷ cells) (suc n) c is same = ap (λ rest. d ∷ rest) (changed_at f g cells n c is same)

pub changed_there : (f : Cell → Cell) (cells : List Cell) (n : ℕ) (c : Cell) → slice_get cells n ≡ Some c → slice_get (numbered.changed f cells n) n ≡ Some (f c)
changed_there f [] n c is = cc
changed_there f (d ∷ cells) zero c is = ap (λ x. Some (f x)) (let same : d ≡ c = cc in same)
changed_there f (d ∷ cells) (suc n) c is = changed_there f cells n c is

all_follow : (handles : List ℕ) (n o : ℕ) (vs ws : List Value) (cells : List Cell) (m : Heap) → IsThere cells n ws → AllName (length handles) vs → Follows handles cells m
    → Follows handles (numbered.changed (change o vs) cells n) (written_all m (get_or handles n 0) o (map (handled handles) vs))
all_follow handles n o [] ws cells m there names f = subst (λ x. Follows handles x m) (sym (change_none o cells n)) f
all_follow handles n o (v ∷ vs) ws cells m there names f =
    subst (λ x. Follows handles x (written_all (written m (get_or handles n 0) o (handled handles v)) (get_or handles n 0) (suc o) (map (handled handles) vs))) (sym (change_next o v vs cells n))
    (all_follow handles n (suc o) vs (slice_set ws o v) (numbered.written cells n o v) (written m (get_or handles n 0) o (handled handles v))
    (changed_there (λ (c : Cell). record c { words = slice_set c.words o v }) cells n (record { words = ws; freed = false }) there) names.1
    (follows-written handles cells m n ws o v there names.0 f))

pub kinds_long : (ks : List Kind) (ws : List Value) → have_kinds ks ws ≡ true → length ks ≤ length ws
kinds_long [] ws e = omega arith
kinds_long (k ∷ ks) [] e = cc
kinds_long (k ∷ ks) (w ∷ ws) e = let less = kinds_long ks ws (second_of _ (have_kinds ks ws) e) in omega (arith, less)

pub drop_long : (o : ℕ) (ws : List Value) → o ≤ length ws → o + length (drop o ws) ≡ length ws
drop_long zero ws less = omega arith
drop_long (suc o) [] less = absurd (omega (arith, less))
drop_long (suc o) (w ∷ ws) less = let same = drop_long o ws (omega (arith, less)) in omega (arith, same)

pub long_changed : (f : Cell → Cell) (cells : List Cell) (n : ℕ) → length (numbered.changed f cells n) ≡ length cells
long_changed f [] n = refl
long_changed f (c ∷ cells) zero = refl
long_changed f (c ∷ cells) (suc n) = ap suc (long_changed f cells n)

one_longer : {A : Type 0} (xs : List A) (x : A) → length (xs ++ x ∷ []) ≡ suc (length xs)
one_longer [] x = refl
one_longer (y ∷ xs) x = ap suc (one_longer xs x)

-- ---- the laws

module _ (handles : List ℕ) (kinds taken : List Kind) (m : Flat) (s : Slots) (beside : Beside handles kinds taken m s) where
  -- A cell that is there is freed.
  pub cell_freed : (n size : ℕ) (ws : List Value) → IsThere m.cells n ws → Beside handles kinds taken (flat.without_cell m n size) (changes.without_cell s (get_or handles n 0) size)
  cell_freed n size ws there = record {
    stack = beside.stack;
    known = beside.known;
    waits = beside.waits;
    base = beside.base;
    live = ap (λ l. l - size) beside.live;
    made = (beside.made.0 ∙ sym (long_changed (λ (c : Cell). record c { freed = true }) m.cells n), beside.made.1 ∙ sym (sizes_freed m.cells n));
    freed = ap suc beside.freed;
    rest = beside.rest;
    cells = follows-freed handles m.cells s.heap n ws there beside.cells;
    numbered = numbers_kept s.numbers handles m.cells (numbered.released m.cells n) (freed_were m.cells n) beside.numbered;
    small = beside.small;
    names = beside.names;
    waiting_names = beside.waiting_names;
  }

  -- A cell is made, with a handle that no cell has.
  pub new_beside : (h : ℕ) (ks : List Kind) (zs : List ℤ) → words_at s.heap.cells h ≡ None → h < most_handles → NameWords (length handles) ks zs → are_words ks zs ≡ true
      → Beside (handles ++ h ∷ []) kinds taken (with_cell m (values ks zs)) (changes.made s h ks (all_renamed handles ks zs))
  new_beside h ks zs new less names are =
      let long = words_long ks zs are in record {
        stack = beside.stack ∙ words_on handles (h ∷ []) kinds m.stack beside.names;
        known = beside.known;
        waits = beside.waits ∙ words_on handles (h ∷ []) taken m.waits beside.waiting_names;
        base = beside.base;
        live = ap (λ l. l + length (all_renamed handles ks zs)) beside.live ∙ ap (λ l. m.live + l) (long_renamed handles ks zs long ∙ sym (values_long ks zs long));
        made = (
          ap suc beside.made.0 ∙ sym (one_longer m.cells (record { words = values ks zs; freed = false })),
          ap (λ all. all ++ length (slot_values ks (all_renamed handles ks zs)) ∷ []) beside.made.1
              ∙ (ap (λ k. sizes_of m.cells ++ k ∷ []) (ap length (values_handled handles ks zs are) ∙ length-map (values ks zs) (handled handles))
              ∙ sym (sizes_next m.cells (record { words = values ks zs; freed = false }))),
        );
        freed = beside.freed;
        rest = beside.rest;
        cells = subst (λ vs. Follows (handles ++ h ∷ []) (numbered.allocated m.cells (values ks zs)) (allocated s.heap h vs)) (sym (values_handled handles ks zs are))
            (follows-allocated handles m.cells s.heap h (values ks zs) new (values_name (length handles) ks zs names) beside.cells);
        numbered = subst (λ n. Numbers (row_with s.numbers h (suc n)) (handles ++ h ∷ []) (numbered.allocated m.cells (values ks zs))) (sym beside.made.0)
            (row_kept s.numbers handles m.cells s.heap h (values ks zs) beside.cells new beside.numbered);
        small = small_next handles h beside.small less;
        names = names_on handles (h ∷ []) kinds m.stack beside.names;
        waiting_names = names_on handles (h ∷ []) taken m.waits beside.waiting_names;
      }

  -- The access value that designates it has its number, which is the next one.
  pub cell_made : (h : ℕ) (ks : List Kind) (zs us : List ℤ) (m_after : Flat) → words_at s.heap.cells h ≡ None → h < most_handles → NameWords (length handles) ks zs → made m ks zs ≡ Done us m_after
      → (us ≡ pos (suc (length handles)) ∷ []) × Beside (handles ++ h ∷ []) kinds taken m_after (changes.made s h ks (all_renamed handles ks zs))
  cell_made h ks zs us m_after new less names e = by (are_words ks zs) (nat_le (m.live + length zs) heap_words) (nat_lt (length m.cells) most_cells) refl e
    where
      by : (a b c : Bool) → are_words ks zs ≡ a
          → (if not a then Failed else (if b then (if c then Done (pos (suc (length m.cells)) ∷ []) (with_cell m (values ks zs)) else Halted Memory m) else Halted (Raises StorageError) m)) ≡ Done us m_after
          → (us ≡ pos (suc (length handles)) ∷ []) × Beside (handles ++ h ∷ []) kinds taken m_after (changes.made s h ks (all_renamed handles ks zs))
      by true true true are e =
          let word : pos (suc (length m.cells)) ∷ [] ≡ us = cc in
          let same : with_cell m (values ks zs) ≡ m_after = cc in (
            sym word ∙ ap (λ n. pos (suc n) ∷ []) (sym beside.cells.len),
            subst (λ x. Beside (handles ++ h ∷ []) kinds taken x (changes.made s h ks (all_renamed handles ks zs))) same (new_beside h ks zs new less names are),
          )
      by true true false are e = cc
      by true false c are e = cc
      by false b c are e = cc

  -- Words are stored in a cell that is there, from an offset within it on.
  pub words_stored : (n o : ℕ) (ws : List Value) (ks : List Kind) (zs : List ℤ) (m_after : Flat) → IsThere m.cells n ws → o ≤ length ws → NameWords (length handles) ks zs
      → flat.stored m (InCell n o) ks zs ≡ Given m_after
      → (s_after : Slots) × (stored s (InCell (get_or handles n 0) o) ks (all_renamed handles ks zs) ≡ Given s_after) × Beside handles kinds taken m_after s_after
  words_stored n o ws ks zs m_after there less names e =
      by (are_words ks zs) (are_in o ks c) refl refl
      (sym (ap (λ x. touched x (λ (d : Cell). if are_words ks zs && are_in o ks d then Given (with_words m n o (values ks zs)) else Broken)) there) ∙ e)
    where
      c : Cell
      c = record { words = ws; freed = false }

      h : ℕ
      h = get_or handles n 0

      us : List ℤ
      us = all_renamed handles ks zs

      after : Slots
      after = with_heap s (written_all s.heap h o (map (handled handles) (values ks zs)))

      by : (a b : Bool) → are_words ks zs ≡ a → are_in o ks c ≡ b → (if a && b then Given (with_words m n o (values ks zs)) else Broken) ≡ Given m_after
          → (s_after : Slots) × (stored s (InCell h o) ks (all_renamed handles ks zs) ≡ Given s_after) × Beside handles kinds taken m_after s_after
      by true true are fits e =
          let same : with_words m n o (values ks zs) ≡ m_after = cc in
          let count = values_long ks zs (words_long ks zs are) in
          let long = words_long ks zs are in
          let room = kinds_long ks (drop o ws) (second_of _ (have_kinds ks (drop o ws)) fits) in
          let rest = drop_long o ws less in
          let within : o + length (values ks zs) ≤ length ws = omega (arith, count, long, room, rest) in
          let cells : numbered.changed (λ (d : Cell). record d { words = spliced o (values ks zs) d.words }) m.cells n ≡ numbered.changed (change o (values ks zs)) m.cells n
          = changed_at (λ (d : Cell). record d { words = spliced o (values ks zs) d.words }) (change o (values ks zs)) m.cells n c there
          (ap (λ us. record c { words = us }) (spliced_is o (values ks zs) ws within)) in (
            after,
            ap (cell_stored s h o ks us) (beside.cells.live n ws there)
                ∙ (ap (λ b. if b then Given (with_heap s (written_all s.heap h o (slot_values ks us))) else Broken)
                (both_true (are_slot_words ks us) (have_kinds ks (drop o (map (handled handles) ws))) (words_fit handles ks zs beside.small are)
                (kinds_stand handles ks o ws (second_of (nat_lt (o + length ks) most_offsets) (have_kinds ks (drop o ws)) fits)))
                ∙ ap (λ vs. Given (with_heap s (written_all s.heap h o vs))) (values_handled handles ks zs are)),
            subst (λ x. Beside handles kinds taken x after) same (record {
              stack = beside.stack;
              known = beside.known;
              waits = beside.waits;
              base = beside.base;
              live = beside.live;
              made = (
                beside.made.0 ∙ sym (long_changed (λ (d : Cell). record d { words = spliced o (values ks zs) d.words }) m.cells n),
                beside.made.1 ∙ sym (sizes_changed (λ (d : Cell). record d { words = spliced o (values ks zs) d.words }) m.cells n c there (spliced_long o (values ks zs) ws within)),
              );
              freed = beside.freed;
              rest = beside.rest;
              cells = subst (λ x. Follows handles x (written_all s.heap h o (map (handled handles) (values ks zs)))) (sym cells)
                  (all_follow handles n o (values ks zs) ws m.cells s.heap there (values_name (length handles) ks zs names) beside.cells);
              numbered = numbers_kept s.numbers handles m.cells (numbered.changed (λ (d : Cell). record d { words = spliced o (values ks zs) d.words }) m.cells n)
                  (changed_were (spliced o (values ks zs)) m.cells n) beside.numbered;
              small = beside.small;
              names = beside.names;
              waiting_names = beside.waiting_names;
            }),
          )
      by true false are fits e = cc
      by false b are fits e = cc
