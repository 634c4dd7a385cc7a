-- What is held at a spot, stored there and moved from there is alike over both heaps.
use Rattle.std.proofs.Common.{◌≡◌, refl, sym, ap, ◌∙◌, subst, ℕ, zero, suc, ◌+◌, ◌≤◌, arith, Option, Some, None, get_or, ◌++◌, Bool, true, false, ◌&&◌, nat_le, nat_lt, List, [], ◌∷◌, take, drop, length, slice_get, ℤ, if◌then◌else◌}
use Rattle.numbered_cells.specs.run_values.declared.value.Value.{Value}
use Rattle.numbered_cells.specs.run_values.declared.value.Kind.{Kind}
use Rattle.numbered_cells.specs.machine.Evaluate.{Touched}
use Rattle.numbered_cells.specs.kept_cells.Cells as numbered
use Rattle.numbered_cells.specs.kept_cells.Cells.{Cell}
use Rattle.numbered_cells.specs.Follows.{IsThere}
use Rattle.numbered_cells.specs.run_codes.Flat.{Flat, Made, Done, Halted, Got, Given, Stops, Broken, Stop, Raises, Traps, Memory, Spot, InStack, InCell, and_then, is_word, all_fresh, words_in, have_kinds, most_offsets, touched, front_of_cell, are_words, are_pointers, are_in, all_gone, with_words, values, values_gone, spliced}
use Rattle.numbered_cells.specs.run_codes.Flat as flat
use Rattle.handled_runs.specs.Slots.{Slots}
use Rattle.handled_runs.specs.Slots as slots
use Rattle.handled_runs.specs.Changes.{cell_stored, stored, emptied}
use Rattle.handled_runs.specs.Changes as changes
use Rattle.handled_runs.specs.Beside.{IsSilent, GotsAlike, all_renamed, spot_renamed, NameWords, Beside}
use Rattle.handled_runs.specs.Looks.{AreKept}
use Rattle.handled_runs.specs.Alike.{StandAt}
use Rattle.handled_runs.proofs.Gots.{given_both, there_of, touch_silent}
use Rattle.handled_runs.proofs.Standing.{stack_held, cell_held, front_long}
use Rattle.handled_runs.proofs.Lists.{front_names}
use Rattle.handled_runs.proofs.Stacks.{stack_stored, stack_emptied}
use Rattle.handled_runs.proofs.Cells.{words_stored}
use Rattle.handled_runs.proofs.Moves.{cell_emptied}
use Rattle.handled_runs.proofs.Names.{drop_named, cell_named}

-- ---- what stops at a spot stops silently

front_goes : (ks : List Kind) (zs : List ℤ) (t : Stop) → flat.front ks zs ≡ Stops t → ⊥
front_goes [] zs t e = cc
front_goes (k ∷ ks) [] t e = cc
front_goes (k ∷ ks) (z ∷ zs) t e = by (is_word k z) (flat.front ks zs) refl e (λ u found. front_goes ks zs u found)
  where
    by : (b : Bool) (g : Got (List ℤ)) → flat.front ks zs ≡ g → (if b then and_then g (λ more. Given (z ∷ more)) else Broken) ≡ Stops t
        → ((u : Stop) → flat.front ks zs ≡ Stops u → ⊥) → ⊥
    by true (Given more) found e on = cc
    by true (Stops u) found e on = on u found
    by true Broken found e on = cc
    by false g found e on = cc

pub words_silent : (m : Flat) (p : Spot) (ks : List Kind) (t : Stop) → flat.words_at m p ks ≡ Stops t → IsSilent t
words_silent m (InStack n) ks t e = absurd (front_goes ks (drop n m.stack) t e)
words_silent m (InCell n o) ks t e = touch_silent (slice_get m.cells n) (front_of_cell o ks) t (λ c f. absurd (by c (nat_lt (o + length ks) most_offsets && have_kinds ks (drop o c.words)) f)) e
  where
    by : (c : Cell) (b : Bool) → (if b then flat.front ks (drop o (words_in c.words)) else Broken) ≡ Stops t → ⊥
    by c true f = front_goes ks (drop o (words_in c.words)) t f
    by c false f = cc

held_silent : (m : Flat) (p : Spot) (ks : List Kind) (t : Stop) → flat.held m p ks ≡ Stops t → IsSilent t
held_silent m p ks t e = by (flat.words_at m p ks) refl e
  where
    by : (g : Got (List ℤ)) → flat.words_at m p ks ≡ g → and_then g (λ zs. Given (all_fresh ks zs)) ≡ Stops t → IsSilent t
    by (Given zs) found e = cc
    by (Stops u) found e = let same : u ≡ t = cc in subst IsSilent same (words_silent m p ks u found)
    by Broken found e = cc

pub moved_silent : (m : Flat) (p : Spot) (ks : List Kind) (gone : List ℕ) (t : Stop) → flat.moved_out m p ks gone ≡ Stops t → IsSilent t
moved_silent m (InStack n) ks gone t e = absurd (by (are_pointers ks gone) (flat.front ks (drop n m.stack)) refl e)
  where
    by : (b : Bool) (g : Got (List ℤ)) → flat.front ks (drop n m.stack) ≡ g
        → (if b then and_then g (λ zs. Given (flat.with_stack m (spliced n (all_gone gone zs) m.stack))) else Broken) ≡ Stops t → ⊥
    by true (Given zs) found e = cc
    by true (Stops u) found e = front_goes ks (drop n m.stack) u found
    by true Broken found e = cc
    by false g found e = cc
moved_silent m (InCell n o) ks gone t e =
    touch_silent (slice_get m.cells n) (λ (d : Cell). if are_pointers ks gone && are_in o ks d then Given (with_words m n o (values_gone gone (take (length ks) (drop o d.words)))) else Broken) t
    (λ c f. absurd (by c (are_pointers ks gone && are_in o ks c) f)) e
  where
    by : (c : Cell) (b : Bool) → (if b then Given (with_words m n o (values_gone gone (take (length ks) (drop o c.words)))) else Broken) ≡ Stops t → ⊥
    by c true f = cc
    by c false f = cc

pub stored_silent : (m : Flat) (q : Spot) (ks : List Kind) (zs : List ℤ) (t : Stop) → flat.stored m q ks zs ≡ Stops t → IsSilent t
stored_silent m (InStack n) ks zs t e = absurd (by (nat_le (n + length zs) (length m.stack)) e)
  where
    by : (b : Bool) → (if b then Given (flat.with_stack m (spliced n zs m.stack)) else Broken) ≡ Stops t → ⊥
    by true e = cc
    by false e = cc
stored_silent m (InCell n o) ks zs t e =
    touch_silent (slice_get m.cells n) (λ (d : Cell). if are_words ks zs && are_in o ks d then Given (with_words m n o (values ks zs)) else Broken) t (λ c f. absurd (by (are_words ks zs && are_in o ks c) f)) e
  where
    by : (b : Bool) → (if b then Given (with_words m n o (values ks zs)) else Broken) ≡ Stops t → ⊥
    by true f = cc
    by false f = cc

-- ---- what is given of a cell is of one that is there

pub words_there : (m : Flat) (n o : ℕ) (ks : List Kind) (zs : List ℤ) → flat.words_at m (InCell n o) ks ≡ Given zs → (ws : List Value) × IsThere m.cells n ws
words_there m n o ks zs e = there_of (slice_get m.cells n) (front_of_cell o ks) zs e

-- Words that are the same but for names.
pub record AreRenamed (handles : List ℕ) (ks : List Kind) (zs us : List ℤ) : Type 0 where
  pub words : us ≡ all_renamed handles ks zs
  pub known : length ks ≡ length zs
  pub names : NameWords (length handles) ks zs
  pub kept : AreKept ks zs

second_true : (a b : Bool) → a && b ≡ true → b ≡ true
second_true true b e = e
second_true false b e = cc

-- Some words at an offset lie within.
kinds_room : (k : Kind) (ks : List Kind) (o : ℕ) (ws : List Value) → have_kinds (k ∷ ks) (drop o ws) ≡ true → o ≤ length ws
kinds_room k ks zero ws is = omega arith
kinds_room k ks (suc o) [] is = cc
kinds_room k ks (suc o) (w ∷ ws) is = let less = kinds_room k ks o ws is in omega (arith, less)

module _ (handles : List ℕ) (here taken : List Kind) (m : Flat) (s : Slots) (beside : Beside handles here taken m s) where
  -- ---- what is held

  pub there_words : (p : Spot) (ks : List Kind) (zs : List ℤ) → StandAt m here p ks → flat.words_at m p ks ≡ Given zs → (length ks ≡ length zs) × NameWords (length handles) ks zs
  there_words (InStack n) ks zs stand e = (
    front_long ks (drop n m.stack) zs e,
    front_names (length handles) ks (drop n here) (drop n m.stack) zs stand.0 e (drop_named (length handles) n here m.stack beside.names),
  )
  there_words (InCell n o) ks zs stand e =
      let there = words_there m n o ks zs e in
      (by there.0 (nat_lt (o + length ks) most_offsets && have_kinds ks (drop o there.0)) (sym (ap (λ x. touched x (front_of_cell o ks)) there.1) ∙ e), cell_named handles here taken m s beside n o there.0 ks zs there.1 e)
    where
      by : (ws : List Value) (b : Bool) → (if b then flat.front ks (drop o (words_in ws)) else Broken) ≡ Given zs → length ks ≡ length zs
      by ws true f = front_long ks (drop o (words_in ws)) zs f
      by ws false f = cc

  there_held : (p : Spot) (ks : List Kind) (zs : List ℤ) → StandAt m here p ks → flat.words_at m p ks ≡ Given zs → AreKept ks zs
      → (flat.held m p ks ≡ Given zs) × (slots.held s (spot_renamed handles p) ks ≡ Given (all_renamed handles ks zs))
  there_held (InStack n) ks zs stand e kept = stack_held handles here taken m s beside n ks zs stand.0 e kept
  there_held (InCell n o) ks zs stand e kept = let there = words_there m n o ks zs e in cell_held handles here taken m s beside n o there.0 ks zs there.1 e kept

  pub held_gots : (p : Spot) (ks : List Kind) → StandAt m here p ks → ((zs : List ℤ) → flat.words_at m p ks ≡ Given zs → AreKept ks zs)
      → GotsAlike (AreRenamed handles ks) (flat.held m p ks) (slots.held s (spot_renamed handles p) ks)
  held_gots p ks stand kept =
      given_both (AreRenamed handles ks) (flat.held m p ks) (slots.held s (spot_renamed handles p) ks) (held_silent m p ks) (λ us e. by (flat.words_at m p ks) refl us e)
    where
      by : (g : Got (List ℤ)) → flat.words_at m p ks ≡ g → (us : List ℤ) → and_then g (λ zs. Given (all_fresh ks zs)) ≡ Given us
          → (vs : List ℤ) × (slots.held s (spot_renamed handles p) ks ≡ Given vs) × AreRenamed handles ks us vs
      by (Given zs) found us e =
          let there = there_held p ks zs stand found (kept zs found) in
          let words = there_words p ks zs stand found in
          let fresh : all_fresh ks zs ≡ us = cc in
          let read : Given (all_fresh ks zs) ≡ Given zs = sym (ap (λ g. and_then g (λ xs. Given (all_fresh ks xs))) found) ∙ there.0 in
          let same : zs ≡ us = sym (let first : all_fresh ks zs ≡ zs = cc in first) ∙ fresh in (
            all_renamed handles ks zs,
            there.1,
            subst (λ xs. AreRenamed handles ks xs (all_renamed handles ks zs)) same (record { words = refl; known = words.0; names = words.1; kept = kept zs found }),
          )
      by (Stops t) found us e = cc
      by Broken found us e = cc

  -- ---- what is moved and stored

  -- no words in a cell
  none_spliced : (o : ℕ) (ws : List Value) → spliced o [] ws ≡ ws
  none_spliced zero ws = refl
  none_spliced (suc o) [] = let next : suc o + 0 ≡ suc (o + 0) = omega arith in ap (λ i. drop {A = Value} i []) next
  none_spliced (suc o) (w ∷ ws) = let next : suc o + 0 ≡ suc (o + 0) = omega arith in ap (λ i. take (suc o) (w ∷ ws) ++ [] ++ drop i (w ∷ ws)) next ∙ ap (λ rest. w ∷ rest) (none_spliced o ws)

  none_changed : (o : ℕ) (cells : List Cell) (i : ℕ) → numbered.changed (λ (c : Cell). record c { words = spliced o [] c.words }) cells i ≡ cells
  none_changed o [] i = refl
  none_changed o (c ∷ cells) zero = ap (λ ws. record c { words = ws } ∷ cells) (none_spliced o c.words)
  none_changed o (c ∷ cells) (suc i) = ap (λ rest. c ∷ rest) (none_changed o cells i)

  none_beside : (i o : ℕ) → Beside handles here taken (with_words m i o []) s
  none_beside i o = subst (λ cells. Beside handles here taken (record m { cells = cells }) s) (sym (none_changed o m.cells i)) beside

  pub there_emptied : (p : Spot) (ks : List Kind) (gone : List ℕ) (n : Flat) → StandAt m here p ks → flat.moved_out m p ks gone ≡ Given n
      → (t : Slots) × (emptied s (spot_renamed handles p) ks gone ≡ Given t) × Beside handles here taken n t
  there_emptied (InStack i) ks gone n stand e = stack_emptied handles here taken m s beside i ks gone n stand.0 stand.1 e
  there_emptied (InCell i o) [] (g ∷ gone) n stand e = absurd (by (slice_get m.cells i) e)
    where
      no : Broken ≡ Given n → ⊥
      no f = cc

      trap : Stops (Traps Touched) ≡ Given n → ⊥
      trap f = cc

      freed : (b : Bool) → (if b then Stops (Traps Touched) else Broken) ≡ Given n → ⊥
      freed true f = trap f
      freed false f = no f

      by : (x : Option Cell) → touched x (λ (d : Cell). Broken) ≡ Given n → ⊥
      by None f = no f
      by (Some c) f = freed c.freed f
  there_emptied (InCell i o) [] [] n stand e =
      let there = there_of (slice_get m.cells i) (λ (d : Cell). if are_in o [] d then Given (with_words m i o []) else Broken) n e in
      let same : with_words m i o [] ≡ n = by there.0 (are_in o [] (record { words = there.0; freed = false })) (sym (ap (λ x. touched x (λ (d : Cell). if are_in o [] d then Given (with_words m i o []) else Broken)) there.1) ∙ e) in
      (s, ap (changes.cell_emptied s (get_or handles i 0) o [] []) (beside.cells.live i there.0 there.1), subst (λ x. Beside handles here taken x s) same (none_beside i o))
    where
      by : (ws : List Value) (b : Bool) → (if b then Given (with_words m i o []) else Broken) ≡ Given n → with_words m i o [] ≡ n
      by ws true f = cc
      by ws false f = cc
  there_emptied (InCell i o) (k ∷ ks) gone n stand e =
      let there = there_of (slice_get m.cells i) (λ (d : Cell). if are_pointers (k ∷ ks) gone && are_in o (k ∷ ks) d then Given (with_words m i o (values_gone gone (take (length (k ∷ ks)) (drop o d.words)))) else Broken) n e in
      cell_emptied handles here taken m s beside i o there.0 (k ∷ ks) gone n there.1 (room o there.0 (fits there.0 (are_pointers (k ∷ ks) gone) (are_in o (k ∷ ks) (record { words = there.0; freed = false })) refl (sym (ap (λ x. touched x (λ (d : Cell). if are_pointers (k ∷ ks) gone && are_in o (k ∷ ks) d then Given (with_words m i o (values_gone gone (take (length (k ∷ ks)) (drop o d.words)))) else Broken)) there.1) ∙ e))) e
    where
      room : (o : ℕ) (ws : List Value) → have_kinds (k ∷ ks) (drop o ws) ≡ true → o ≤ length ws
      room o ws is = kinds_room k ks o ws is

      fits : (ws : List Value) (a b : Bool) → are_in o (k ∷ ks) (record { words = ws; freed = false }) ≡ b → (if a && b then Given (with_words m i o (values_gone gone (take (length (k ∷ ks)) (drop o ws)))) else Broken) ≡ Given n → have_kinds (k ∷ ks) (drop o ws) ≡ true
      fits ws true true is f = second_true (nat_lt (o + length (k ∷ ks)) most_offsets) (have_kinds (k ∷ ks) (drop o ws)) is
      fits ws true false is f = cc
      fits ws false b is f = cc

  pub moved_gots : (p : Spot) (ks : List Kind) (gone : List ℕ) → StandAt m here p ks → GotsAlike (Beside handles here taken) (flat.moved_out m p ks gone) (emptied s (spot_renamed handles p) ks gone)
  moved_gots p ks gone stand =
      given_both (Beside handles here taken) (flat.moved_out m p ks gone) (emptied s (spot_renamed handles p) ks gone) (moved_silent m p ks gone) (λ n e. there_emptied p ks gone n stand e)

  pub there_stored : (q : Spot) (ks : List Kind) (zs : List ℤ) (n : Flat) → StandAt m here q ks → length ks ≡ length zs → NameWords (length handles) ks zs → flat.stored m q ks zs ≡ Given n
      → (t : Slots) × (stored s (spot_renamed handles q) ks (all_renamed handles ks zs) ≡ Given t) × Beside handles here taken n t
  there_stored (InStack i) ks zs n stand long names e = stack_stored handles here taken m s beside i ks ks zs n stand.0 long names e
  there_stored (InCell i o) [] (z ∷ zs) n stand long names e = cc
  there_stored (InCell i o) [] [] n stand long names e =
      let there = there_of (slice_get m.cells i) (λ (d : Cell). if are_in o [] d then Given (with_words m i o []) else Broken) n e in
      let same : with_words m i o [] ≡ n = by there.0 (are_in o [] (record { words = there.0; freed = false })) (sym (ap (λ x. touched x (λ (d : Cell). if are_in o [] d then Given (with_words m i o []) else Broken)) there.1) ∙ e) in
      (s, ap (cell_stored s (get_or handles i 0) o [] []) (beside.cells.live i there.0 there.1), subst (λ x. Beside handles here taken x s) same (none_beside i o))
    where
      by : (ws : List Value) (b : Bool) → (if b then Given (with_words m i o []) else Broken) ≡ Given n → with_words m i o [] ≡ n
      by ws true f = cc
      by ws false f = cc
  there_stored (InCell i o) (k ∷ ks) zs n stand long names e =
      let there = there_of (slice_get m.cells i) (λ (d : Cell). if are_words (k ∷ ks) zs && are_in o (k ∷ ks) d then Given (with_words m i o (values (k ∷ ks) zs)) else Broken) n e in
      words_stored handles here taken m s beside i o there.0 (k ∷ ks) zs n there.1 (kinds_room k ks o there.0 (fits there.0 (are_words (k ∷ ks) zs) (are_in o (k ∷ ks) (record { words = there.0; freed = false })) refl (sym (ap (λ x. touched x (λ (d : Cell). if are_words (k ∷ ks) zs && are_in o (k ∷ ks) d then Given (with_words m i o (values (k ∷ ks) zs)) else Broken)) there.1) ∙ e))) names e
    where
      fits : (ws : List Value) (a b : Bool) → are_in o (k ∷ ks) (record { words = ws; freed = false }) ≡ b → (if a && b then Given (with_words m i o (values (k ∷ ks) zs)) else Broken) ≡ Given n → have_kinds (k ∷ ks) (drop o ws) ≡ true
      fits ws true true is f = second_true (nat_lt (o + length (k ∷ ks)) most_offsets) (have_kinds (k ∷ ks) (drop o ws)) is
      fits ws true false is f = cc
      fits ws false b is f = cc

  -- The law on stores.
  pub stored_gots : (q : Spot) (ks : List Kind) (zs : List ℤ) → StandAt m here q ks → length ks ≡ length zs → NameWords (length handles) ks zs
      → GotsAlike (Beside handles here taken) (flat.stored m q ks zs) (stored s (spot_renamed handles q) ks (all_renamed handles ks zs))
  stored_gots q ks zs stand long names =
      given_both (Beside handles here taken) (flat.stored m q ks zs) (stored s (spot_renamed handles q) ks (all_renamed handles ks zs)) (stored_silent m q ks zs)
      (λ n e. there_stored q ks zs n stand long names e)
