-- What a point moves is marked over numbers, and noted over a heap that uses its slots again.
use Rattle.std.proofs.Common.{◌≡◌, refl, sym, ap, ◌∙◌, subst, ℕ, zero, suc, ◌+◌, ◌-◌, ◌<◌, ◌≤◌, arith, Bool, true, false, ◌&&◌, nat_le, nat_lt, List, [], ◌∷◌, ◌++◌, map, take, drop, length, length-append, slice_get, Some, None, ℤ, pos, negsuc, if◌then◌else◌}
use Rattle.std.specs.Prelude.{unsigned_abs, neg_ℤ}
use Rattle.std.proofs.lemmas.Bool.Decides.{nat_tests}
use Rattle.std.proofs.lemmas.List.{map-append, get_or_append_left}
use Rattle.numbered_cells.specs.run_values.declared.value.Value.{Value}
use Rattle.numbered_cells.specs.run_values.declared.value.Value.TheVariants as value
use Rattle.numbered_cells.specs.run_values.declared.value.Kind.{Kind}
use Rattle.numbered_cells.specs.run_values.declared.value.Kind.TheVariants as sort
use Rattle.numbered_cells.specs.run_values.Values.{kind}
use Rattle.numbered_cells.specs.machine.Memory.{at_number}
use Rattle.numbered_cells.specs.kept_cells.Cells as numbered
use Rattle.numbered_cells.specs.kept_cells.Cells.{Cell}
use Rattle.numbered_cells.specs.slot_heap.Heaps.{words_at as handle_words}
use Rattle.numbered_cells.specs.Follows.{IsThere}
use Rattle.numbered_cells.specs.run_codes.Flat.{Flat, Got, Given, Stops, Broken, Traps, and_then, gone_from, most_cells, is_word, are_words, as_fresh, all_fresh, as_gone, all_gone, word_of, value_of, values, value_gone, values_gone, is_pointer, are_pointers, are_in, have_kinds, most_offsets, touched, with_words, with_cell, spliced, Spot, InStack, InCell, moved_out}
use Rattle.numbered_cells.specs.run_codes.Flat as flat
use Rattle.handled_runs.specs.Fits.{most_handles}
use Rattle.handled_runs.specs.Slots.{Slots, Move}
use Rattle.handled_runs.specs.Changes.{moving, all_emptied, settled, emptied}
use Rattle.handled_runs.specs.Changes as changes
use Rattle.handled_runs.specs.Beside.{all_renamed, spot_renamed, NameWords, Beside}
use Rattle.handled_runs.specs.Looks.{IsFront, IsKeptAs, AreKept, IsClear}
use Rattle.handled_runs.specs.Alike.{StandAt}
use Rattle.handled_runs.specs.Marks.{ValueUnmarked, ValuesUnmarked, CellsUnmarked, IsUnmarked, Marks, move_renamed, Stands, MoveStands, MovesStand, During}
use Rattle.handled_runs.proofs.Gots.{there_of}
use Rattle.handled_runs.proofs.Lists.{replaced, spliced_is, replaced_long, front_within}
use Rattle.handled_runs.proofs.Lists as lists
use Rattle.handled_runs.proofs.Standing.{front_long, drop_map, kinds_front}
use Rattle.handled_runs.proofs.Cells.{never_below, changed_at, kinds_long, drop_long, new_beside}
use Rattle.handled_runs.proofs.Moves.{gone_kind, moved, AllBelow, replaced_gone, gone_long, replaced_same, take_long, AreAccess, kinds_at, all_moved, first_of, second_of, pointer_there, all_access, all_below}
use Rattle.handled_runs.proofs.There.{there_emptied}
use Rattle.handled_runs.proofs.Unmarked.{unmarked_clear, clear_itself}

-- ---- words that are marked

abs_neg : (n : ℕ) → unsigned_abs (neg_ℤ (pos n)) ≡ n
abs_neg zero = refl
abs_neg (suc n) = refl

fresh_gone : (z : ℤ) → as_fresh sort.Access (as_gone z) ≡ as_fresh sort.Access z
fresh_gone z = ap pos (abs_neg (unsigned_abs z))

one_gone : (o : ℕ) (ks : List Kind) (zs : List ℤ) → slice_get ks o ≡ Some sort.Access → all_fresh ks (at_number o as_gone zs) ≡ all_fresh ks zs
one_gone o [] zs is = cc
one_gone zero (k ∷ ks) [] is = refl
one_gone (suc o) (k ∷ ks) [] is = refl
one_gone zero (k ∷ ks) (z ∷ zs) is =
    let same : k ≡ sort.Access = cc in
    ap (λ y. y ∷ all_fresh ks zs) (subst (λ q. as_fresh q (as_gone z) ≡ as_fresh q z) (sym same) (fresh_gone z))
one_gone (suc o) (k ∷ ks) (z ∷ zs) is = ap (λ rest. as_fresh k z ∷ rest) (one_gone o ks zs is)

pub all_same : (gone : List ℕ) (ks : List Kind) (zs : List ℤ) → are_pointers ks gone ≡ true → all_fresh ks (all_gone gone zs) ≡ all_fresh ks zs
all_same [] ks zs are = refl
all_same (o ∷ gone) ks zs are =
    all_same gone ks (at_number o as_gone zs) (second_of (is_pointer (slice_get ks o)) (are_pointers ks gone) are)
    ∙ one_gone o ks zs (pointer_there ks o (first_of (is_pointer (slice_get ks o)) (are_pointers ks gone) are)).0

pub fresh_replaced : (i : ℕ) (ks here : List Kind) (us zs st : List ℤ) → IsFront ks (drop i here) → length ks ≡ length us → length ks ≡ length zs → all_fresh ks us ≡ all_fresh ks zs
    → all_fresh here (replaced i us st) ≡ all_fresh here (replaced i zs st)
fresh_replaced zero [] here [] [] st is first second same = refl
fresh_replaced zero [] here [] (z ∷ zs) st is first second same = cc
fresh_replaced zero [] here (u ∷ us) zs st is first second same = cc
fresh_replaced zero (k ∷ ks) here [] zs st is first second same = cc
fresh_replaced zero (k ∷ ks) here (u ∷ us) [] st is first second same = cc
fresh_replaced zero (k ∷ ks) [] (u ∷ us) (z ∷ zs) st is first second same = absurd is
fresh_replaced zero (k ∷ ks) (j ∷ here) (u ∷ us) (z ∷ zs) [] is first second same = refl
fresh_replaced zero (k ∷ ks) (j ∷ here) (u ∷ us) (z ∷ zs) (a ∷ st) is first second same =
    let head : as_fresh k u ≡ as_fresh k z = cc in
    let rest : all_fresh ks us ≡ all_fresh ks zs = cc in
    ap (λ y. y ∷ all_fresh here (replaced zero us st)) (subst (λ q. as_fresh q u ≡ as_fresh q z) is.0 head)
    ∙ ap (λ all. as_fresh j z ∷ all) (fresh_replaced zero ks here us zs st is.1 (let e : length ks ≡ length us = cc in e) (let e : length ks ≡ length zs = cc in e) rest)
fresh_replaced (suc i) ks [] us zs st is first second same = refl
fresh_replaced (suc i) ks (j ∷ here) us zs [] is first second same = refl
fresh_replaced (suc i) ks (j ∷ here) us zs (a ∷ st) is first second same = ap (λ all. as_fresh j a ∷ all) (fresh_replaced i ks here us zs st is first second same)

-- what stands there anyway
front_replaced : (ks : List Kind) (st zs : List ℤ) → flat.front ks st ≡ Given zs → replaced zero zs st ≡ st
front_replaced [] st zs e = subst (λ ys. replaced zero ys st ≡ st) (let same : [] ≡ zs = cc in same) refl
front_replaced (k ∷ ks) [] zs e = cc
front_replaced (k ∷ ks) (s ∷ st) zs e = by (is_word k s) (flat.front ks st) refl e (λ more found. front_replaced ks st more found)
  where
    by : (b : Bool) (g : Got (List ℤ)) → flat.front ks st ≡ g → (if b then and_then g (λ more. Given (s ∷ more)) else Broken) ≡ Given zs
        → ((more : List ℤ) → flat.front ks st ≡ Given more → replaced zero more st ≡ st) → replaced zero zs (s ∷ st) ≡ s ∷ st
    by true (Given more) found f on = subst (λ ys. replaced zero ys (s ∷ st) ≡ s ∷ st) (let same : s ∷ more ≡ zs = cc in same) (ap (λ rest. s ∷ rest) (on more found))
    by true (Stops t) found f on = cc
    by true Broken found f on = cc
    by false g found f on = cc

pub there_replaced : (i : ℕ) (ks : List Kind) (st zs : List ℤ) → flat.front ks (drop i st) ≡ Given zs → replaced i zs st ≡ st
there_replaced zero ks st zs e = front_replaced ks st zs e
there_replaced (suc i) ks [] zs e = refl
there_replaced (suc i) ks (s ∷ st) zs e = ap (λ rest. s ∷ rest) (there_replaced i ks st zs e)

-- ---- values that are marked

gone_fresh : (w : Value) → kind w ≡ sort.Access → as_fresh (kind w) (word_of w) ≡ as_fresh (kind (value_gone w)) (word_of (value_gone w))
gone_fresh (value.Int i) is = refl
gone_fresh (value.Enum n) is = refl
gone_fresh value.Null is = refl
gone_fresh (value.Cell h) is = by (nat_lt h gone_from) refl
  where
    again : (h : ℕ) → h + gone_from - gone_from ≡ h
    again h = omega arith

    by : (b : Bool) → nat_lt h gone_from ≡ b
        → as_fresh sort.Access (if b then pos (suc h) else negsuc (h - gone_from))
        ≡ as_fresh (kind (if b then value.Cell (h + gone_from) else value.Cell h)) (word_of (if b then value.Cell (h + gone_from) else value.Cell h))
    by true low =
        ap (λ n. pos (suc n)) (sym (again h))
        ∙ ap (λ c. as_fresh sort.Access (if c then pos (suc (h + gone_from)) else negsuc (h + gone_from - gone_from))) (sym (never_below h))
    by false low = ap (λ c. as_fresh sort.Access (if c then pos (suc h) else negsuc (h - gone_from))) (sym low)

at_unmarked : (i : ℕ) (vs ws : List Value) → ValuesUnmarked vs ws → slice_get (map kind ws) i ≡ Some sort.Access → ValuesUnmarked vs (at_number i value_gone ws)
at_unmarked i [] [] are is = tt
at_unmarked i [] (w ∷ ws) are is = absurd are
at_unmarked i (v ∷ vs) [] are is = absurd are
at_unmarked zero (v ∷ vs) (w ∷ ws) are is =
    let same : kind w ≡ sort.Access = cc in
    ((are.0.0 ∙ sym (gone_kind w), are.0.1 ∙ gone_fresh w same), are.1)
at_unmarked (suc i) (v ∷ vs) (w ∷ ws) are is = (are.0, at_unmarked i vs ws are.1 is)

moved_unmarked : (o : ℕ) (gone : List ℕ) (vs ws : List Value) → ValuesUnmarked vs ws → AreAccess o gone (map kind ws) → ValuesUnmarked vs (moved o gone ws)
moved_unmarked o [] vs ws are access = are
moved_unmarked o (g ∷ gone) vs ws are access =
    moved_unmarked o gone vs (at_number (o + g) value_gone ws) (at_unmarked (o + g) vs ws are access.0) (subst (AreAccess o gone) (sym (kinds_at (o + g) ws)) access.1)

cells_unmarked : (o : ℕ) (gone : List ℕ) (cs ds : List Cell) (n : ℕ) (ws : List Value) → CellsUnmarked cs ds → IsThere ds n ws → AreAccess o gone (map kind ws) → CellsUnmarked cs (numbered.changed (all_moved o gone) ds n)
cells_unmarked o gone [] [] n ws are there access = tt
cells_unmarked o gone [] (d ∷ ds) n ws are there access = absurd are
cells_unmarked o gone (c ∷ cs) [] n ws are there access = absurd are
cells_unmarked o gone (c ∷ cs) (d ∷ ds) zero ws are there access =
    (are.0, moved_unmarked o gone c.words d.words are.1 (subst (λ (y : Cell). AreAccess o gone (map kind y.words)) (let same : record { words = ws; freed = false } ≡ d = cc in same) access), are.2)
cells_unmarked o gone (c ∷ cs) (d ∷ ds) (suc n) ws are there access = (are.0, are.1, cells_unmarked o gone cs ds n ws are.2 there access)

-- ---- a memory after a move

none_spliced : (o : ℕ) (ws : List Value) → spliced o [] ws ≡ ws
none_spliced zero ws = refl
none_spliced (suc o) [] = let next : suc o + 0 ≡ suc (o + 0) = omega arith in ap (λ i. drop {A = Value} i []) next
none_spliced (suc o) (w ∷ ws) = let next : suc o + 0 ≡ suc (o + 0) = omega arith in ap (λ i. take (suc o) (w ∷ ws) ++ [] ++ drop i (w ∷ ws)) next ∙ ap (λ rest. w ∷ rest) (none_spliced o ws)

kinds_room : (k : Kind) (ks : List Kind) (o : ℕ) (ws : List Value) → have_kinds (k ∷ ks) (drop o ws) ≡ true → o ≤ length ws
kinds_room k ks zero ws is = omega arith
kinds_room k ks (suc o) [] is = cc
kinds_room k ks (suc o) (w ∷ ws) is = let less = kinds_room k ks o ws is in omega (arith, less)

-- Words of a cell that is there.
marked_words : (o : ℕ) (ks : List Kind) (gone : List ℕ) (ws : List Value) → are_pointers ks gone ≡ true → have_kinds ks (drop o ws) ≡ true
    → spliced o (values_gone gone (take (length ks) (drop o ws))) ws ≡ moved o gone ws
marked_words o [] [] ws pointers have = none_spliced o ws
marked_words o [] (g ∷ gone) ws pointers have = cc
marked_words o (k ∷ ks) gone ws pointers have =
    let js : List Kind = k ∷ ks in
    let vs : List Value = take (length js) (drop o ws) in
    let less = kinds_room k ks o ws have in
    let room = kinds_long js (drop o ws) have in
    let rest = drop_long o ws less in
    let long : length vs ≡ length js = take_long (length js) (drop o ws) room in
    let count = gone_long gone vs in
    let within : o + length vs ≤ length ws = omega (arith, long, room, rest) in
    spliced_is o (values_gone gone vs) ws (omega (arith, count, within))
    ∙ (replaced_gone o gone vs ws (subst (λ n. AllBelow n gone) (sym long) (all_below js gone pointers)) within ∙ ap (moved o gone) (replaced_same o (length js) ws))

abbrev pub marking : Flat → ℕ → ℕ → List Kind → List ℕ → Cell → Got Flat
marking m n o ks gone c = if are_pointers ks gone && are_in o ks c then Given (with_words m n o (values_gone gone (take (length ks) (drop o c.words)))) else Broken

-- The words of the cell are marked.
pub moved_is : (m : Flat) (n o : ℕ) (ws : List Value) (ks : List Kind) (gone : List ℕ) (after : Flat) → IsThere m.cells n ws → moved_out m (InCell n o) ks gone ≡ Given after
    → (after ≡ record m { cells = numbered.changed (all_moved o gone) m.cells n }) × AreAccess o gone (map kind ws)
moved_is m n o ws ks gone after there e =
    by (are_pointers ks gone) (nat_lt (o + length ks) most_offsets) (have_kinds ks (drop o ws)) refl refl (sym (ap (λ x. touched x (marking m n o ks gone)) there) ∙ e)
  where
    vs : List Value
    vs = values_gone gone (take (length ks) (drop o ws))

    by : (a b c : Bool) → are_pointers ks gone ≡ a → have_kinds ks (drop o ws) ≡ c → (if a && (b && c) then Given (with_words m n o vs) else Broken) ≡ Given after
        → (after ≡ record m { cells = numbered.changed (all_moved o gone) m.cells n }) × AreAccess o gone (map kind ws)
    by true true true pointers have f =
        let same : with_words m n o vs ≡ after = cc in
        let words = marked_words o ks gone ws pointers have in
        let cells : numbered.changed (λ (d : Cell). record d { words = spliced o vs d.words }) m.cells n ≡ numbered.changed (all_moved o gone) m.cells n
        = changed_at (λ (d : Cell). record d { words = spliced o vs d.words }) (all_moved o gone) m.cells n (record { words = ws; freed = false }) there (ap (λ us. record { words = us; freed = false }) words) in (
          sym same ∙ ap (λ cs. record m { cells = cs }) cells,
          all_access ks o gone (map kind ws) (subst (IsFront ks) (sym (drop_map kind o ws)) (kinds_front ks (drop o ws) have)) pointers,
        )
    by true true false pointers have f = cc
    by true false c pointers have f = cc
    by false b c pointers have f = cc

-- Words of the stack are marked.
pub stack_moved : (m : Flat) (n : ℕ) (ks : List Kind) (gone : List ℕ) (after : Flat) → moved_out m (InStack n) ks gone ≡ Given after
    → (zs : List ℤ) × (flat.front ks (drop n m.stack) ≡ Given zs) × (are_pointers ks gone ≡ true) × (flat.with_stack m (spliced n (all_gone gone zs) m.stack) ≡ after)
stack_moved m n ks gone after e = by (are_pointers ks gone) (flat.front ks (drop n m.stack)) refl refl e
  where
    by : (b : Bool) (g : Got (List ℤ)) → are_pointers ks gone ≡ b → flat.front ks (drop n m.stack) ≡ g
        → (if b then and_then g (λ zs. Given (flat.with_stack m (spliced n (all_gone gone zs) m.stack))) else Broken) ≡ Given after
        → (zs : List ℤ) × (flat.front ks (drop n m.stack) ≡ Given zs) × (are_pointers ks gone ≡ true) × (flat.with_stack m (spliced n (all_gone gone zs) m.stack) ≡ after)
    by true (Given zs) pointers found f = (zs, found, pointers, (let same : flat.with_stack m (spliced n (all_gone gone zs) m.stack) ≡ after = cc in same))
    by true (Stops t) pointers found f = cc
    by true Broken pointers found f = cc
    by false g pointers found f = cc

-- Without its marks the memory is as before.
pub moved_same : (here : List Kind) (x m : Flat) (q : Spot) (ks : List Kind) (gone : List ℕ) (after : Flat) → IsUnmarked here x m → StandAt m here q ks → moved_out m q ks gone ≡ Given after → IsUnmarked here x after
moved_same here x m (InStack n) ks gone after un stand e =
    let to = stack_moved m n ks gone after e in
    let zs : List ℤ = to.0 in
    let us : List ℤ = all_gone gone zs in
    let long = lists.gone_long gone zs in
    let front = front_long ks (drop n m.stack) zs to.1 in
    let fits = front_within ks n m.stack zs to.1 stand.1 in
    let there : spliced n us m.stack ≡ replaced n us m.stack = spliced_is n us m.stack (omega (arith, long, fits)) in
    subst (IsUnmarked here x) to.3 (record {
      stack = un.stack
          ∙ (ap (all_fresh here) (sym (there_replaced n ks m.stack zs to.1))
          ∙ (sym (fresh_replaced n ks here us zs m.stack stand.0 (front ∙ sym long) front (all_same gone ks zs to.2)) ∙ ap (all_fresh here) (sym there)));
      known = un.known ∙ (sym (replaced_long n us m.stack) ∙ ap length (sym there));
      cells = un.cells;
      base = un.base;
      freed = un.freed;
      live = un.live;
      waits = un.waits;
      rest = un.rest;
    })
moved_same here x m (InCell n o) ks gone after un stand e =
    let there = there_of (slice_get m.cells n) (marking m n o ks gone) after e in
    let to = moved_is m n o there.0 ks gone after there.1 e in
    subst (IsUnmarked here x) (sym to.0) (record {
      stack = un.stack;
      known = un.known;
      cells = cells_unmarked o gone x.cells m.cells n there.0 un.cells there.1 to.1;
      base = un.base;
      freed = un.freed;
      live = un.live;
      waits = un.waits;
      rest = un.rest;
    })

-- ---- one move after the other

pub marks_next : (ps : List Move) (x m after : Flat) (q : Move) → Marks ps x m → moved_out m q.at q.kinds q.offsets ≡ Given after → Marks (ps ++ q ∷ []) x after
marks_next [] x m after q marks e = (after, subst (λ y. moved_out y q.at q.kinds q.offsets ≡ Given after) (sym marks) e, refl)
marks_next (p ∷ ps) x m after q marks e = (marks.0, marks.1, marks_next ps marks.0 m after q marks.2 e)

pub stands_next : (here : List Kind) (bound : ℕ) (ps : List Move) (q : Move) → MovesStand here bound ps → MoveStands here bound q.at q.kinds → MovesStand here bound (ps ++ q ∷ [])
stands_next here bound [] q stand is = (is, tt)
stands_next here bound (p ∷ ps) q stand is = (stand.0, stands_next here bound ps q stand.1 is)

-- ---- what is noted is done

moves_beside : (handles : List ℕ) (here taken : List Kind) (m : Flat) (s : Slots) (moves : List Move) → Beside handles here taken m s → Beside handles here taken m (record s { moves = moves })
moves_beside handles here taken m s moves is = record {
  stack = is.stack;
  known = is.known;
  waits = is.waits;
  base = is.base;
  live = is.live;
  made = is.made;
  freed = is.freed;
  rest = is.rest;
  cells = is.cells;
  numbered = is.numbered;
  small = is.small;
  names = is.names;
  waiting_names = is.waiting_names;
}

module _ (handles : List ℕ) (here taken : List Kind) where
  move_at : (x : Flat) → length here ≡ length x.stack → (q : Spot) (ks : List Kind) → MoveStands here (length handles) q ks → StandAt x here q ks
  move_at x known (InStack n) ks stand = let less = stand.1 in (stand.0, omega (arith, less, known))
  move_at x known (InCell n o) ks stand = tt

  pub stands_at : (x : Flat) → length here ≡ length x.stack → (q : Spot) (ks : List Kind) → Stands here q ks → StandAt x here q ks
  stands_at x known (InStack n) ks stand = let less = stand.1 in (stand.0, omega (arith, less, known))
  stands_at x known (InCell n o) ks stand = tt

  all_done : (ps : List Move) (x m : Flat) (s : Slots) → Beside handles here taken x s → Marks ps x m → MovesStand here (length handles) ps
      → (t : Slots) × (all_emptied (map (move_renamed handles) ps) s ≡ Given t) × Beside handles here taken m t
  all_done [] x m s beside marks stand = (s, refl, subst (λ y. Beside handles here taken y s) marks beside)
  all_done (q ∷ ps) x m s beside marks stand =
      let first = there_emptied handles here taken x s beside q.at q.kinds q.offsets marks.0 (move_at x beside.known q.at q.kinds stand.0) marks.1 in
      let rest = all_done ps marks.0 m first.0 first.2 marks.2 stand.1 in
      (rest.0, ap (λ g. and_then g (all_emptied (map (move_renamed handles) ps))) first.1 ∙ rest.1, rest.2)

  -- Then both stand beside each other, with null where something is marked.
  pub settled_beside : (m : Flat) (s : Slots) → During handles here taken m s → (t : Slots) × (settled s ≡ Given t) × Beside handles here taken m t
  settled_beside m s is =
      let done = all_done is.moves is.whole m (record s { moves = [] }) (moves_beside handles here taken is.whole s [] is.beside) is.marked is.stand in
      (done.0, ap (λ qs. all_emptied qs (record s { moves = [] })) is.noted ∙ done.1, done.2)

  -- Nothing is moved yet.
  pub during_first : (m : Flat) (s : Slots) → Beside handles here taken m s → IsClear here taken m → s.moves ≡ [] → During handles here taken m s
  during_first m s beside clear none = record {
    whole = m;
    unmarked = clear_itself here taken m beside.known clear;
    kept = clear.waits;
    beside = beside;
    moves = [];
    marked = refl;
    noted = none;
    stand = tt;
  }

  pub during_clear : (m : Flat) (s : Slots) (is : During handles here taken m s) → IsClear here taken is.whole
  during_clear m s is = unmarked_clear here taken is.whole m is.unmarked is.kept

  -- One more is moved.
  pub during_moved : (m after : Flat) (s : Slots) (q : Spot) (ks : List Kind) (gone : List ℕ) (is : During handles here taken m s) → MoveStands here (length handles) q ks → moved_out m q ks gone ≡ Given after
      → (d : During handles here taken after (moving s (spot_renamed handles q) ks gone)) × (d.moves ≡ is.moves ++ record { at = q; kinds = ks; offsets = gone } ∷ [])
  during_moved m after s q ks gone is stand e =
      let one : Move = record { at = q; kinds = ks; offsets = gone } in (
        record {
          whole = is.whole;
          unmarked = moved_same here is.whole m q ks gone after is.unmarked (move_at m is.unmarked.known q ks stand) e;
          kept = subst (AreKept taken) (waits_same q e) is.kept;
          beside = moves_beside handles here taken is.whole s (s.moves ++ record { at = spot_renamed handles q; kinds = ks; offsets = gone } ∷ []) is.beside;
          moves = is.moves ++ one ∷ [];
          marked = marks_next is.moves is.whole m after one is.marked e;
          noted = ap (λ qs. qs ++ move_renamed handles one ∷ []) is.noted ∙ sym (map-append (move_renamed handles) is.moves (one ∷ []));
          stand = stands_next here (length handles) is.moves one is.stand stand;
        },
        refl,
      )
    where
      waits_same : (q : Spot) → moved_out m q ks gone ≡ Given after → m.waits ≡ after.waits
      waits_same (InStack n) e = ap (λ (y : Flat). y.waits) (stack_moved m n ks gone after e).3
      waits_same (InCell n o) e =
          let there = there_of (slice_get m.cells n) (marking m n o ks gone) after e in
          ap (λ (y : Flat). y.waits) (sym (moved_is m n o there.0 ks gone after there.1 e).0)

-- ---- a cell that is made meanwhile

slice_more : {A : Type 0} (xs ys : List A) (n : ℕ) (a : A) → slice_get xs n ≡ Some a → slice_get (xs ++ ys) n ≡ Some a
slice_more [] ys n a e = cc
slice_more (x ∷ xs) ys zero a e = e
slice_more (x ∷ xs) ys (suc n) a e = slice_more xs ys n a e

changed_more : (f : Cell → Cell) (cs ds : List Cell) (n : ℕ) (c : Cell) → slice_get cs n ≡ Some c → numbered.changed f (cs ++ ds) n ≡ numbered.changed f cs n ++ ds
changed_more f [] ds n c e = cc
changed_more f (b ∷ cs) ds zero c e = refl
changed_more f (b ∷ cs) ds (suc n) c e = ap (λ rest. b ∷ rest) (changed_more f cs ds n c e)

-- The move is made beside it.
moved_made : (m : Flat) (q : Spot) (ks : List Kind) (gone : List ℕ) (after : Flat) (vs : List Value) → moved_out m q ks gone ≡ Given after → moved_out (with_cell m vs) q ks gone ≡ Given (with_cell after vs)
moved_made m (InStack n) ks gone after vs e = by (are_pointers ks gone) (flat.front ks (drop n m.stack)) e
  where
    by : (b : Bool) (g : Got (List ℤ)) → (if b then and_then g (λ zs. Given (flat.with_stack m (spliced n (all_gone gone zs) m.stack))) else Broken) ≡ Given after
        → (if b then and_then g (λ zs. Given (flat.with_stack (with_cell m vs) (spliced n (all_gone gone zs) m.stack))) else Broken) ≡ Given (with_cell after vs)
    by true (Given zs) f = ap (λ y. Given (with_cell y vs)) (let same : flat.with_stack m (spliced n (all_gone gone zs) m.stack) ≡ after = cc in same)
    by true (Stops t) f = cc
    by true Broken f = cc
    by false g f = cc
moved_made m (InCell n o) ks gone after vs e =
    let there = there_of (slice_get m.cells n) (marking m n o ks gone) after e in
    let c : Cell = record { words = there.0; freed = false } in
    let new : List Cell = record { words = vs; freed = false } ∷ [] in
    ap (λ x. touched x (marking (with_cell m vs) n o ks gone)) (slice_more m.cells new n c there.1)
    ∙ by c (are_pointers ks gone && are_in o ks c) (slice_more m.cells new n c there.1) there.1 (sym (ap (λ x. touched x (marking m n o ks gone)) there.1) ∙ e)
  where
    by : (c : Cell) (b : Bool) → slice_get (m.cells ++ record { words = vs; freed = false } ∷ []) n ≡ Some c → slice_get m.cells n ≡ Some c
        → (if b then Given (with_words m n o (values_gone gone (take (length ks) (drop o c.words)))) else Broken) ≡ Given after
        → (if b then Given (with_words (with_cell m vs) n o (values_gone gone (take (length ks) (drop o c.words)))) else Broken) ≡ Given (with_cell after vs)
    by c true later there f =
        let us : List Value = values_gone gone (take (length ks) (drop o c.words)) in
        let same : with_words m n o us ≡ after = cc in
        ap (λ cs. Given (record (with_cell m vs) { cells = cs })) (changed_more (λ (d : Cell). record d { words = spliced o us d.words }) m.cells (record { words = vs; freed = false } ∷ []) n c there)
        ∙ ap (λ y. Given (with_cell y vs)) same
    by c false later there f = cc

marks_made : (ps : List Move) (x m : Flat) (vs : List Value) → Marks ps x m → Marks ps (with_cell x vs) (with_cell m vs)
marks_made [] x m vs marks = ap (λ y. with_cell y vs) marks
marks_made (q ∷ ps) x m vs marks = (with_cell marks.0 vs, moved_made x q.at q.kinds q.offsets marks.0 vs marks.1, marks_made ps marks.0 m vs marks.2)

-- Its values have no mark.
few_cells : (n : ℕ) → nat_le (suc n) most_cells ≡ true → nat_lt n gone_from ≡ true
few_cells n e = grind (arith, nat_tests)

one_value : (k : Kind) (z : ℤ) → is_word k z ≡ true → IsKeptAs k z → ValueUnmarked (value_of k z) (value_of k z)
one_value sort.Int z is kept = (refl, refl)
one_value sort.Enum z is kept = (refl, refl)
one_value sort.Access (pos zero) is kept = (refl, refl)
one_value sort.Access (pos (suc n)) is kept = (refl, by (nat_lt n gone_from) (few_cells n is))
  where
    by : (b : Bool) → b ≡ true → (if b then pos (suc n) else negsuc (n - gone_from)) ≡ as_fresh sort.Access (if b then pos (suc n) else negsuc (n - gone_from))
    by true e = refl
    by false e = cc
one_value sort.Access (negsuc n) is kept = absurd kept

new_values : (ks : List Kind) (zs : List ℤ) → are_words ks zs ≡ true → AreKept ks zs → ValuesUnmarked (values ks zs) (values ks zs)
new_values [] [] are kept = tt
new_values [] (z ∷ zs) are kept = cc
new_values (k ∷ ks) [] are kept = cc
new_values (k ∷ ks) (z ∷ zs) are kept =
    (one_value k z (first_of (is_word k z) (are_words ks zs) are) kept.0, new_values ks zs (second_of (is_word k z) (are_words ks zs) are) kept.1)

cells_next : (cs ds : List Cell) (vs : List Value) → CellsUnmarked cs ds → ValuesUnmarked vs vs → CellsUnmarked (numbered.allocated cs vs) (numbered.allocated ds vs)
cells_next [] [] vs are new = (refl, new, tt)
cells_next [] (d ∷ ds) vs are new = absurd are
cells_next (c ∷ cs) [] vs are new = absurd are
cells_next (c ∷ cs) (d ∷ ds) vs are new = (are.0, are.1, cells_next cs ds vs are.2 new)

-- ---- with more handles

spot_on : (handles more : List ℕ) (here : List Kind) (q : Spot) (ks : List Kind) → MoveStands here (length handles) q ks → spot_renamed handles q ≡ spot_renamed (handles ++ more) q
spot_on handles more here (InStack n) ks stand = refl
spot_on handles more here (InCell n o) ks stand = ap (λ h. InCell h o) (sym (get_or_append_left handles more 0 n stand))

pub moves_on : (handles more : List ℕ) (here : List Kind) (ps : List Move) → MovesStand here (length handles) ps → map (move_renamed handles) ps ≡ map (move_renamed (handles ++ more)) ps
moves_on handles more here [] stand = refl
moves_on handles more here (q ∷ ps) stand =
    ap (λ r. record q { at = r } ∷ map (move_renamed handles) ps) (spot_on handles more here q.at q.kinds stand.0)
    ∙ ap (λ rest. move_renamed (handles ++ more) q ∷ rest) (moves_on handles more here ps stand.1)

stand_more : (here : List Kind) (a b : ℕ) (q : Spot) (ks : List Kind) → a ≤ b → MoveStands here a q ks → MoveStands here b q ks
stand_more here a b (InStack n) ks less stand = stand
stand_more here a b (InCell n o) ks less stand = omega (arith, less, stand)

pub stands_more : (here : List Kind) (a b : ℕ) (ps : List Move) → a ≤ b → MovesStand here a ps → MovesStand here b ps
stands_more here a b [] less stand = tt
stands_more here a b (q ∷ ps) less stand = (stand_more here a b q.at q.kinds less stand.0, stands_more here a b ps less stand.1)

-- The law on cells that are made.
pub during_made : (handles : List ℕ) (here taken : List Kind) (m : Flat) (s : Slots) (h : ℕ) (ks : List Kind) (zs : List ℤ) → During handles here taken m s → handle_words s.heap.cells h ≡ None
    → h < most_handles → NameWords (length handles) ks zs → AreKept ks zs → are_words ks zs ≡ true
    → During (handles ++ h ∷ []) here taken (with_cell m (values ks zs)) (changes.made s h ks (all_renamed handles ks zs))
during_made handles here taken m s h ks zs is new less names kept are =
    let un = is.unmarked in
    let vs : List Value = values ks zs in
    let long = length-append handles (h ∷ []) in record {
      whole = with_cell is.whole vs;
      unmarked = record {
        stack = un.stack;
        known = un.known;
        cells = cells_next is.whole.cells m.cells vs un.cells (new_values ks zs are kept);
        base = un.base;
        freed = un.freed;
        live = ap (λ l. l + length vs) un.live;
        waits = un.waits;
        rest = un.rest;
      };
      kept = is.kept;
      beside = new_beside handles here taken is.whole s is.beside h ks zs new less names are;
      moves = is.moves;
      marked = marks_made is.moves is.whole m vs is.marked;
      noted = is.noted ∙ moves_on handles (h ∷ []) here is.moves is.stand;
      stand = stands_more here (length handles) (length (handles ++ h ∷ [])) is.moves (omega (arith, long)) is.stand;
    }
