-- What is pushed on the stack and stored there in the course of a point, beside what it moves.
use Rattle.std.proofs.Common.{◌≡◌, refl, sym, ap, ◌∙◌, subst, ℕ, zero, suc, ◌+◌, ◌≤◌, arith, Bool, true, false, ◌&&◌, nat_le, List, [], ◌∷◌, ◌++◌, length-append, take, drop, length, slice_get, ℤ, if◌then◌else◌}
use Rattle.std.proofs.lemmas.Bool.Decides.{nat_tests}
use Rattle.numbered_cells.specs.run_values.declared.value.Kind.{Kind}
use Rattle.numbered_cells.specs.kept_cells.Cells.{Cell}
use Rattle.numbered_cells.specs.run_codes.Flat.{Flat, Got, Given, Stops, Broken, and_then, is_word, as_fresh, all_fresh, all_gone, values_gone, are_pointers, are_in, touched, with_stack, with_words, spliced, Spot, InStack, InCell, moved_out, stored}
use Rattle.numbered_cells.specs.run_codes.Flat as flat
use Rattle.handled_runs.specs.Slots.{Slots, Move}
use Rattle.handled_runs.specs.Changes as changes
use Rattle.handled_runs.specs.Beside.{all_renamed, NameWords, Beside}
use Rattle.handled_runs.specs.Looks.{IsFront, AreKept}
use Rattle.handled_runs.specs.Alike.{AreNumbers}
use Rattle.handled_runs.specs.Marks.{IsUnmarked, Marks, Stands, MoveStands, MovesStand, During}
use Rattle.handled_runs.proofs.Gots.{there_of}
use Rattle.handled_runs.proofs.Lists.{replaced, spliced_is, replaced_long, front_within}
use Rattle.handled_runs.proofs.Lists as lists
use Rattle.handled_runs.proofs.Standing.{front_long}
use Rattle.handled_runs.proofs.Stacks.{stack_stored}
use Rattle.handled_runs.proofs.Outcomes.{renamed_append, names_append, long_append}
use Rattle.handled_runs.proofs.Filled.{numbers_renamed, numbers_long, numbers_named, numbers_kept}
use Rattle.handled_runs.proofs.Unmarked.{all_kept}
use Rattle.handled_runs.proofs.Marking.{marking, stack_moved}

-- ---- words at the end

front_more : (ks : List Kind) (st t zs : List ℤ) → flat.front ks st ≡ Given zs → flat.front ks (st ++ t) ≡ Given zs
front_more [] st t zs e = e
front_more (k ∷ ks) [] t zs e = cc
front_more (k ∷ ks) (s ∷ st) t zs e = by (is_word k s) (flat.front ks st) refl e (λ more found. front_more ks st t more found)
  where
    by : (b : Bool) (g : Got (List ℤ)) → flat.front ks st ≡ g → (if b then and_then g (λ more. Given (s ∷ more)) else Broken) ≡ Given zs
        → ((more : List ℤ) → flat.front ks st ≡ Given more → flat.front ks (st ++ t) ≡ Given more)
        → (if b then and_then (flat.front ks (st ++ t)) (λ more. Given (s ∷ more)) else Broken) ≡ Given zs
    by true (Given more) found f on = ap (λ g. and_then g (λ more. Given (s ∷ more))) (on more found) ∙ f
    by true (Stops x) found f on = cc
    by true Broken found f on = cc
    by false g found f on = cc

front_longer : (n : ℕ) (ks : List Kind) (st t zs : List ℤ) → flat.front ks (drop n st) ≡ Given zs → n ≤ length st → flat.front ks (drop n (st ++ t)) ≡ Given zs
front_longer zero ks st t zs e less = front_more ks st t zs e
front_longer (suc n) ks [] t zs e less = absurd (omega (arith, less))
front_longer (suc n) ks (s ∷ st) t zs e less = front_longer n ks st t zs e (omega (arith, less))

replaced_longer : (n : ℕ) (us st t : List ℤ) → n + length us ≤ length st → replaced n us (st ++ t) ≡ replaced n us st ++ t
replaced_longer zero [] st t less = refl
replaced_longer zero (u ∷ us) [] t less = absurd (omega (arith, less))
replaced_longer zero (u ∷ us) (s ∷ st) t less = ap (λ rest. u ∷ rest) (replaced_longer zero us st t (omega (arith, less)))
replaced_longer (suc n) us [] t less = absurd (omega (arith, less))
replaced_longer (suc n) us (s ∷ st) t less = ap (λ rest. s ∷ rest) (replaced_longer n us st t (omega (arith, less)))

abbrev pub pushed : List ℤ → Flat → Flat
pushed t m = record m { stack = m.stack ++ t }

moved_pushed : (m : Flat) (q : Spot) (ks : List Kind) (gone : List ℕ) (after : Flat) (here : List Kind) (t : List ℤ) → length here ≡ length m.stack → Stands here q ks → moved_out m q ks gone ≡ Given after
    → moved_out (pushed t m) q ks gone ≡ Given (pushed t after)
moved_pushed m (InStack n) ks gone after here t known stand e =
    let to = stack_moved m n ks gone after e in
    let zs : List ℤ = to.0 in
    let us : List ℤ = all_gone gone zs in
    let low = stand.1 in
    let less : n ≤ length m.stack = omega (arith, low, known) in
    let long = lists.gone_long gone zs in
    let fits = front_within ks n m.stack zs to.1 less in
    let room : n + length us ≤ length m.stack = omega (arith, long, fits) in
    let all = length-append m.stack t in
    let splice : spliced n us (m.stack ++ t) ≡ spliced n us m.stack ++ t
    = spliced_is n us (m.stack ++ t) (omega (arith, room, all)) ∙ (replaced_longer n us m.stack t room ∙ ap (λ st. st ++ t) (sym (spliced_is n us m.stack room))) in
    ap (λ b. if b then and_then (flat.front ks (drop n (m.stack ++ t))) (λ ys. Given (with_stack (pushed t m) (spliced n (all_gone gone ys) (m.stack ++ t)))) else Broken) to.2
    ∙ (ap (λ g. and_then g (λ ys. Given (with_stack (pushed t m) (spliced n (all_gone gone ys) (m.stack ++ t))))) (front_longer n ks m.stack t zs to.1 less)
    ∙ (ap (λ st. Given (with_stack m st)) splice ∙ ap (λ y. Given (pushed t y)) to.3))
moved_pushed m (InCell n o) ks gone after here t known stand e =
    let there = there_of (slice_get m.cells n) (marking m n o ks gone) after e in
    let c : Cell = record { words = there.0; freed = false } in
    ap (λ x. touched x (marking (pushed t m) n o ks gone)) there.1
    ∙ by c (are_pointers ks gone && are_in o ks c) (sym (ap (λ x. touched x (marking m n o ks gone)) there.1) ∙ e)
  where
    by : (c : Cell) (b : Bool) → (if b then Given (with_words m n o (values_gone gone (take (length ks) (drop o c.words)))) else Broken) ≡ Given after
        → (if b then Given (with_words (pushed t m) n o (values_gone gone (take (length ks) (drop o c.words)))) else Broken) ≡ Given (pushed t after)
    by c true f = ap (λ y. Given (pushed t y)) (let same : with_words m n o (values_gone gone (take (length ks) (drop o c.words))) ≡ after = cc in same)
    by c false f = cc

-- ---- the stack keeps its length

pub moved_long : (m : Flat) (q : Spot) (ks : List Kind) (gone : List ℕ) (after : Flat) (here : List Kind) → length here ≡ length m.stack → Stands here q ks → moved_out m q ks gone ≡ Given after
    → length here ≡ length after.stack
moved_long m (InStack n) ks gone after here known stand e =
    let to = stack_moved m n ks gone after e in
    let us : List ℤ = all_gone gone to.0 in
    let low = stand.1 in
    let long = lists.gone_long gone to.0 in
    let fits = front_within ks n m.stack to.0 to.1 (omega (arith, low, known)) in
    known ∙ (sym (replaced_long n us m.stack) ∙ (ap length (sym (spliced_is n us m.stack (omega (arith, long, fits)))) ∙ ap (λ (y : Flat). length y.stack) to.3))
moved_long m (InCell n o) ks gone after here known stand e =
    let there = there_of (slice_get m.cells n) (marking m n o ks gone) after e in
    known ∙ by there.0 (are_pointers ks gone && are_in o ks (record { words = there.0; freed = false })) (sym (ap (λ x. touched x (marking m n o ks gone)) there.1) ∙ e)
  where
    by : (ws : _) (b : Bool) → (if b then Given (with_words m n o (values_gone gone (take (length ks) (drop o ws)))) else Broken) ≡ Given after → length m.stack ≡ length after.stack
    by ws true f = ap (λ (y : Flat). length y.stack) (let same : with_words m n o (values_gone gone (take (length ks) (drop o ws))) ≡ after = cc in same)
    by ws false f = cc

pub stands_of : (here : List Kind) (bound : ℕ) (q : Spot) (ks : List Kind) → MoveStands here bound q ks → Stands here q ks
stands_of here bound (InStack n) ks stand = stand
stands_of here bound (InCell n o) ks stand = tt

marks_pushed : (ps : List Move) (x m : Flat) (here : List Kind) (bound : ℕ) (t : List ℤ) → length here ≡ length x.stack → MovesStand here bound ps → Marks ps x m → Marks ps (pushed t x) (pushed t m)
marks_pushed [] x m here bound t known stand marks = ap (pushed t) marks
marks_pushed (q ∷ ps) x m here bound t known stand marks =
    let at = stands_of here bound q.at q.kinds stand.0 in (
      pushed t marks.0,
      moved_pushed x q.at q.kinds q.offsets marks.0 here t known at marks.1,
      marks_pushed ps marks.0 m here bound t (moved_long x q.at q.kinds q.offsets marks.0 here known at marks.1) stand.1 marks.2,
    )

-- ---- kinds at the end

front_kinds : (ks js more : List Kind) → IsFront ks js → IsFront ks (js ++ more)
front_kinds [] js more is = tt
front_kinds (k ∷ ks) [] more is = absurd is
front_kinds (k ∷ ks) (j ∷ js) more is = (is.0, front_kinds ks js more is.1)

pub drop_kinds : (n : ℕ) (ks js more : List Kind) → IsFront ks (drop n js) → n ≤ length js → IsFront ks (drop n (js ++ more))
drop_kinds zero ks js more is less = front_kinds ks js more is
drop_kinds (suc n) ks [] more is less = absurd (omega (arith, less))
drop_kinds (suc n) ks (j ∷ js) more is less = drop_kinds n ks js more is (omega (arith, less))

pub stands_longer : (here more : List Kind) (q : Spot) (ks : List Kind) → Stands here q ks → Stands (here ++ more) q ks
stands_longer here more (InStack n) ks stand =
    let less = stand.1 in
    let all = length-append here more in
    (drop_kinds n ks here more stand.0 stand.1, omega (arith, less, all))
stands_longer here more (InCell n o) ks stand = tt

move_longer : (here more : List Kind) (bound : ℕ) (q : Spot) (ks : List Kind) → MoveStands here bound q ks → MoveStands (here ++ more) bound q ks
move_longer here more bound (InStack n) ks stand = stands_longer here more (InStack n) ks stand
move_longer here more bound (InCell n o) ks stand = stand

moves_longer : (here more : List Kind) (bound : ℕ) (ps : List Move) → MovesStand here bound ps → MovesStand (here ++ more) bound ps
moves_longer here more bound [] stand = tt
moves_longer here more bound (q ∷ ps) stand = (move_longer here more bound q.at q.kinds stand.0, moves_longer here more bound ps stand.1)

fresh_append : (is js : List Kind) (xs ys : List ℤ) → length is ≡ length xs → all_fresh (is ++ js) (xs ++ ys) ≡ all_fresh is xs ++ all_fresh js ys
fresh_append [] js [] ys long = refl
fresh_append [] js (x ∷ xs) ys long = cc
fresh_append (i ∷ is) js [] ys long = cc
fresh_append (i ∷ is) js (x ∷ xs) ys long = ap (λ rest. as_fresh i x ∷ rest) (fresh_append is js xs ys (let same : length is ≡ length xs = cc in same))

-- ---- a frame is pushed

module _ (handles : List ℕ) (here taken : List Kind) (m : Flat) (s : Slots) where
  pub pushed_beside : Beside handles here taken m s → (ks : List Kind) (t : List ℤ) → AreNumbers ks t → Beside handles (here ++ ks) taken (pushed t m) (changes.with_stack s (s.stack ++ t))
  pushed_beside beside ks t are = record {
    stack = ap (λ zs. zs ++ t) beside.stack
        ∙ (ap (λ zs. all_renamed handles here m.stack ++ zs) (numbers_renamed handles ks t are) ∙ sym (renamed_append handles here ks m.stack t beside.known));
    known = long_append here ks m.stack t beside.known (numbers_long ks t are);
    waits = beside.waits;
    base = beside.base;
    live = beside.live;
    made = beside.made;
    freed = beside.freed;
    rest = beside.rest;
    cells = beside.cells;
    numbered = beside.numbered;
    small = beside.small;
    names = names_append (length handles) here ks m.stack t beside.known beside.names (numbers_named (length handles) ks t are);
    waiting_names = beside.waiting_names;
  }

pub during_pushed : (handles : List ℕ) (here taken : List Kind) (m : Flat) (s : Slots) (ks : List Kind) (t : List ℤ) → (is : During handles here taken m s) → AreNumbers ks t
    → (d : During handles (here ++ ks) taken (pushed t m) (changes.with_stack s (s.stack ++ t))) × (d.moves ≡ is.moves)
during_pushed handles here taken m s ks t is are =
    let un = is.unmarked in (
      record {
        whole = pushed t is.whole;
        unmarked = record {
          stack = ap (λ zs. zs ++ t) un.stack ∙ (ap (λ zs. all_fresh here m.stack ++ zs) (all_kept ks t (numbers_long ks t are) (numbers_kept ks t are)) ∙ sym (fresh_append here ks m.stack t un.known));
          known = long_append here ks m.stack t un.known (numbers_long ks t are);
          cells = un.cells;
          base = un.base;
          freed = un.freed;
          live = un.live;
          waits = un.waits;
          rest = un.rest;
        };
        kept = is.kept;
        beside = pushed_beside handles here taken is.whole s is.beside ks t are;
        moves = is.moves;
        marked = marks_pushed is.moves is.whole m here (length handles) t is.beside.known is.stand is.marked;
        noted = is.noted;
        stand = moves_longer here ks (length handles) is.moves is.stand;
      },
      refl,
    )

-- ---- words are stored after what is moved

front_apart : (n at : ℕ) (ks : List Kind) (zs st : List ℤ) → n + length ks ≤ at → flat.front ks (drop n (replaced at zs st)) ≡ flat.front ks (drop n st)
front_apart zero at [] zs st low = refl
front_apart zero zero (k ∷ ks) zs st low = absurd (omega (arith, low))
front_apart zero (suc at) (k ∷ ks) zs [] low = refl
front_apart zero (suc at) (k ∷ ks) zs (s ∷ st) low = ap (λ g. if is_word k s then and_then g (λ more. Given (s ∷ more)) else Broken) (front_apart zero at ks zs st (omega (arith, low)))
front_apart (suc n) zero ks zs st low = absurd (omega (arith, low))
front_apart (suc n) (suc at) ks zs [] low = refl
front_apart (suc n) (suc at) ks zs (s ∷ st) low = front_apart n at ks zs st (omega (arith, low))

replaced_apart : (n at : ℕ) (us zs st : List ℤ) → n + length us ≤ at → replaced n us (replaced at zs st) ≡ replaced at zs (replaced n us st)
replaced_apart zero at [] zs st low = refl
replaced_apart zero zero (u ∷ us) zs st low = absurd (omega (arith, low))
replaced_apart zero (suc at) (u ∷ us) zs [] low = refl
replaced_apart zero (suc at) (u ∷ us) zs (s ∷ st) low = ap (λ rest. u ∷ rest) (replaced_apart zero at us zs st (omega (arith, low)))
replaced_apart (suc n) zero us zs st low = absurd (omega (arith, low))
replaced_apart (suc n) (suc at) us zs [] low = refl
replaced_apart (suc n) (suc at) us zs (s ∷ st) low = ap (λ rest. s ∷ rest) (replaced_apart n at us zs st (omega (arith, low)))

abbrev pub with_stored : ℕ → List ℤ → Flat → Flat
with_stored at zs m = with_stack m (spliced at zs m.stack)

-- What is moved ends there.
abbrev pub IsLow : ℕ → Spot → List Kind → Type 0
IsLow at (InStack n) ks = n + length ks ≤ at
IsLow at (InCell n o) ks = Unit {0}

abbrev pub AreLow : ℕ → List Move → Type 0
AreLow at [] = Unit {0}
AreLow at (q ∷ ps) = IsLow at q.at q.kinds × AreLow at ps

moved_stored : (m : Flat) (q : Spot) (ks : List Kind) (gone : List ℕ) (after : Flat) (here : List Kind) (at : ℕ) (zs : List ℤ) → length here ≡ length m.stack → Stands here q ks → IsLow at q ks → at + length zs ≤ length here
    → moved_out m q ks gone ≡ Given after → moved_out (with_stored at zs m) q ks gone ≡ Given (with_stored at zs after)
moved_stored m (InStack n) ks gone after here at zs known stand low room e =
    let to = stack_moved m n ks gone after e in
    let ys : List ℤ = to.0 in
    let us : List ℤ = all_gone gone ys in
    let under = stand.1 in
    let less : n ≤ length m.stack = omega (arith, under, known) in
    let long = lists.gone_long gone ys in
    let count = front_long ks (drop n m.stack) ys to.1 in
    let fits = front_within ks n m.stack ys to.1 less in
    let here_fits : n + length us ≤ length m.stack = omega (arith, long, fits) in
    let there_fits : at + length zs ≤ length m.stack = omega (arith, room, known) in
    let new : spliced at zs m.stack ≡ replaced at zs m.stack = spliced_is at zs m.stack there_fits in
    let long_new = replaced_long at zs m.stack in
    let long_moved = replaced_long n us m.stack in
    let front : flat.front ks (drop n (spliced at zs m.stack)) ≡ Given ys = ap (λ st. flat.front ks (drop n st)) new ∙ (front_apart n at ks zs m.stack low ∙ to.1) in
    let old : spliced n us m.stack ≡ replaced n us m.stack = spliced_is n us m.stack here_fits in
    let splice : spliced n us (spliced at zs m.stack) ≡ spliced at zs (spliced n us m.stack)
    = ap (spliced n us) new
    ∙ (spliced_is n us (replaced at zs m.stack) (omega (arith, here_fits, long_new))
    ∙ (replaced_apart n at us zs m.stack (omega (arith, low, long, count))
    ∙ (sym (spliced_is at zs (replaced n us m.stack) (omega (arith, there_fits, long_moved))) ∙ ap (spliced at zs) (sym old)))) in
    ap (λ b. if b then and_then (flat.front ks (drop n (spliced at zs m.stack))) (λ xs. Given (with_stack (with_stored at zs m) (spliced n (all_gone gone xs) (spliced at zs m.stack)))) else Broken) to.2
    ∙ (ap (λ g. and_then g (λ xs. Given (with_stack (with_stored at zs m) (spliced n (all_gone gone xs) (spliced at zs m.stack))))) front
    ∙ (ap (λ st. Given (with_stack m st)) splice ∙ ap (λ y. Given (with_stored at zs y)) to.3))
moved_stored m (InCell n o) ks gone after here at zs known stand low room e =
    let there = there_of (slice_get m.cells n) (marking m n o ks gone) after e in
    let c : Cell = record { words = there.0; freed = false } in
    ap (λ x. touched x (marking (with_stored at zs m) n o ks gone)) there.1
    ∙ by c (are_pointers ks gone && are_in o ks c) (sym (ap (λ x. touched x (marking m n o ks gone)) there.1) ∙ e)
  where
    by : (c : Cell) (b : Bool) → (if b then Given (with_words m n o (values_gone gone (take (length ks) (drop o c.words)))) else Broken) ≡ Given after
        → (if b then Given (with_words (with_stored at zs m) n o (values_gone gone (take (length ks) (drop o c.words)))) else Broken) ≡ Given (with_stored at zs after)
    by c true f = ap (λ y. Given (with_stored at zs y)) (let same : with_words m n o (values_gone gone (take (length ks) (drop o c.words))) ≡ after = cc in same)
    by c false f = cc

marks_stored : (ps : List Move) (x m : Flat) (here : List Kind) (bound at : ℕ) (zs : List ℤ) → length here ≡ length x.stack → MovesStand here bound ps → AreLow at ps → at + length zs ≤ length here → Marks ps x m
    → Marks ps (with_stored at zs x) (with_stored at zs m)
marks_stored [] x m here bound at zs known stand low room marks = ap (with_stored at zs) marks
marks_stored (q ∷ ps) x m here bound at zs known stand low room marks =
    let there = stands_of here bound q.at q.kinds stand.0 in (
      with_stored at zs marks.0,
      moved_stored x q.at q.kinds q.offsets marks.0 here at zs known there low.0 room marks.1,
      marks_stored ps marks.0 m here bound at zs (moved_long x q.at q.kinds q.offsets marks.0 here known there marks.1) stand.1 low.1 room marks.2,
    )

replaced_fresh : (n : ℕ) (ks here : List Kind) (zs st : List ℤ) → IsFront ks (drop n here) → length ks ≡ length zs → replaced n (all_fresh ks zs) (all_fresh here st) ≡ all_fresh here (replaced n zs st)
replaced_fresh zero [] here [] st is long = refl
replaced_fresh zero [] here (z ∷ zs) st is long = cc
replaced_fresh zero (k ∷ ks) here [] st is long = cc
replaced_fresh zero (k ∷ ks) [] (z ∷ zs) st is long = absurd is
replaced_fresh zero (k ∷ ks) (j ∷ here) (z ∷ zs) [] is long = refl
replaced_fresh zero (k ∷ ks) (j ∷ here) (z ∷ zs) (a ∷ st) is long =
    ap (λ q. as_fresh q z ∷ replaced zero (all_fresh ks zs) (all_fresh here st)) is.0
    ∙ ap (λ rest. as_fresh j z ∷ rest) (replaced_fresh zero ks here zs st is.1 (let same : length ks ≡ length zs = cc in same))
replaced_fresh (suc n) ks [] zs st is long = refl
replaced_fresh (suc n) ks (j ∷ here) zs [] is long = refl
replaced_fresh (suc n) ks (j ∷ here) zs (a ∷ st) is long = ap (λ rest. as_fresh j a ∷ rest) (replaced_fresh n ks here zs st is long)

-- Without marks it is as it is.
pub stored_fresh : (at : ℕ) (ks here : List Kind) (zs xs st : List ℤ) → IsFront ks (drop at here) → length ks ≡ length zs → AreKept ks zs → length here ≡ length st → at + length zs ≤ length st → length xs ≡ length st
    → xs ≡ all_fresh here st → spliced at zs xs ≡ all_fresh here (spliced at zs st)
stored_fresh at ks here zs xs st is long kept known room same fresh =
    spliced_is at zs xs (omega (arith, room, same))
    ∙ (ap (replaced at zs) fresh
    ∙ (ap (λ ys. replaced at ys (all_fresh here st)) (all_kept ks zs long kept) ∙ (replaced_fresh at ks here zs st is long ∙ ap (all_fresh here) (sym (spliced_is at zs st room)))))

is_within : (a b : ℕ) → nat_le a b ≡ true → a ≤ b
is_within a b e = grind (arith, nat_tests)

pub within_is : (a b : ℕ) → a ≤ b → nat_le a b ≡ true
within_is a b e = grind (arith, nat_tests)

pub stack_room : (m after : Flat) (at : ℕ) (js : List Kind) (zs : List ℤ) → stored m (InStack at) js zs ≡ Given after → (at + length zs ≤ length m.stack) × (with_stored at zs m ≡ after)
stack_room m after at js zs e = by (nat_le (at + length zs) (length m.stack)) refl e
  where
    by : (b : Bool) → nat_le (at + length zs) (length m.stack) ≡ b → (if b then Given (with_stored at zs m) else Broken) ≡ Given after → (at + length zs ≤ length m.stack) × (with_stored at zs m ≡ after)
    by true fits f = (is_within (at + length zs) (length m.stack) fits, (let same : with_stored at zs m ≡ after = cc in same))
    by false fits f = cc

pub spliced_long : (at : ℕ) (zs st : List ℤ) → at + length zs ≤ length st → length (spliced at zs st) ≡ length st
spliced_long at zs st room = ap length (spliced_is at zs st room) ∙ replaced_long at zs st

-- The law.
pub during_stored : (handles : List ℕ) (here taken : List Kind) (m after : Flat) (s : Slots) (at : ℕ) (js ks : List Kind) (zs : List ℤ) → (is : During handles here taken m s) → AreLow at is.moves → IsFront ks (drop at here)
    → length ks ≡ length zs → NameWords (length handles) ks zs → AreKept ks zs → stored m (InStack at) js zs ≡ Given after
    → (t : Slots) × (changes.stored s (InStack at) js (all_renamed handles ks zs) ≡ Given t) × (d : During handles here taken after t) × (d.moves ≡ is.moves) × (t.moves ≡ s.moves)
during_stored handles here taken m after s at js ks zs is low front long names kept e =
    let un = is.unmarked in
    let to = stack_room m after at js zs e in
    let room : at + length zs ≤ length m.stack = to.0 in
    let first = un.known in
    let second = is.beside.known in
    let whole_room : at + length zs ≤ length is.whole.stack = omega (arith, room, first, second) in
    let whole_stored : stored is.whole (InStack at) js zs ≡ Given (with_stored at zs is.whole)
    = ap (λ b. if b then Given (with_stored at zs is.whole) else Broken) (within_is (at + length zs) (length is.whole.stack) whole_room) in
    let done = stack_stored handles here taken is.whole s is.beside at js ks zs (with_stored at zs is.whole) front long names whole_stored in
    let kept_moves : done.0.moves ≡ s.moves = moves_same done.0 done.1 in (
      done.0,
      done.1,
      record {
        whole = with_stored at zs is.whole;
        unmarked = subst (IsUnmarked here (with_stored at zs is.whole)) to.1 (record {
          stack = stored_fresh at ks here zs is.whole.stack m.stack front long kept first room (sym second ∙ first) un.stack;
          known = first ∙ sym (spliced_long at zs m.stack room);
          cells = un.cells;
          base = un.base;
          freed = un.freed;
          live = un.live;
          waits = un.waits;
          rest = un.rest;
        });
        kept = subst (λ (y : Flat). AreKept taken y.waits) to.1 is.kept;
        beside = done.2;
        moves = is.moves;
        marked = subst (Marks is.moves (with_stored at zs is.whole)) to.1 (marks_stored is.moves is.whole m here (length handles) at zs second is.stand low (omega (arith, room, first)) is.marked);
        noted = kept_moves ∙ is.noted;
        stand = is.stand;
      },
      refl,
      kept_moves,
    )
  where
    moves_same : (t : Slots) → changes.stored s (InStack at) js (all_renamed handles ks zs) ≡ Given t → t.moves ≡ s.moves
    moves_same t f = by (nat_le (at + length (all_renamed handles ks zs)) (length s.stack)) f
      where
        by : (b : Bool) → (if b then Given (changes.with_stack s (spliced at (all_renamed handles ks zs) s.stack)) else Broken) ≡ Given t → t.moves ≡ s.moves
        by true g = ap (λ (y : Slots). y.moves) (sym (let same : changes.with_stack s (spliced at (all_renamed handles ks zs) s.stack) ≡ t = cc in same))
        by false g = cc
