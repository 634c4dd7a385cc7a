-- What is copied back as a call ends. Over numbers the formals are marked, and the marks are given back with their frame.
use Rattle.std.proofs.Common.{◌≡◌, refl, sym, ap, ◌∙◌, subst, ℕ, zero, suc, ◌+◌, ◌≤◌, arith, Bool, true, false, ◌&&◌, List, [], ◌∷◌, take, drop, length, slice_get, Option, Some, None, ℤ, if◌then◌else◌}
use Rattle.numbered_cells.specs.run_values.declared.value.Kind.{Kind}
use Rattle.numbered_cells.specs.machine.Evaluate.{Touched}
use Rattle.numbered_cells.specs.kept_cells.Cells.{Cell}
use Rattle.numbered_cells.specs.run_codes.Flat.{Flat, Got, Given, Stops, Broken, Stop, Traps, and_then, all_fresh, all_gone, are_words, are_in, touched, with_words, values, spliced, Spot, InStack, InCell, moved_out, stored, held}
use Rattle.numbered_cells.proofs.run_codes.Places.{given_on}
use Rattle.handled_runs.specs.Slots.{Slots}
use Rattle.handled_runs.specs.Slots as slots
use Rattle.handled_runs.specs.Changes as changes
use Rattle.handled_runs.specs.Beside.{IsSilent, GotsAlike, spot_renamed, Beside}
use Rattle.handled_runs.specs.Looks.{AreKept}
use Rattle.handled_runs.specs.Marks.{Stands}
use Rattle.handled_runs.proofs.Gots.{given_both}
use Rattle.handled_runs.proofs.Lists.{replaced, spliced_is, replaced_long, front_within}
use Rattle.handled_runs.proofs.Lists as lists
use Rattle.handled_runs.proofs.Standing.{front_long}
use Rattle.handled_runs.proofs.Kept.{drop_kept, front_kept}
use Rattle.handled_runs.proofs.There.{AreRenamed, held_gots, there_stored, moved_silent, stored_silent}
use Rattle.handled_runs.proofs.Unmarked.{fresh_keeps, stack_held}
use Rattle.handled_runs.proofs.Marking.{stack_moved, fresh_replaced, there_replaced, all_same, stands_at}
use Rattle.handled_runs.proofs.Framed.{stored_fresh, within_is, stack_room, with_stored, spliced_long}

-- The first memory is the second one without the marks in its stack, none of which stands below the frame that runs.
pub record Backs (base : ℕ) (here : List Kind) (x m : Flat) : Type 0 where
  pub stack : x.stack ≡ all_fresh here m.stack
  pub known : length here ≡ length m.stack
  pub low : take base x.stack ≡ take base m.stack
  pub same : x ≡ record m { stack = x.stack }
  pub frame : m.base ≡ base

-- ---- the words below an index

take_replaced : (b i : ℕ) (zs xs ys : List ℤ) → take b xs ≡ take b ys → length xs ≡ length ys → take b (replaced i zs xs) ≡ take b (replaced i zs ys)
take_replaced zero i zs xs ys same long = refl
take_replaced (suc b) i zs [] [] same long = refl
take_replaced (suc b) i zs [] (y ∷ ys) same long = cc
take_replaced (suc b) i zs (x ∷ xs) [] same long = cc
take_replaced (suc b) zero [] (x ∷ xs) (y ∷ ys) same long = same
take_replaced (suc b) zero (z ∷ zs) (x ∷ xs) (y ∷ ys) same long =
    ap (λ rest. z ∷ rest) (take_replaced b zero zs xs ys (let e : take b xs ≡ take b ys = cc in e) (let e : length xs ≡ length ys = cc in e))
take_replaced (suc b) (suc i) zs (x ∷ xs) (y ∷ ys) same long =
    ap (λ v. v ∷ take b (replaced i zs xs)) (let e : x ≡ y = cc in e)
    ∙ ap (λ rest. y ∷ rest) (take_replaced b i zs xs ys (let e : take b xs ≡ take b ys = cc in e) (let e : length xs ≡ length ys = cc in e))

take_above : (b i : ℕ) (zs xs : List ℤ) → b ≤ i → take b (replaced i zs xs) ≡ take b xs
take_above zero i zs xs less = refl
take_above (suc b) zero zs xs less = absurd (omega (arith, less))
take_above (suc b) (suc i) zs [] less = refl
take_above (suc b) (suc i) zs (x ∷ xs) less = ap (λ rest. x ∷ rest) (take_above b i zs xs (omega (arith, less)))

-- ---- what changes

backs_moved : (base : ℕ) (here : List Kind) (x m after : Flat) (n : ℕ) (ks : List Kind) (gone : List ℕ) → Backs base here x m → base ≤ n → Stands here (InStack n) ks → moved_out m (InStack n) ks gone ≡ Given after → Backs base here x after
backs_moved base here x m after n ks gone is above stand e =
    let to = stack_moved m n ks gone after e in
    let zs : List ℤ = to.0 in
    let us : List ℤ = all_gone gone zs in
    let long = lists.gone_long gone zs in
    let front = front_long ks (drop n m.stack) zs to.1 in
    let under = stand.1 in
    let known = is.known in
    let fits = front_within ks n m.stack zs to.1 (omega (arith, under, known)) in
    let there : spliced n us m.stack ≡ replaced n us m.stack = spliced_is n us m.stack (omega (arith, long, fits)) in
    subst (Backs base here x) to.3 (record {
      stack = is.stack
          ∙ (ap (all_fresh here) (sym (there_replaced n ks m.stack zs to.1))
          ∙ (sym (fresh_replaced n ks here us zs m.stack stand.0 (front ∙ sym long) front (all_same gone ks zs to.2)) ∙ ap (all_fresh here) (sym there)));
      known = is.known ∙ (sym (replaced_long n us m.stack) ∙ ap length (sym there));
      low = is.low ∙ (sym (take_above base n us m.stack above) ∙ ap (take base) (sym there));
      same = is.same;
      frame = is.frame;
    })

backs_long : (base : ℕ) (here : List Kind) (x m : Flat) → Backs base here x m → length x.stack ≡ length m.stack
backs_long base here x m is = ap length is.stack ∙ long here m.stack is.known
  where
    long : (ks : List Kind) (zs : List ℤ) → length ks ≡ length zs → length (all_fresh ks zs) ≡ length zs
    long [] [] e = refl
    long [] (z ∷ zs) e = cc
    long (k ∷ ks) [] e = cc
    long (k ∷ ks) (z ∷ zs) e = ap suc (long ks zs (let same : length ks ≡ length zs = cc in same))

-- a cell is stored to, whatever the stack is
cell_same : (m after : Flat) (st : List ℤ) (n o : ℕ) (ks : List Kind) (zs : List ℤ) → stored m (InCell n o) ks zs ≡ Given after
    → (stored (record m { stack = st }) (InCell n o) ks zs ≡ Given (record after { stack = st })) × (after.stack ≡ m.stack) × (after.base ≡ m.base)
cell_same m after st n o ks zs e = by (slice_get m.cells n) e
  where
    at : (a : Bool) → (if a then Given (with_words m n o (values ks zs)) else Broken) ≡ Given after
        → ((if a then Given (with_words (record m { stack = st }) n o (values ks zs)) else Broken) ≡ Given (record after { stack = st })) × (after.stack ≡ m.stack) × (after.base ≡ m.base)
    at true f =
        let same : with_words m n o (values ks zs) ≡ after = cc in
        (ap (λ (y : Flat). Given (record y { stack = st })) same, ap (λ (y : Flat). y.stack) (sym same), ap (λ (y : Flat). y.base) (sym same))
    at false f = cc

    of_cell : (c : Cell) (b : Bool) → (if b then Stops (Traps Touched) else (if are_words ks zs && are_in o ks c then Given (with_words m n o (values ks zs)) else Broken)) ≡ Given after
        → ((if b then Stops (Traps Touched) else (if are_words ks zs && are_in o ks c then Given (with_words (record m { stack = st }) n o (values ks zs)) else Broken)) ≡ Given (record after { stack = st })) × (after.stack ≡ m.stack) × (after.base ≡ m.base)
    of_cell c true f = cc
    of_cell c false f = at (are_words ks zs && are_in o ks c) f

    by : (c : Option Cell) → touched c (λ (d : Cell). if are_words ks zs && are_in o ks d then Given (with_words m n o (values ks zs)) else Broken) ≡ Given after
        → (touched c (λ (d : Cell). if are_words ks zs && are_in o ks d then Given (with_words (record m { stack = st }) n o (values ks zs)) else Broken) ≡ Given (record after { stack = st })) × (after.stack ≡ m.stack) × (after.base ≡ m.base)
    by None f = cc
    by (Some c) f = of_cell c c.freed f

backs_stored : (base : ℕ) (here : List Kind) (x m after : Flat) (q : Spot) (ks : List Kind) (zs : List ℤ) → Backs base here x m → Stands here q ks → length ks ≡ length zs → AreKept ks zs → stored m q ks zs ≡ Given after
    → (y : Flat) × (stored x q ks zs ≡ Given y) × Backs base here y after
backs_stored base here x m after (InStack n) ks zs is stand count kept e =
    let to = stack_room m after n ks zs e in
    let room : n + length zs ≤ length m.stack = to.0 in
    let long = backs_long base here x m is in
    let x_room : n + length zs ≤ length x.stack = omega (arith, room, long) in
    let new : spliced n zs m.stack ≡ replaced n zs m.stack = spliced_is n zs m.stack room in
    let x_new : spliced n zs x.stack ≡ replaced n zs x.stack = spliced_is n zs x.stack x_room in (
      with_stored n zs x,
      ap (λ b. if b then Given (with_stored n zs x) else Broken) (within_is (n + length zs) (length x.stack) x_room),
      subst (Backs base here (with_stored n zs x)) to.1 (record {
        stack = stored_fresh n ks here zs x.stack m.stack stand.0 count kept is.known room long is.stack;
        known = is.known ∙ sym (spliced_long n zs m.stack room);
        low = ap (take base) x_new ∙ (take_replaced base n zs x.stack m.stack is.low long ∙ ap (take base) (sym new));
        same = ap (λ (y : Flat). record y { stack = spliced n zs x.stack }) is.same;
        frame = is.frame;
      }),
    )
backs_stored base here x m after (InCell n o) ks zs is stand count kept e =
    let to = cell_same m after x.stack n o ks zs e in (
      record after { stack = x.stack },
      subst (λ y. stored y (InCell n o) ks zs ≡ Given (record after { stack = x.stack })) (sym is.same) to.0,
      record {
        stack = is.stack ∙ ap (all_fresh here) (sym to.1);
        known = is.known ∙ ap length (sym to.1);
        low = is.low ∙ ap (take base) (sym to.1);
        same = refl;
        frame = to.2 ∙ is.frame;
      },
    )

-- ---- the law

module _ (handles : List ℕ) (here taken : List Kind) (base : ℕ) where
  -- A memory beside it, but for the marks.
  abbrev pub Back : Flat → Slots → Type 0
  Back m s = (x : Flat) × Backs base here x m × Beside handles here taken x s

  -- A formal is read.
  pub back_held : (m : Flat) (s : Slots) → Back m s → (n : ℕ) (ks : List Kind) → Stands here (InStack n) ks
      → GotsAlike (AreRenamed handles ks) (held m (InStack n) ks) (slots.held s (InStack n) ks)
  back_held m s (x, is, beside) n ks stand =
      let at = stands_at handles here taken x beside.known (InStack n) ks stand in
      subst (λ g. GotsAlike (AreRenamed handles ks) g (slots.held s (InStack n) ks)) (stack_held here x m n ks is.stack stand.0)
      (held_gots handles here taken x s beside (InStack n) ks at
      (λ zs e. front_kept ks (drop n here) (drop n x.stack) zs stand.0 e (drop_kept n here x.stack (subst (AreKept here) (sym is.stack) (fresh_keeps here m.stack)))))

  -- It is moved to a place.
  pub back_moved : (m : Flat) (s : Slots) → Back m s → (n : ℕ) (ks js : List Kind) (gone : List ℕ) (q : Spot) (zs us : List ℤ) → base ≤ n → Stands here (InStack n) ks → Stands here q js → AreRenamed handles js zs us
      → GotsAlike Back (and_then (moved_out m (InStack n) ks gone) (λ i. stored i q js zs)) (changes.stored s (spot_renamed handles q) js us)
  back_moved m s (x, is, beside) n ks js gone q zs us above stand there words =
      given_both Back (and_then (moved_out m (InStack n) ks gone) (λ i. stored i q js zs)) (changes.stored s (spot_renamed handles q) js us) silent
      (λ after e.
      let on = given_on (moved_out m (InStack n) ks gone) (λ i. stored i q js zs) after e in
      let next = backs_stored base here x on.0 after q js zs (backs_moved base here x m on.0 n ks gone is above stand on.1) there words.known words.kept on.2 in
      let done = there_stored handles here taken x s beside q js zs next.0 (stands_at handles here taken x beside.known q js there) words.known words.names next.1 in
      (done.0, ap (changes.stored s (spot_renamed handles q) js) words.words ∙ done.1, (next.0, next.2, done.2)))
    where
      silent : (t : Stop) → and_then (moved_out m (InStack n) ks gone) (λ i. stored i q js zs) ≡ Stops t → IsSilent t
      silent t e = by (moved_out m (InStack n) ks gone) refl e
        where
          by : (g : Got Flat) → moved_out m (InStack n) ks gone ≡ g → and_then g (λ i. stored i q js zs) ≡ Stops t → IsSilent t
          by (Given i) found h = stored_silent i q js zs t h
          by (Stops y) found h = subst IsSilent (let same : y ≡ t = cc in same) (moved_silent m (InStack n) ks gone y found)
          by Broken found h = cc
