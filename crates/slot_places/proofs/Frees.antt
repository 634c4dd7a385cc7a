-- Cells that are released.
use Rattle.std.proofs.Common.{◌≡◌, refl, sym, ap, ◌∙◌, subst, ℕ, suc, ◌<◌, ◌^◌, false, List, [], ◌∷◌, length, Option, Some, None, ℤ, pos, unsigned_abs, Result, Ok, Err}
use Rattle.spark_base.specs.declared.position.Pos.{Pos}
use Rattle.type_definitions.specs.Types.{Table}
use Rattle.run_values.specs.declared.value.Value.{Value}
use Rattle.run_values.specs.declared.value.Kind.{Kind}
use Rattle.run_values.specs.declared.value.Kind.TheVariants as sort
use Rattle.machine.specs.States.{Leak}
use Rattle.slot_heap.specs.Heaps.{Heap, words_at, IsLive}
use Rattle.run_codes.specs.Codes.{Place}
use Rattle.run_codes.specs.Flat.{Got, Given, Spot, InCell, and_then, is_broken}
use Rattle.code_rows.specs.declared.stop.Stop.{Stop}
use Rattle.code_rows.specs.Stops.{stop_of}
use Rattle.handled_runs.specs.Slots.{Slots, spot, held}
use Rattle.handled_runs.specs.Changes.{stored, without_cell}
use Rattle.handled_runs.specs.Leaks.{leaks_at}
use Rattle.handled_runs.specs.Assigned.{Left}
use Rattle.handled_runs.specs.Released.{cell_at, named, released_at, released}
use Rattle.slot_memory.specs.declared.spot.Spot as declared
use Rattle.slot_memory.specs.Spots.{spot_of}
use Rattle.slot_memory.specs.Memory.{Kept, Ghosts, Stands, Shows, Knows, Always, Changes, slots, ghosts_of}
use Rattle.slot_memory.specs.Answers.{Frees}
use Rattle.slot_memory.proofs.Heaps.{size_words}
use Rattle.slot_words.specs.Reading.{ReadsSpot, GivesSpot}
use Rattle.slot_words.proofs.Wholes.{first_whole, next_whole, first_stops}
use Rattle.slot_places.specs.Steps.{Leaves, Leavable, Leaving, named_at}
use Rattle.slot_words.proofs.Never.{given_of, leaks_never, stored_never}
use Rattle.slot_places.proofs.Assigning.{Found, Halted, none_found, found_is}
use Rattle.slot_places.proofs.Cells.{live_is, stored_live}

abbrev one : List Kind
one = sort.Access ∷ []

abbrev null : List ℤ
null = pos 0 ∷ []

-- ---- a cell

module _ {R : Type 0} (Means : R → Heap → Type 0) (table : Table) (of : ℕ) (p : Pos) (q : Spot) (h : ℕ) where
  abbrev freed : Slots → List Value → List Leak → Got (Left Slots)
  freed s ws leaks = and_then (stored s q one null) (λ t. Given (record { leaks = leaks; memory = without_cell t h (length ws) }))

  abbrev checked : Slots → List Value → Got (Left Slots)
  checked s ws = and_then (leaks_at table s (InCell h 0) of p) (freed s ws)

  -- The cell is live, its checks are whole, and its name is there.
  record IsThere (s : Slots) : Type 0 where
    words : List Value
    live : words_at s.heap.cells h ≡ Some words
    leaks : List Leak
    found : leaks_at table s (InCell h 0) of p ≡ Given leaks
    after : Slots
    put : stored s q one null ≡ Given after

  there : (s : Slots) → is_broken (named_at table of p q (suc h) s) ≡ false → IsThere s
  there s whole = by (words_at s.heap.cells h) refl whole
    where
      by : (x : Option (List Value)) → words_at s.heap.cells h ≡ x → is_broken (cell_at table of p q s h x) ≡ false → IsThere s
      by None live whole = cc
      by (Some ws) live whole =
          let l = given_of (leaks_at table s (InCell h 0) of p) (leaks_never table s (InCell h 0) of p) (first_whole (leaks_at table s (InCell h 0) of p) (freed s ws) whole) in
          let next = next_whole (leaks_at table s (InCell h 0) of p) (freed s ws) l.0 (λ x. l.1) whole in
          let t = given_of (stored s q one null) (stored_never s q one null)
          (first_whole (stored s q one null) (λ t. Given (record { leaks = l.0; memory = without_cell t h (length ws) })) next) in
          record { words = ws; live = live; leaks = l.0; found = l.1; after = t.0; put = t.1 }

  there_is : (s : Slots) → (is : IsThere s) → named_at table of p q (suc h) s ≡ Given (record { leaks = is.leaks; memory = without_cell is.after h (length is.words) })
  there_is s is =
      ap (cell_at table of p q s h) is.live
      ∙ (ap (λ (x : Got (List Leak)). and_then x (freed s is.words)) is.found
      ∙ ap (λ (x : Got Slots). and_then x (λ t. Given (record { leaks = is.leaks; memory = without_cell t h (length is.words) }))) is.put)

  given_whole : {A : Type 0} (g : Got A) (a : A) → g ≡ Given a → is_broken g ≡ false
  given_whole g a e = ap is_broken e

  pub cell_checks : (m : Kept R) → Leavable Means m (named_at table of p q (suc h)) → Knows Means m (λ s. is_broken (leaks_at table s (InCell h 0) of p) ≡ false)
  cell_checks m is =
      let t = there (slots m is.ghosts) is.whole in
      (is.ghosts, (is.stands, given_whole (leaks_at table (slots m is.ghosts) (InCell h 0) of p) t.leaks t.found))

  pub cell_stops : {V : Type 0} (m : Kept R) (x : Stop) (old new : List Leak)
      → Always Means m (λ s. is_broken (leaks_at table s (InCell h 0) of p) ≡ false → Halted (leaks_at table s (InCell h 0) of p) x)
      → Leaving {U = V} Means m (named_at table of p q (suc h)) (Err x) old new m
  cell_stops m x old new finds = record {
    leaves = λ g stands whole no.
        let s : Slots = slots m g in
        let t = there s whole in
        absurd (leaks_never table s (InCell h 0) of p (stop_of x) (finds g stands (given_whole (leaks_at table s (InCell h 0) of p) t.leaks t.found) no));
  }

  pub cell_put : (m : Kept R) → Leavable Means m (named_at table of p q (suc h)) → Knows Means m (λ s. is_broken (stored s q one null) ≡ false)
  cell_put m is =
      let t = there (slots m is.ghosts) is.whole in
      (is.ghosts, (is.stands, given_whole (stored (slots m is.ghosts) q one null) t.after t.put))

  pub cell_free : (m n : Kept R) → Leavable Means m (named_at table of p q (suc h)) → Changes Means m (λ s. stored s q one null) n → Knows Means n (λ s. IsLive s.heap h)
  cell_free m n is changes =
      let s : Slots = slots m is.ghosts in
      let t = there s is.whole in
      let shows = changes is.ghosts is.stands t.after t.put in
      let live = stored_live s t.after q one null h t.words t.put t.live in
      (ghosts_of t.after, (shows.0, live_is t.after.heap h live.0 live.1))

  pub cell_leaves : {V : Type 0} (m n k : Kept R) (v : V) (old new : List Leak)
      → Always Means m (λ s. is_broken (leaks_at table s (InCell h 0) of p) ≡ false → Found (leaks_at table s (InCell h 0) of p) old new)
      → Changes Means m (λ s. stored s q one null) n → Always Means n (λ s. Frees Means s h k) → Leaving Means m (named_at table of p q (suc h)) (Ok v) old new k
  cell_leaves m n k v old new finds changes frees = record {
    leaves = λ g stands whole.
        let s : Slots = slots m g in
        let t = there s whole in
        let shows = changes g stands t.after t.put in
        let live = stored_live s t.after q one null h t.words t.put t.live in
        let released : Shows Means k (without_cell (slots n (ghosts_of t.after)) h (length live.0)) = frees (ghosts_of t.after) shows.0 live.0 live.1 in record {
          left = record { leaks = t.leaks; memory = without_cell t.after h (length t.words) };
          is = there_is s t;
          appended = found_is (leaks_at table s (InCell h 0) of p) t.leaks old new t.found (finds g stands (given_whole (leaks_at table s (InCell h 0) of p) t.leaks t.found));
          shows = subst (λ i. Shows Means k (without_cell t.after h i)) live.2 (subst (λ x. Shows Means k (without_cell x h (length live.0))) shows.1 released);
        };
  }

-- ---- an access value

module _ {R : Type 0} (Means : R → Heap → Type 0) (table : Table) (of : ℕ) (p : Pos) (q : Spot) where
  pub null_leaves : {U : Type 0} (m : Kept R) (u : U) (n : ℕ) (old : List Leak) → n ≡ 0 → Leaving Means m (named_at table of p q n) (Ok u) old old m
  null_leaves m u n old e = record {
    leaves = λ g stands whole. record {
      left = record { leaks = []; memory = slots m g };
      is = ap (named table of p q (slots m g)) e;
      appended = sym (none_found old);
      shows = (stands, refl);
    };
  }

  pub number_small : (m : Kept R) (n h : ℕ) → n ≡ suc h → Leavable Means m (named_at table of p q n) → h < 2 ^ 62
  number_small m n h e is =
      let t = there Means table of p q h (slots m is.ghosts) (subst (λ i. is_broken (named_at table of p q i (slots m is.ghosts)) ≡ false) e is.whole) in
      (is.stands.cells.sized h (length t.words) (size_words is.ghosts.heap.cells h t.words t.live)).small

  pub number_whole : (m : Kept R) (n h : ℕ) → n ≡ suc h → Leavable Means m (named_at table of p q n) → Leavable Means m (named_at table of p q (suc h))
  number_whole m n h e is = subst (λ i. Leavable Means m (named_at table of p q i)) e is

  pub number_leaves : {U : Type 0} (m k : Kept R) (n h : ℕ) (r : Result U Stop) (old new : List Leak) → n ≡ suc h
      → Leaving Means m (named_at table of p q (suc h)) r old new k → Leaving Means m (named_at table of p q n) r old new k
  number_leaves m k n h r old new e is = subst (λ i. Leaving Means m (named_at table of p q i) r old new k) (sym e) is

-- ---- a place

module _ {R : Type 0} (Means : R → Heap → Type 0) (table : Table) (l : Place) (of : ℕ) (p : Pos) where
  abbrev at_spot : Slots → Spot → Got (Left Slots)
  at_spot s q = and_then (held s q one) (released_at table of p q s)

  pub place_reads : (m : Kept R) → Leavable Means m (released table l of p) → ReadsSpot Means m l
  place_reads m is = record { ghosts = is.ghosts; stands = is.stands; whole = first_whole (spot (slots m is.ghosts) l) (at_spot (slots m is.ghosts)) is.whole }

  pub place_stops : {U : Type 0} (m : Kept R) (x : Stop) (old : List Leak) → GivesSpot Means m l (Err x) → Leaving {U = U} Means m (released table l of p) (Err x) old old m
  place_stops m x old gives = record {
    leaves = λ g stands whole no. record { stops = first_stops (spot (slots m g) l) (at_spot (slots m g)) (stop_of x) (gives.gives g stands) whole; same = refl };
  }

  at_place : (m : Kept R) (q : declared.Spot) → GivesSpot Means m l (Ok q) → (g : Ghosts) → Stands Means m g → is_broken (released table l of p (slots m g)) ≡ false
      → is_broken (at_spot (slots m g) (spot_of q)) ≡ false
  at_place m q gives g stands whole = next_whole (spot (slots m g) l) (at_spot (slots m g)) (spot_of q) (gives.gives g stands) whole

  pub word_there : (m : Kept R) (q : declared.Spot) → Leavable Means m (released table l of p) → GivesSpot Means m l (Ok q) → Knows Means m (λ s. is_broken (held s (spot_of q) one) ≡ false)
  word_there m q is gives =
      (is.ghosts, (is.stands, first_whole (held (slots m is.ghosts) (spot_of q) one) (released_at table of p (spot_of q) (slots m is.ghosts)) (at_place m q gives is.ghosts is.stands is.whole)))

  held_is : (m : Kept R) (q : declared.Spot) (w : ℤ) → GivesSpot Means m l (Ok q)
      → Always Means m (λ s. is_broken (held s (spot_of q) one) ≡ false → held s (spot_of q) one ≡ Given (w ∷ []))
      → (g : Ghosts) → Stands Means m g → is_broken (released table l of p (slots m g)) ≡ false
      → (released table l of p (slots m g) ≡ named_at table of p (spot_of q) (unsigned_abs w) (slots m g))
  held_is m q w gives holds g stands whole =
      let s : Slots = slots m g in
      let there = at_place m q gives g stands whole in
      ap (λ (x : Got Spot). and_then x (at_spot s)) (gives.gives g stands (first_whole (spot s l) (at_spot s) whole))
      ∙ ap (λ (x : Got (List ℤ)). and_then x (released_at table of p (spot_of q) s)) (holds g stands (first_whole (held s (spot_of q) one) (released_at table of p (spot_of q) s) there))

  pub word_known : (m : Kept R) (q : declared.Spot) (w : ℤ) → Leavable Means m (released table l of p) → GivesSpot Means m l (Ok q)
      → Always Means m (λ s. is_broken (held s (spot_of q) one) ≡ false → held s (spot_of q) one ≡ Given (w ∷ []))
      → Leavable Means m (named_at table of p (spot_of q) (unsigned_abs w))
  word_known m q w is gives holds = record {
    ghosts = is.ghosts;
    stands = is.stands;
    whole = subst (λ x. is_broken x ≡ false) (held_is m q w gives holds is.ghosts is.stands is.whole) is.whole;
  }

  pub word_leaves : {U : Type 0} (m k : Kept R) (q : declared.Spot) (w : ℤ) (r : Result U Stop) (old new : List Leak) → GivesSpot Means m l (Ok q)
      → Always Means m (λ s. is_broken (held s (spot_of q) one) ≡ false → held s (spot_of q) one ≡ Given (w ∷ []))
      → Leaving Means m (named_at table of p (spot_of q) (unsigned_abs w)) r old new k → Leaving Means m (released table l of p) r old new k
  word_leaves m k q w r old new gives holds leaving = record {
    leaves = λ g stands whole.
        let e = held_is m q w gives holds g stands whole in
        subst (λ got. Leaves Means m got r old new k) (sym e) (leaving.leaves g stands (subst (λ x. is_broken x ≡ false) e whole));
  }
