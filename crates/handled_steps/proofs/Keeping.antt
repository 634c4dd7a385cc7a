-- What changes over the heap keeps, of counts of cells and slots.
use Rattle.std.proofs.Common.{◌≡◌, refl, sym, subst, ℕ, zero, suc, ◌+◌, ◌&&◌, Bool, true, false, nat_le, List, [], ◌∷◌, ◌++◌, drop, length, Option, Some, None, ℤ, pos, if◌then◌else◌}
use Rattle.std.specs.Prelude.{unsigned_abs}
use Rattle.handled_runs.specs.spark_base.declared.position.Pos.{Pos}
use Rattle.handled_runs.specs.type_definitions.Types.{Table}
use Rattle.handled_runs.specs.run_values.declared.value.Value.{Value}
use Rattle.handled_runs.specs.run_values.declared.value.Value.TheVariants as value
use Rattle.handled_runs.specs.run_values.declared.value.Kind.{Kind}
use Rattle.handled_runs.specs.run_values.declared.value.Kind.TheVariants as sort
use Rattle.handled_runs.specs.machine.Words.{access_offsets}
use Rattle.handled_runs.specs.machine.Evaluate.{heap_words}
use Rattle.handled_runs.specs.machine.States.{Leak}
use Rattle.handled_runs.specs.machine.Memory.{Peak}
use Rattle.handled_runs.specs.slot_heap.Heaps.{Heap, words_at, written, allocated, released as freed}
use Rattle.handled_runs.specs.run_codes.Codes.{Place, Fill, Checked, Pointer, MovedPointer, Copied, Moved, Waited, New, Default, Repeated, Both, Empty}
use Rattle.handled_runs.specs.run_codes.Flat.{Got, Given, Stops, Broken, and_then, checked, some_words, repeated, kinds, spliced, have_kinds, are_pointers, Spot, InStack, InCell}
use Rattle.handled_runs.specs.Fits.{are_slot_words}
use Rattle.handled_runs.specs.Slots.{Move, Slots, word, spot, held, front}
use Rattle.handled_runs.specs.Changes.{slot_values, written_all, cell_stored, stored, nulled, cell_emptied, emptied, all_null, with_peak, without_cell, with_stack, moving, all_emptied, settled}
use Rattle.handled_runs.specs.Leaks.{leaks_at}
use Rattle.handled_runs.specs.Assigned.{Left, checked_at, assigned}
use Rattle.handled_runs.specs.Released.{cell_at, named, released_at, released}
use Rattle.handled_runs.specs.Values.{Outcome, Gives, Ends, Fails, reads, moves, Then, MakesCell, MakesWhere, Makes, Fills}
use Rattle.handled_steps.specs.States.{Outcome as Stepped, Goes, Ends as Ended, Wants, Fails as Failed}

-- ---- what is kept

-- Of a heap, of the greatest counts and of the sizes of the cells that were made: until the point makes a cell; in its
-- course; after it; and as a run ends.
pub record Keeping (before : Slots) : Type 1 where
  pub still : Heap → List Peak → List ℕ → Type 0
  pub mid : Heap → List Peak → List ℕ → Type 0
  pub after : Heap → List Peak → List ℕ → Type 0
  pub end : Heap → List Peak → List ℕ → Type 0
  pub still_written : (m : Heap) (p : List Peak) (x : List ℕ) (h o : ℕ) (v : Value) → still m p x → still (written m h o v) p x
  pub mid_written : (m : Heap) (p : List Peak) (x : List ℕ) (h o : ℕ) (v : Value) → mid m p x → mid (written m h o v) p x
  pub begins : (m : Heap) (p : List Peak) (x : List ℕ) → still m p x → mid m p x
  pub makes : (m : Heap) (p : List Peak) (x : List ℕ) (h : ℕ) (ws : List Value) → mid m p x → mid (allocated m h ws) (with_peak (allocated m h ws) ws p) (x ++ length ws ∷ [])
  pub frees : (m : Heap) (p : List Peak) (x : List ℕ) (h : ℕ) → still m p x → after (freed m h) p x
  pub goes : (m : Heap) (p : List Peak) (x : List ℕ) → mid m p x → after m p x
  pub ends : (m : Heap) (p : List Peak) (x : List ℕ) → mid m p x → end m p x
  pub gives_up : (m : Heap) (p : List Peak) (x : List ℕ) → mid m p x → end (record { cells = before.heap.cells; slots = m.slots }) p (before.sizes ++ drop (length before.sizes) x)

abbrev pub Still : {before : Slots} → Keeping before → Slots → Type 0
Still z s = z.still s.heap s.peaks s.sizes

abbrev pub Mid : {before : Slots} → Keeping before → Slots → Type 0
Mid z s = z.mid s.heap s.peaks s.sizes

abbrev pub After : {before : Slots} → Keeping before → Slots → Type 0
After z s = z.after s.heap s.peaks s.sizes

abbrev pub End : {before : Slots} → Keeping before → Slots → Type 0
End z s = z.end s.heap s.peaks s.sizes

-- After a step, and as a run ends.
abbrev pub EndsKept : {before : Slots} → Keeping before → Stepped → Type 0
EndsKept z (Goes s) = After z s.memory
EndsKept z (Ended e s) = End z s.memory
EndsKept z Wants = Unit {0}
EndsKept z Failed = Unit {0}

-- ---- stores

-- What writing words keeps.
module _ (K : Heap → List Peak → List ℕ → Type 0) (writes : (m : Heap) (p : List Peak) (x : List ℕ) (h o : ℕ) (v : Value) → K m p x → K (written m h o v) p x) where
  abbrev Holds : Slots → Type 0
  Holds s = K s.heap s.peaks s.sizes

  written_keeps : (m : Heap) (p : List Peak) (x : List ℕ) (h o : ℕ) (vs : List Value) → K m p x → K (written_all m h o vs) p x
  written_keeps m p x h o [] keeps = keeps
  written_keeps m p x h o (v ∷ vs) keeps = written_keeps (written m h o v) p x h (suc o) vs (writes m p x h o v keeps)

  nulled_keeps : (m : Heap) (p : List Peak) (x : List ℕ) (h o : ℕ) (gone : List ℕ) → K m p x → K (nulled m h o gone) p x
  nulled_keeps m p x h o [] keeps = keeps
  nulled_keeps m p x h o (g ∷ gone) keeps = nulled_keeps (written m h (o + g) value.Null) p x h o gone (writes m p x h (o + g) value.Null keeps)

  -- What is given keeps it.
  abbrev pub GivesHeld : Got Slots → Type 0
  GivesHeld g = (t : Slots) → g ≡ Given t → Holds t

  given_keeps : (s t : Slots) → Holds s → Given s ≡ Given t → Holds t
  given_keeps s t keeps e = let same : s ≡ t = cc in subst Holds same keeps

  module _ (s : Slots) (keeps : Holds s) where
    if_keeps : (b : Bool) (g : Got Slots) → GivesHeld g → GivesHeld (if b then g else Broken)
    if_keeps true g on t e = on t e
    if_keeps false g on t e = cc

    heap_keeps : (b : Bool) (heap : Heap) → K heap s.peaks s.sizes → GivesHeld (if b then Given (record s { heap = heap }) else Broken)
    heap_keeps b heap kept = if_keeps b (Given (record s { heap = heap })) (λ t e. given_keeps (record s { heap = heap }) t kept e)

    cell_keeps : (h o : ℕ) (ks : List Kind) (zs : List ℤ) (x : Option (List Value)) → GivesHeld (cell_stored s h o ks zs x)
    cell_keeps h o ks zs None t e = cc
    cell_keeps h o ks zs (Some ws) t e =
        heap_keeps (are_slot_words ks zs && have_kinds ks (drop o ws)) (written_all s.heap h o (slot_values ks zs)) (written_keeps s.heap s.peaks s.sizes h o (slot_values ks zs) keeps) t e

    stack_keeps : (zs : List ℤ) (b : Bool) → GivesHeld (if b then Given (with_stack s zs) else Broken)
    stack_keeps zs true t e = given_keeps (with_stack s zs) t keeps e
    stack_keeps zs false t e = cc

    pub stored_keeps : (q : Spot) (ks : List Kind) (zs : List ℤ) → GivesHeld (stored s q ks zs)
    stored_keeps (InStack n) ks zs = stack_keeps (spliced n zs s.stack) (nat_le (n + length zs) (length s.stack))
    stored_keeps (InCell h o) ks zs = cell_keeps h o ks zs (words_at s.heap.cells h)

    front_keeps : (n : ℕ) (gone : List ℕ) (g : Got (List ℤ)) → GivesHeld (and_then g (λ zs. Given (with_stack s (spliced n (all_null gone zs) s.stack))))
    front_keeps n gone (Given zs) t e = given_keeps (with_stack s (spliced n (all_null gone zs) s.stack)) t keeps e
    front_keeps n gone (Stops x) t e = cc
    front_keeps n gone Broken t e = cc

    nulls_keep : (h o : ℕ) (ks : List Kind) (gone : List ℕ) (x : Option (List Value)) → GivesHeld (cell_emptied s h o ks gone x)
    nulls_keep h o ks gone None t e = cc
    nulls_keep h o ks gone (Some ws) t e =
        heap_keeps (are_pointers ks gone && have_kinds ks (drop o ws)) (nulled s.heap h o gone) (nulled_keeps s.heap s.peaks s.sizes h o gone keeps) t e

    emptied_keeps : (q : Spot) (ks : List Kind) (gone : List ℕ) → GivesHeld (emptied s q ks gone)
    emptied_keeps (InStack n) ks gone =
        if_keeps (are_pointers ks gone) (and_then (front ks (drop n s.stack)) (λ zs. Given (with_stack s (spliced n (all_null gone zs) s.stack)))) (front_keeps n gone (front ks (drop n s.stack)))
    emptied_keeps (InCell h o) ks gone = nulls_keep h o ks gone (words_at s.heap.cells h)

  all_keeps : (qs : List Move) (s : Slots) → Holds s → (t : Slots) → all_emptied qs s ≡ Given t → Holds t
  all_keeps [] s keeps t e = let same : s ≡ t = cc in subst Holds same keeps
  all_keeps (q ∷ qs) s keeps t e = by (emptied s q.at q.kinds q.offsets) (emptied_keeps s keeps q.at q.kinds q.offsets) e (λ i kept f. all_keeps qs i kept t f)
    where
      by : (g : Got Slots) → ((i : Slots) → g ≡ Given i → Holds i) → and_then g (all_emptied qs) ≡ Given t → ((i : Slots) → Holds i → all_emptied qs i ≡ Given t → Holds t) → Holds t
      by (Given i) kept f on = on i (kept i refl) f
      by (Stops x) kept f on = cc
      by Broken kept f on = cc

  pub settled_keeps : (s : Slots) → Holds s → (t : Slots) → settled s ≡ Given t → Holds t
  settled_keeps s keeps t e = all_keeps s.moves (record s { moves = [] }) keeps t e

module _ (before : Slots) (z : Keeping before) where
  abbrev pub GivesMid : Got Slots → Type 0
  GivesMid g = (t : Slots) → g ≡ Given t → Mid z t

  pub mid_stored : (s : Slots) → Mid z s → (q : Spot) (ks : List Kind) (zs : List ℤ) → GivesMid (stored s q ks zs)
  mid_stored s keeps = stored_keeps z.mid z.mid_written s keeps

  pub mid_settled : (s : Slots) → Mid z s → (t : Slots) → settled s ≡ Given t → Mid z t
  mid_settled = settled_keeps z.mid z.mid_written

  -- ---- values

  abbrev pub FillsMid : Outcome → Type 0
  FillsMid (Gives us t) = Mid z t
  FillsMid (Ends x t) = Mid z t
  FillsMid Fails = Unit {0}

  reads_keep : {A : Type 0} (s : Slots) → Mid z s → (g : Got A) (f : A → Outcome) → ((a : A) → g ≡ Given a → FillsMid (f a)) → FillsMid (reads s g f)
  reads_keep s keeps (Given a) f on = on a refl
  reads_keep s keeps (Stops x) f on = keeps
  reads_keep s keeps Broken f on = tt

  then_keep : (g r : Outcome) (P : List ℤ → Slots → Type 0) → FillsMid g → Then g P r → ((zs : List ℤ) (t : Slots) → Mid z t → P zs t → FillsMid r) → FillsMid r
  then_keep (Gives zs t) r P keeps so on = on zs t keeps so
  then_keep (Ends x t) r P keeps so on = subst FillsMid (sym so) keeps
  then_keep Fails r P keeps so on = subst FillsMid (sym so) tt

  cell_makes : (b : Bool) (s : Slots) (ks : List Kind) (zs : List ℤ) (r : Outcome) → Mid z s → MakesCell b s ks zs r → FillsMid r
  cell_makes true s ks zs (Gives us t) keeps (h, new, less, word, is, few) = subst (Mid z) (sym is) (z.makes s.heap s.peaks s.sizes h (slot_values ks zs) keeps)
  cell_makes true s ks zs (Ends x t) keeps is = subst (Mid z) (sym is.1) keeps
  cell_makes true s ks zs Fails keeps is = tt
  cell_makes false s ks zs r keeps is = subst FillsMid (sym is) keeps

  where_makes : (b : Bool) (P : Type 0) (r : Outcome) → MakesWhere b P r → (P → FillsMid r) → FillsMid r
  where_makes true P r makes on = on makes
  where_makes false P r makes on = subst FillsMid (sym makes) tt

  moves_keep : (s : Slots) → Mid z s → (g : Got Spot) (ks : List Kind) (gone : List ℕ) → FillsMid (moves s g ks gone)
  moves_keep s keeps g ks gone =
      reads_keep s keeps g (λ p. reads s (held s p ks) (λ zs. Gives zs (moving s p ks gone)))
      (λ p found. reads_keep s keeps (held s p ks) (λ zs. Gives zs (moving s p ks gone)) (λ zs at. keeps))

  pub fill_mid : (table : Table) (v : Fill) (s : Slots) (r : Outcome) → Mid z s → Fills table v s r → FillsMid r
  unfolding Fills
  fill_mid table (Checked c low high) s r keeps so = subst FillsMid (sym so) (reads_keep s keeps (and_then (word s c) (checked low high)) (λ w. Gives (w ∷ []) s) (λ w e. keeps))
  fill_mid table (Pointer c) s r keeps so = subst FillsMid (sym so) (reads_keep s keeps (word s c) (λ w. Gives (w ∷ []) s) (λ w e. keeps))
  fill_mid table (MovedPointer p) s r keeps so = subst FillsMid (sym so) (moves_keep s keeps (spot s p) (sort.Access ∷ []) (0 ∷ []))
  fill_mid table (Copied p of) s r keeps so =
      subst FillsMid (sym so)
      (reads_keep s keeps (spot s p) (λ q. reads s (held s q (kinds table of)) (λ zs. Gives zs s)) (λ q e. reads_keep s keeps (held s q (kinds table of)) (λ zs. Gives zs s) (λ zs at. keeps)))
  fill_mid table (Moved p of) s r keeps so = subst FillsMid (sym so) (moves_keep s keeps (spot s p) (kinds table of) (access_offsets table of))
  fill_mid table (Waited at n) s r keeps so = subst FillsMid (sym so) (reads_keep s keeps (some_words n (drop at s.waits)) (λ zs. Gives zs s) (λ zs e. keeps))
  fill_mid table (New v of) s r keeps (g, fills, so) =
      then_keep g r (λ zs t. Makes t (kinds table of) zs r) (fill_mid table v s g keeps fills) so
      (λ zs t kept makes.
      where_makes (are_slot_words (kinds table of) zs) (MakesCell (nat_le (t.live + length zs) heap_words) t (kinds table of) zs r) r makes
      (cell_makes (nat_le (t.live + length zs) heap_words) t (kinds table of) zs r kept))
  fill_mid table (Default of) s r keeps so = subst FillsMid (sym so) keeps
  fill_mid table (Repeated v n) s r keeps (g, fills, so) =
      then_keep g r (λ zs t. r ≡ Gives (repeated n zs) t) (fill_mid table v s g keeps fills) so (λ zs t kept is. subst FillsMid (sym is) kept)
  fill_mid table (Both a b) s r keeps (g, fills, so) =
      then_keep g r (λ zs t. (q : Outcome) × Fills table b t q × Then q (λ us u. r ≡ Gives (zs ++ us) u) r) (fill_mid table a s g keeps fills) so
      (λ zs t kept more. then_keep more.0 r (λ us u. r ≡ Gives (zs ++ us) u) (fill_mid table b t more.0 kept more.1) more.2 (λ us u held is. subst FillsMid (sym is) held))
  fill_mid table Empty s r keeps so = subst FillsMid (sym so) keeps

  -- ---- values that go to places, and releases

  abbrev pub LeavesAfter : Got (Left Slots) → Type 0
  LeavesAfter g = (l : Left Slots) → g ≡ Given l → After z l.memory

  got_leaves : {A : Type 0} (g : Got A) (f : A → Got (Left Slots)) → ((a : A) → g ≡ Given a → LeavesAfter (f a)) → LeavesAfter (and_then g f)
  got_leaves (Given a) f on = on a refl
  got_leaves (Stops x) f on = λ l e. cc
  got_leaves Broken f on = λ l e. cc

  left_keeps : (leaks : List Leak) (t : Slots) → After z t → LeavesAfter (Given (record { leaks = leaks; memory = t }))
  left_keeps leaks t keeps l e = let same : record { leaks = leaks; memory = t } ≡ l = cc in subst (λ (x : Left Slots). After z x.memory) same keeps

  pub assigned_after : (table : Table) (p : Place) (of : ℕ) (checks : Option Pos) (zs : List ℤ) (s : Slots) → Mid z s → LeavesAfter (assigned table p of checks zs s)
  assigned_after table p of checks zs s keeps =
      got_leaves (spot s p) (λ q. and_then (settled s)
      (λ k. and_then (checked_at table k q of checks) (λ leaks. and_then (stored k q (kinds table of) zs) (λ t. Given (record { leaks = leaks; memory = t })))))
      (λ q found. got_leaves (settled s) (λ k. and_then (checked_at table k q of checks) (λ leaks. and_then (stored k q (kinds table of) zs) (λ t. Given (record { leaks = leaks; memory = t }))))
      (λ k done. got_leaves (checked_at table k q of checks) (λ leaks. and_then (stored k q (kinds table of) zs) (λ t. Given (record { leaks = leaks; memory = t })))
      (λ leaks at. got_leaves (stored k q (kinds table of) zs) (λ t. Given (record { leaks = leaks; memory = t }))
      (λ t e. left_keeps leaks t (z.goes t.heap t.peaks t.sizes (mid_stored k (mid_settled s keeps k done) q (kinds table of) zs t e))))))

  module _ (table : Table) (of : ℕ) (at : Pos) (q : Spot) (s : Slots) (keeps : Still z s) where
    freed_keeps : (h : ℕ) (x : Option (List Value)) → LeavesAfter (cell_at table of at q s h x)
    freed_keeps h None = λ l e. cc
    freed_keeps h (Some ws) =
        got_leaves (leaks_at table s (InCell h 0) of at) (λ leaks. and_then (stored s q (sort.Access ∷ []) (pos 0 ∷ [])) (λ t. Given (record { leaks = leaks; memory = without_cell t h (length ws) })))
        (λ leaks found. got_leaves (stored s q (sort.Access ∷ []) (pos 0 ∷ [])) (λ t. Given (record { leaks = leaks; memory = without_cell t h (length ws) }))
        (λ t e. left_keeps leaks (without_cell t h (length ws)) (z.frees t.heap t.peaks t.sizes h (stored_keeps z.still z.still_written s keeps q (sort.Access ∷ []) (pos 0 ∷ []) t e))))

    named_keeps : (h : ℕ) → LeavesAfter (named table of at q s h)
    named_keeps zero = left_keeps [] s (z.goes s.heap s.peaks s.sizes (z.begins s.heap s.peaks s.sizes keeps))
    named_keeps (suc h) = freed_keeps h (words_at s.heap.cells h)

    words_keep : (zs : List ℤ) → LeavesAfter (released_at table of at q s zs)
    words_keep [] = λ l e. cc
    words_keep (w ∷ []) = named_keeps (unsigned_abs w)
    words_keep (w ∷ v ∷ rest) = λ l e. cc

  pub released_after : (table : Table) (p : Place) (of : ℕ) (at : Pos) (s : Slots) → Still z s → LeavesAfter (released table p of at s)
  released_after table p of at s keeps =
      got_leaves (spot s p) (λ q. and_then (held s q (sort.Access ∷ [])) (released_at table of at q s))
      (λ q found. got_leaves (held s q (sort.Access ∷ [])) (released_at table of at q s) (λ zs e. words_keep table of at q s keeps zs))
