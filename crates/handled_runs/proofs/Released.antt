-- The law: cells are released alike over both heaps.
use Rattle.std.proofs.Common.{◌≡◌, refl, sym, ap, ◌∙◌, subst, ℕ, zero, suc, ◌+◌, Bool, true, false, ◌&&◌, nat_le, nat_lt, List, [], ◌∷◌, map, length, get_or, slice_get, Option, Some, None, ℤ, pos, negsuc, if◌then◌else◌}
use Rattle.std.proofs.lemmas.List.{length-map}
use Rattle.numbered_cells.specs.spark_base.declared.position.Pos.{Pos}
use Rattle.numbered_cells.specs.type_definitions.Types.{Table}
use Rattle.numbered_cells.specs.run_values.declared.value.Value.{Value}
use Rattle.numbered_cells.specs.run_values.declared.value.Kind.{Kind}
use Rattle.numbered_cells.specs.run_values.declared.value.Kind.TheVariants as sort
use Rattle.numbered_cells.specs.machine.Words.{access_offsets}
use Rattle.numbered_cells.specs.machine.Evaluate.{Touched, Twice}
use Rattle.numbered_cells.specs.slot_heap.Heaps.{words_at}
use Rattle.numbered_cells.specs.kept_cells.Cells as numbered
use Rattle.numbered_cells.specs.kept_cells.Cells.{Cell}
use Rattle.numbered_cells.specs.Follows.{handled, IsThere}
use Rattle.numbered_cells.specs.run_codes.Codes.{Place}
use Rattle.numbered_cells.specs.run_codes.Flat.{Flat, Got, Given, Stops, Broken, Traps, and_then, kinds, most_cells, are_pointers, are_words, are_in, touched, with_words, values, spliced, Spot, InStack, InCell}
use Rattle.numbered_cells.specs.run_codes.Flat as flat
use Rattle.numbered_cells.specs.run_codes.Points as points
use Rattle.handled_runs.specs.Slots.{Slots}
use Rattle.handled_runs.specs.Slots as slots
use Rattle.handled_runs.specs.Changes.{stored, without_cell}
use Rattle.handled_runs.specs.Leaks.{leaks_at, AreLeaked}
use Rattle.handled_runs.specs.Assigned.{Left, AreLeft, LeftAlike}
use Rattle.handled_runs.specs.Released.{flat_freed, flat_cell, flat_at, flat_released, cell_at, released_at, released, IsOwner, LooksFor}
use Rattle.handled_runs.specs.Beside.{GotsAlike, handle_word, all_renamed, spot_renamed, Beside}
use Rattle.handled_runs.specs.Alike.{StandAt}
use Rattle.handled_runs.proofs.Gots.{gots_then, given_both}
use Rattle.handled_runs.specs.Looks.{IsKept, AreKept, IsClear}
use Rattle.handled_runs.proofs.Kept.{words_kept}
use Rattle.handled_runs.proofs.Places.{spot_gots}
use Rattle.handled_runs.proofs.Standing.{stack_words, cell_words_same}
use Rattle.handled_runs.proofs.There.{words_silent, words_there, stored_gots}
use Rattle.handled_runs.proofs.Cells.{cell_freed}
use Rattle.handled_runs.proofs.Leaks.{leaks_gots}

-- ---- a cell is there after a store

changed_stays : (f : List Value → List Value) (cells : List Cell) (i k : ℕ) (ws : List Value) → IsThere cells k ws
    → (us : List Value) × IsThere (numbered.changed (λ (c : Cell). record c { words = f c.words }) cells i) k us
changed_stays f [] i k ws there = cc
changed_stays f (c ∷ cells) zero zero ws there = (f ws, (let same : c ≡ record { words = ws; freed = false } = cc in ap (λ (d : Cell). Some (record d { words = f d.words })) same))
changed_stays f (c ∷ cells) zero (suc k) ws there = (ws, there)
changed_stays f (c ∷ cells) (suc i) zero ws there = (ws, there)
changed_stays f (c ∷ cells) (suc i) (suc k) ws there = changed_stays f cells i k ws there

stored_stays : (m : Flat) (q : Spot) (ks : List Kind) (zs : List ℤ) (n : Flat) (k : ℕ) (ws : List Value) → flat.stored m q ks zs ≡ Given n → IsThere m.cells k ws
    → (us : List Value) × IsThere n.cells k us
stored_stays m (InStack i) ks zs n k ws e there = by (nat_le (i + length zs) (length m.stack)) e
  where
    by : (b : Bool) → (if b then Given (flat.with_stack m (spliced i zs m.stack)) else Broken) ≡ Given n → (us : List Value) × IsThere n.cells k us
    by true f = let same : flat.with_stack m (spliced i zs m.stack) ≡ n = cc in (ws, subst (λ (x : Flat). IsThere x.cells k ws) same there)
    by false f = cc
stored_stays m (InCell i o) ks zs n k ws e there = by (slice_get m.cells i) e
  where
    at : (a : Bool) → (if a then Given (with_words m i o (values ks zs)) else Broken) ≡ Given n → (us : List Value) × IsThere n.cells k us
    at true f =
        let same : with_words m i o (values ks zs) ≡ n = cc in
        let stays = changed_stays (spliced o (values ks zs)) m.cells i k ws there in
        (stays.0, subst (λ (x : Flat). IsThere x.cells k stays.0) same stays.1)
    at false f = cc

    by : (c : Option Cell) → touched c (λ (d : Cell). if are_words ks zs && are_in o ks d then Given (with_words m i o (values ks zs)) else Broken) ≡ Given n → (us : List Value) × IsThere n.cells k us
    by None f = cc
    by (Some c) f = of_cell c.freed f
      where
        of_cell : (b : Bool) → (if b then Stops (flat.Traps Touched) else (if are_words ks zs && are_in o ks c then Given (with_words m i o (values ks zs)) else Broken)) ≡ Given n
            → (us : List Value) × IsThere n.cells k us
        of_cell true f = cc
        of_cell false f = at (are_words ks zs && are_in o ks c) f

-- ---- the law

module _ (handles : List ℕ) (here taken : List Kind) (m : Flat) (s : Slots) (beside : Beside handles here taken m s) (clear : IsClear here taken m) where
  abbrev one : List Kind
  one = sort.Access ∷ []

  held_there : (q : Spot) (zs : List ℤ) → StandAt m here q one → flat.words_at m q one ≡ Given zs → (slots.held s (spot_renamed handles q) one ≡ Given (all_renamed handles one zs))
  held_there (InStack n) zs stand e = stack_words handles here taken m s beside n one zs stand.0 e
  held_there (InCell n o) zs stand e = let there = words_there m n o one zs e in (cell_words_same handles here taken m s beside n o there.0 one zs there.1 e).0

  words_gots : (q : Spot) → StandAt m here q one → GotsAlike (λ zs us. us ≡ all_renamed handles one zs) (flat.words_at m q one) (slots.held s (spot_renamed handles q) one)
  words_gots q stand =
      given_both (λ zs us. us ≡ all_renamed handles one zs) (flat.words_at m q one) (slots.held s (spot_renamed handles q) one) (words_silent m q one)
      (λ zs e. (all_renamed handles one zs, held_there q zs stand e, refl))

  module _ (table : Table) (of : ℕ) (at : Pos) (are : are_pointers (kinds table of) (access_offsets table of) ≡ true) where
    abbrev Alike : Got (Left Flat) → Got (Left Slots) → Type 0
    Alike = LeftAlike handles here taken

    freed_alike : (q : Spot) (k : ℕ) (ws : List Value) → StandAt m here q one → IsThere m.cells k ws
        → ((zs : List ℤ) → flat.words_at m (InCell k 0) (kinds table of) ≡ Given zs → AreLeaked m.cells zs (access_offsets table of))
        → Alike (flat_freed table of at q m k (record { words = ws; freed = false })) (cell_at table of at (spot_renamed handles q) s (get_or handles k 0) (Some (map (handled handles) ws)))
    freed_alike q k ws stand there leaked =
        gots_then (λ a b. b ≡ a) (AreLeft handles here taken) (points.leaks_at table m (InCell k 0) of at) (leaks_at table s (InCell (get_or handles k 0) 0) of at)
        (λ leaks. and_then (flat.stored m q one (pos 0 ∷ [])) (λ n. Given (record { leaks = leaks; memory = flat.without_cell n k (length ws) })))
        (λ leaks. and_then (stored s (spot_renamed handles q) one (pos 0 ∷ [])) (λ t. Given (record { leaks = leaks; memory = without_cell t (get_or handles k 0) (length (map (handled handles) ws)) })))
        (leaks_gots handles here taken m s beside table (InCell k 0) of at tt are leaked)
        (λ leaks ls checked same.
        gots_then (Beside handles here taken) (AreLeft handles here taken) (flat.stored m q one (pos 0 ∷ [])) (stored s (spot_renamed handles q) one (pos 0 ∷ []))
        (λ n. Given (record { leaks = leaks; memory = flat.without_cell n k (length ws) })) (λ t. Given (record { leaks = ls; memory = without_cell t (get_or handles k 0) (length (map (handled handles) ws)) }))
        (stored_gots handles here taken m s beside q one (pos 0 ∷ []) stand refl (tt, tt))
        (λ n t kept both.
        let stays = stored_stays m q one (pos 0 ∷ []) n k ws kept there in (
          same,
          subst (λ l. Beside handles here taken (flat.without_cell n k (length ws)) (without_cell t (get_or handles k 0) l)) (sym (length-map ws (handled handles)))
              (cell_freed handles here taken n t both k (length ws) stays.0 stays.1),
        )))

    cell_alike : (q : Spot) (k : ℕ) (x : Option Cell) → slice_get m.cells k ≡ x → StandAt m here q one
        → ((zs : List ℤ) → flat.words_at m (InCell k 0) (kinds table of) ≡ Given zs → AreLeaked m.cells zs (access_offsets table of))
        → Alike (flat_cell table of at q m k x) (cell_at table of at (spot_renamed handles q) s (get_or handles k 0) (words_at s.heap.cells (get_or handles k 0)))
    cell_alike q k None found stand leaked = tt
    cell_alike q k (Some c) found stand leaked = by (nat_lt k most_cells)
      where
        slots_freed : Got (Left Slots)
        slots_freed = cell_at table of at (spot_renamed handles q) s (get_or handles k 0) (words_at s.heap.cells (get_or handles k 0))

        there_by : c.freed ≡ false → Alike (flat_freed table of at q m k c) (cell_at table of at (spot_renamed handles q) s (get_or handles k 0) (words_at s.heap.cells (get_or handles k 0)))
        there_by e =
            let whole : c ≡ record { words = c.words; freed = false } = ap (λ b. record { words = c.words; freed = b }) e in
            let there : IsThere m.cells k c.words = found ∙ ap Some whole in
            subst (λ d. Alike (flat_freed table of at q m k d) (cell_at table of at (spot_renamed handles q) s (get_or handles k 0) (words_at s.heap.cells (get_or handles k 0)))) (sym whole)
            (subst (λ x. Alike (flat_freed table of at q m k (record { words = c.words; freed = false })) (cell_at table of at (spot_renamed handles q) s (get_or handles k 0) x)) (sym (beside.cells.live k c.words there))
            (freed_alike q k c.words stand there leaked))

        freed_by : (b : Bool) → c.freed ≡ b → Alike (flat_freed table of at q m k c) (cell_at table of at (spot_renamed handles q) s (get_or handles k 0) (words_at s.heap.cells (get_or handles k 0)))
        freed_by true e =
            subst (λ b. Alike (if b then Stops (Traps Twice)
            else and_then (points.leaks_at table m (InCell k 0) of at) (λ leaks. and_then (flat.stored m q one (pos 0 ∷ [])) (λ n. Given (record { leaks = leaks; memory = flat.without_cell n k (length c.words) }))))
            (cell_at table of at (spot_renamed handles q) s (get_or handles k 0) (words_at s.heap.cells (get_or handles k 0)))) (sym e) tt
        freed_by false e = there_by e

        by : (b : Bool) → Alike (if b then flat_freed table of at q m k c else Broken) (cell_at table of at (spot_renamed handles q) s (get_or handles k 0) (words_at s.heap.cells (get_or handles k 0)))
        by true = freed_by c.freed refl
        by false = tt

    named_alike : (q : Spot) (z : ℤ) → StandAt m here q one → IsKept z → IsOwner table m of z → Alike (flat_at table of at q m (z ∷ [])) (released_at table of at (spot_renamed handles q) s (handle_word handles z ∷ []))
    named_alike q (pos zero) stand kept is = (refl, beside)
    named_alike q (negsuc k) stand kept is = absurd kept
    named_alike q (pos (suc k)) stand kept is = cell_alike q k (slice_get m.cells k) refl stand is

    words_alike : (q : Spot) (zs : List ℤ) → StandAt m here q one → AreKept one zs → ((z : ℤ) → zs ≡ z ∷ [] → IsOwner table m of z) → Alike (flat_at table of at q m zs) (released_at table of at (spot_renamed handles q) s (all_renamed handles one zs))
    words_alike q [] stand kept is = tt
    words_alike q (z ∷ []) stand kept is = named_alike q z stand kept.0 (is z refl)
    words_alike q (z ∷ y ∷ zs) stand kept is = tt

    pub released_alike : (p : Place) → LooksFor table m here taken p of → Alike (flat_released table p of at m) (released table p of at s)
    released_alike p looks =
        gots_then (λ q r. r ≡ spot_renamed handles q) (AreLeft handles here taken) (flat.spot m p) (slots.spot s p) (λ q. and_then (flat.words_at m q one) (flat_at table of at q m))
        (λ q. and_then (slots.held s q one) (released_at table of at q s)) (spot_gots handles here taken m s beside clear p looks.0)
        (λ q r found same.
        subst (λ x. Alike (and_then (flat.words_at m q one) (flat_at table of at q m)) (and_then (slots.held s x one) (released_at table of at x s))) (sym same)
        (gots_then (λ zs us. us ≡ all_renamed handles one zs) (AreLeft handles here taken) (flat.words_at m q one) (slots.held s (spot_renamed handles q) one) (flat_at table of at q m)
        (released_at table of at (spot_renamed handles q) s) (words_gots q (looks.1 q found).0)
        (λ zs us e words.
        subst (λ x. Alike (flat_at table of at q m zs) (released_at table of at (spot_renamed handles q) s x)) (sym words)
        (words_alike q zs (looks.1 q found).0 (words_kept here taken m clear q one zs (looks.1 q found).0 e) (λ z is. (looks.1 q found).1 z (e ∙ ap Given is))))))
