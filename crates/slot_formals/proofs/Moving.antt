-- What is moved, and which leaks are told, one actual after the other.
use Rattle.std.proofs.Common.{◌≡◌, ℕ, ◌+◌, ◌≤◌, ◌<◌, inl, inr, List, [], ◌∷◌, ◌++◌, map, length, drop, get_or, min, refl, sym, ap, subst, ◌∙◌, append_assoc, append-nil, ℤ}
use Rattle.std.proofs.lemmas.List.{drop_all}
use Rattle.type_definitions.specs.Types.{Table}
use Rattle.machine.specs.States.{Leak}
use Rattle.slot_heap.specs.Heaps.{Heap}
use Rattle.run_codes.specs.Flat.{Got, Given, and_then}
use Rattle.run_codes.specs.Points.{Passed, Value, FromSpot, ToSpot}
use Rattle.handled_runs.specs.Slots.{Slots}
use Rattle.handled_runs.specs.Leaks.{leaks_at}
use Rattle.handled_steps.specs.Steps.{out_leaks}
use Rattle.slot_memory.specs.Memory.{Kept, Ghosts, Stands, Shows, Changes, slots, ghosts_of}
use Rattle.slot_calls.specs.declared.actuals.Pass.{Pass}
use Rattle.slot_calls.specs.Calls.{passed_of}
use Rattle.slot_formals.specs.Formals.{placed, moved_one, all_moved, Tells}
use Rattle.slot_formals.specs.Leads.{Gives, Leads}
use Rattle.slot_formals.proofs.Leading.{taken, same_given}
use Rattle.slot_formals.proofs.Placing.{drop_one, either, none_moved}

module _ {R : Type 0} (Means : R → Heap → Type 0) where
  pub leads_same : {A : Type 0} (m : Kept R) (f h : Slots → Got A) → ((s : Slots) → f s ≡ h s) → Leads Means m f m h
  leads_same m f h same = record { on = λ g stands t is. (slots m g, (stands, refl), sym (same (slots m g)) ∙ is) }

  -- before the first formal
  pub placed_first : (m : Kept R) (table : Table) (base o : ℕ) (fs : List ℕ) (ps : List Pass) (zs : List ℤ) → o ≡ base
      → Leads Means m (placed table base fs (map (passed_of zs) ps)) m (λ s. placed table o (drop 0 fs) (map (passed_of zs) (drop 0 ps)) s)
  placed_first m table base o fs ps zs at =
      leads_same m (placed table base fs (map (passed_of zs) ps)) (λ s. placed table o (drop 0 fs) (map (passed_of zs) (drop 0 ps)) s)
      (λ s. ap (λ n. placed table n fs (map (passed_of zs) ps) s) (sym at))

  -- ---- what is moved

  abbrev pub Moves : Table → List ℕ → List Passed → Slots → Got Slots
  Moves table fs passed s = Given (all_moved table fs passed s)

  pub moves_first : (m : Kept R) (table : Table) (fs : List ℕ) (ps : List Pass) (zs : List ℤ)
      → Leads Means m (Moves table fs (map (passed_of zs) ps)) m (Moves table (drop 0 fs) (map (passed_of zs) (drop 0 ps)))
  moves_first m table fs ps zs = leads_same m (Moves table fs (map (passed_of zs) ps)) (Moves table (drop 0 fs) (map (passed_of zs) (drop 0 ps))) (λ s. refl)

  pub moves_on : (m n k : Kept R) (table : Table) (fs : List ℕ) (ps : List Pass) (i f : ℕ) (p : Pass) (zs : List ℤ) (all : Slots → Got Slots)
      → i < length fs → i < length ps → get_or ps i p ≡ p
      → Leads Means m all n (Moves table (drop i fs) (map (passed_of zs) (drop i ps))) → Changes Means n (λ s. Given (moved_one table (passed_of zs p) s)) k
      → Leads Means m all k (Moves table (drop (i + 1) fs) (map (passed_of zs) (drop (i + 1) ps)))
  moves_on m n k table fs ps i f p zs all lt_f lt_p is_p leads changes = record {
    on = λ g stands t is. (
        let (u, shows, left) = leads.on g stands t is in
        let one : Slots → Slots = moved_one table (passed_of zs p) in
        (one u, changes (ghosts_of u) shows.0 (one u) (ap (λ s. Given (one s)) shows.1), sym (first u) ∙ left));
  }
    where
      first : (s : Slots) → Moves table (drop i fs) (map (passed_of zs) (drop i ps)) s ≡ Moves table (drop (i + 1) fs) (map (passed_of zs) (drop (i + 1) ps)) (moved_one table (passed_of zs p) s)
      first s =
          ap (λ l. Moves table l (map (passed_of zs) (drop i ps)) s) (drop_one fs i f lt_f)
          ∙ ap (λ l. Moves table (get_or fs i f ∷ drop (i + 1) fs) (map (passed_of zs) l) s) (drop_one ps i p lt_p ∙ ap (λ x. x ∷ drop (i + 1) ps) is_p)

  pub moves_all : (m n : Kept R) (table : Table) (fs : List ℕ) (ps : List Pass) (i : ℕ) (zs : List ℤ) (all : Slots → Got Slots) → min (length fs) (length ps) ≤ i
      → Leads Means m all n (Moves table (drop i fs) (map (passed_of zs) (drop i ps))) → Changes Means m all n
  moves_all m n table fs ps i zs all le leads g stands t is =
      let (u, shows, left) = leads.on g stands t is in
      subst (λ w. Shows Means n w) (same_given u t (sym (done u) ∙ left)) shows
    where
      done : (s : Slots) → Moves table (drop i fs) (map (passed_of zs) (drop i ps)) s ≡ Given s
      done s =
          elim (either (length fs) (length ps) i le) [
            | inl few ↦ ap (λ l. Moves table l (map (passed_of zs) (drop i ps)) s) (drop_all i fs few)
            | inr few ↦ ap (λ l. Moves table (drop i fs) (map (passed_of zs) l) s) (drop_all i ps few) ∙ ap (λ x. Given x) (none_moved table (drop i fs) s)
          ]

-- ---- leaks

out_split : (table : Table) (s : Slots) (a : Passed) (rest : List Passed) (r : List Leak) → out_leaks table s (a ∷ rest) ≡ Given r
    → (x : List Leak) × (y : List Leak) × (out_leaks table s (a ∷ []) ≡ Given x) × (out_leaks table s rest ≡ Given y) × (x ++ y ≡ r)
out_split table s (Value zs) rest r is = ([], r, refl, is, refl)
out_split table s (FromSpot q of) rest r is = ([], r, refl, is, refl)
out_split table s (ToSpot q of p) rest r is =
    let (leaks, first, later) = taken (leaks_at table s q of p) (λ leaks. and_then (out_leaks table s rest) (λ more. Given (leaks ++ more))) r is in
    let (more, last, whole) = taken (out_leaks table s rest) (λ more. Given (leaks ++ more)) r later in (
      leaks ++ [],
      more,
      ap (λ g. and_then g (λ leaks. Given (leaks ++ []))) first,
      last,
      ap (λ l. l ++ more) (append-nil leaks) ∙ same_given (leaks ++ more) r whole,
    )

-- Some were told, and these are still to be told.
pub record TellsOn {R : Type 0} (Means : R → Heap → Type 0) (m : Kept R) (table : Table) (all left : List Passed) (before now : List Leak) : Type 0 where
  pub on : (g : Ghosts) → Stands Means m g → (t : List Leak) → out_leaks table (slots m g) all ≡ Given t
      → (r : List Leak) × (out_leaks table (slots m g) left ≡ Given r) × (now ++ r ≡ before ++ t)

module _ {R : Type 0} (Means : R → Heap → Type 0) (m : Kept R) (table : Table) (zs : List ℤ) (ps : List Pass) (before : List Leak) where
  abbrev all : List Passed
  all = map (passed_of zs) ps

  pub tells_first : TellsOn Means m table all (map (passed_of zs) (drop 0 ps)) before before
  tells_first = record { on = λ g stands t is. (t, is, refl) }

  module _ (i : ℕ) (p : Pass) (lt : i < length ps) (is_p : get_or ps i p ≡ p) (now : List Leak) (tells : TellsOn Means m table all (map (passed_of zs) (drop i ps)) before now) where
    left_is : map (passed_of zs) (drop i ps) ≡ passed_of zs p ∷ map (passed_of zs) (drop (i + 1) ps)
    left_is = ap (map (passed_of zs)) (drop_one ps i p lt ∙ ap (λ x. x ∷ drop (i + 1) ps) is_p)

    pub one_gives : Gives Means m (λ s. out_leaks table s all) → Gives Means m (λ s. out_leaks table s (passed_of zs p ∷ []))
    one_gives gives =
        let s : Slots = slots m gives.ghosts in
        let (r, left, told) = tells.on gives.ghosts gives.stands gives.after gives.is in
        let (x, y, first, rest, whole) = out_split table s (passed_of zs p) (map (passed_of zs) (drop (i + 1) ps)) r (sym (ap (out_leaks table s) left_is) ∙ left) in
        record { ghosts = gives.ghosts; stands = gives.stands; after = x; is = first }

    pub tells_next : (new : List Leak) → Tells Means m table (passed_of zs p ∷ []) now new → TellsOn Means m table all (map (passed_of zs) (drop (i + 1) ps)) before new
    tells_next new one = record {
      on = λ g stands t is. (
          let (r, left, told) = tells.on g stands t is in
          let (x, y, first, rest, whole) = out_split table (slots m g) (passed_of zs p) (map (passed_of zs) (drop (i + 1) ps)) r (sym (ap (out_leaks table (slots m g)) left_is) ∙ left) in
          (y, rest, ap (λ l. l ++ y) (one.told g stands x first) ∙ append_assoc now x y ∙ ap (λ l. now ++ l) whole ∙ told));
    }

  pub tells_all : (i : ℕ) (now : List Leak) → length ps ≤ i → TellsOn Means m table all (map (passed_of zs) (drop i ps)) before now → Tells Means m table all before now
  tells_all i now le tells = record {
    told = λ g stands t is. (
        let (r, left, told) = tells.on g stands t is in
        let none : Given [] ≡ Given r = sym (ap (λ l. out_leaks table (slots m g) (map (passed_of zs) l)) (drop_all i ps le)) ∙ left in
        sym (append-nil now) ∙ ap (λ l. now ++ l) (same_given [] r none) ∙ told);
  }
