-- Values that are assigned.
use Rattle.std.proofs.Common.{◌≡◌, ◌≢◌, refl, sym, ap, ◌∙◌, subst, ℕ, false, List, [], ◌∷◌, ◌++◌, Option, ℤ, Result, Ok, Err, OnOk, OnErr, IsErrOf}
use mathlib.Core.Logic.{inl, inr}
use Rattle.spark_base.specs.declared.position.Pos.{Pos}
use Rattle.type_definitions.specs.Types.{Table}
use Rattle.machine.specs.States.{Leak}
use Rattle.slot_heap.specs.Heaps.{Heap}
use Rattle.run_codes.specs.Codes.{Place, Fill}
use Rattle.run_codes.specs.Flat.{Got, Given, Stops, Spot, and_then, is_broken, kinds}
use Rattle.code_rows.specs.declared.stop.Stop.{Stop}
use Rattle.code_rows.specs.declared.stop.Stop.TheVariants as stop
use Rattle.code_rows.specs.Stops.{stop_of}
use Rattle.handled_runs.specs.Slots.{Slots, spot}
use Rattle.handled_runs.specs.Changes.{stored, settled}
use Rattle.handled_runs.specs.Values.{Gives, Fills}
use Rattle.handled_runs.specs.Assigned.{Left, checked_at, assigned}
use Rattle.slot_memory.specs.declared.spot.Spot as declared
use Rattle.slot_memory.specs.Spots.{spot_of}
use Rattle.slot_memory.specs.Memory.{Kept, Ghosts, Stands, Shows, Knows, Always, Changes, slots, ghosts_of}
use Rattle.slot_words.specs.Reading.{ReadsSpot, GivesSpot}
use Rattle.slot_words.proofs.Wholes.{first_whole, next_whole, first_stops}
use Rattle.slot_values.specs.Fillings.{Fillable, Filled}
use Rattle.slot_places.specs.Steps.{Leaves, Leavable, Leaving, stored_leaking, stored_checked, stored_settled, Assignable, Assigns, Assigning}
use Rattle.slot_words.proofs.Never.{given_of, checked_never, stored_never, settled_never}
use Rattle.slot_places.proofs.Never.{stored_checked_never}

pub none_found : (old : List Leak) → old ++ [] ≡ old
none_found [] = refl
none_found (l ∷ old) = ap (λ rest. l ∷ rest) (none_found old)

-- The leaks that are got are appended to others.
abbrev pub Found : Got (List Leak) → List Leak → List Leak → Type 0
Found g old new = and_then g (λ found. Given (old ++ found)) ≡ Given new

-- Leak checks stop only where there is too little memory.
abbrev pub Halted : Got (List Leak) → Stop → Type 0
Halted g x = x ≢ stop.Memory → g ≡ Stops (stop_of x)

pub found_is : (g : Got (List Leak)) (leaks old new : List Leak) → g ≡ Given leaks → Found g old new → new ≡ old ++ leaks
found_is g leaks old new e is =
    let same : Given (old ++ leaks) ≡ Given new = sym (ap (λ (x : Got (List Leak)). and_then x (λ found. Given (old ++ found))) e) ∙ is in cc

-- ---- a spot

module _ {R : Type 0} (Means : R → Heap → Type 0) (table : Table) (q : Spot) (of : ℕ) (checks : Option Pos) (zs : List ℤ) where
  abbrev Checked : Kept R → Type 0
  Checked m = Leavable Means m (stored_checked table q of checks zs)

  pub settle_known : (m : Kept R) → Leavable Means m (stored_settled table q of checks zs) → Knows Means m (λ s. is_broken (settled s) ≡ false)
  settle_known m is = (is.ghosts, (is.stands, first_whole (settled (slots m is.ghosts)) (stored_checked table q of checks zs) is.whole))

  pub after_settled : (m n : Kept R) → Leavable Means m (stored_settled table q of checks zs) → Changes Means m settled n → Checked n
  after_settled m n is changes =
      let s : Slots = slots m is.ghosts in
      let k = given_of (settled s) (settled_never s) (first_whole (settled s) (stored_checked table q of checks zs) is.whole) in
      let shows = changes is.ghosts is.stands k.0 k.1 in record {
        ghosts = ghosts_of k.0;
        stands = shows.0;
        whole = subst (λ x. is_broken (stored_checked table q of checks zs x) ≡ false) (sym shows.1)
            (next_whole (settled s) (stored_checked table q of checks zs) k.0 (λ there. k.1) is.whole);
      }

  pub check_known : (m : Kept R) → Checked m → Knows Means m (λ s. is_broken (checked_at table s q of checks) ≡ false)
  check_known m is = (is.ghosts, (is.stands, first_whole (checked_at table (slots m is.ghosts) q of checks) (stored_leaking table of zs (slots m is.ghosts) q) is.whole))

  pub store_known : (m : Kept R) → Checked m → Knows Means m (λ s. is_broken (stored s q (kinds table of) zs) ≡ false)
  store_known m is =
      let s : Slots = slots m is.ghosts in
      let l = given_of (checked_at table s q of checks) (checked_never table s q of checks) (first_whole (checked_at table s q of checks) (stored_leaking table of zs s q) is.whole) in (
        is.ghosts,
        (
          is.stands,
          first_whole (stored s q (kinds table of) zs) (λ t. Given (record { leaks = l.0; memory = t }))
              (next_whole (checked_at table s q of checks) (stored_leaking table of zs s q) l.0 (λ there. l.1) is.whole),
        ),
      )

  pub checked_leaving : {V : Type 0} (m n : Kept R) (r : Result V Stop) (old new : List Leak)
      → Always Means m (λ s. is_broken (checked_at table s q of checks) ≡ false → Found (checked_at table s q of checks) old new)
      → OnOk r (Changes Means m (λ s. stored s q (kinds table of) zs) n) → OnErr r (IsErrOf r stop.Memory)
      → Leaving Means m (stored_checked table q of checks zs) r old new n
  checked_leaving m n (Ok v) old new finds changes memory = record {
    leaves = λ g stands whole.
        let s : Slots = slots m g in
        let there = first_whole (checked_at table s q of checks) (stored_leaking table of zs s q) whole in
        let l = given_of (checked_at table s q of checks) (checked_never table s q of checks) there in
        let next = next_whole (checked_at table s q of checks) (stored_leaking table of zs s q) l.0 (λ x. l.1) whole in
        let t = given_of (stored s q (kinds table of) zs) (stored_never s q (kinds table of) zs) (first_whole (stored s q (kinds table of) zs) (λ t. Given (record { leaks = l.0; memory = t })) next) in
        record {
          left = record { leaks = l.0; memory = t.0 };
          is = ap (λ (x : Got (List Leak)). and_then x (stored_leaking table of zs s q)) l.1 ∙ ap (λ (x : Got Slots). and_then x (λ t. Given (record { leaks = l.0; memory = t }))) t.1;
          appended = found_is (checked_at table s q of checks) l.0 old new l.1 (finds g stands there);
          shows = changes g stands t.0 t.1;
        };
  }
  checked_leaving m n (Err x) old new finds changes memory = record { leaves = λ g stands whole no. absurd (no (let same : x ≡ stop.Memory = cc in same)) }

  pub store_known_as : (m : Kept R) (us : List ℤ) → Checked m → us ≡ zs → Knows Means m (λ s. is_broken (stored s q (kinds table of) us) ≡ false)
  store_known_as m us is same = subst (λ us. Knows Means m (λ s. is_broken (stored s q (kinds table of) us) ≡ false)) (sym same) (store_known m is)

  pub checked_leaving_as : {V : Type 0} (m n : Kept R) (r : Result V Stop) (old new : List Leak) (us : List ℤ)
      → Always Means m (λ s. is_broken (checked_at table s q of checks) ≡ false → Found (checked_at table s q of checks) old new)
      → OnOk r (Changes Means m (λ s. stored s q (kinds table of) us) n) → OnErr r (IsErrOf r stop.Memory) → us ≡ zs
      → Leaving Means m (stored_checked table q of checks zs) r old new n
  checked_leaving_as m n r old new us finds changes memory same =
      checked_leaving m n r old new finds (subst (λ us. OnOk r (Changes Means m (λ s. stored s q (kinds table of) us) n)) same changes) memory

  pub settled_leaving : {U : Type 0} (m n k : Kept R) (r : Result U Stop) (old new : List Leak) → Changes Means m settled n
      → Leaving Means n (stored_checked table q of checks zs) r old new k → Leaving Means m (stored_settled table q of checks zs) r old new k
  settled_leaving {U} m n k r old new changes leaving = record { leaves = λ g stands whole. by g stands whole (given_of (settled (slots m g)) (settled_never (slots m g)) (first_whole (settled (slots m g)) (stored_checked table q of checks zs) whole)) }
    where
      F : Slots → Got (Left Slots)
      F = stored_checked table q of checks zs

      told : (s t : Slots) (r : Result U Stop) → settled s ≡ Given t → Leaves Means n (F t) r old new k → Leaves Means m (stored_settled table q of checks zs s) r old new k
      told s t (Ok u) e l = record { left = l.left; is = ap (λ (x : Got Slots). and_then x F) e ∙ l.is; appended = l.appended; shows = l.shows }
      told s t (Err x) e l = λ no. absurd (stored_checked_never table q of checks zs t (stop_of x) (l no).stops)

      by : (g : Ghosts) → Stands Means m g → is_broken (stored_settled table q of checks zs (slots m g)) ≡ false → (t : Slots) × (settled (slots m g) ≡ Given t)
          → Leaves Means m (stored_settled table q of checks zs (slots m g)) r old new k
      by g stands whole (t, e) =
          let shows = changes g stands t e in
          let there : is_broken (F t) ≡ false = next_whole (settled (slots m g)) F t (λ x. e) whole in
          told (slots m g) t r e
          (subst (λ x. Leaves Means n (F x) r old new k) shows.1 (leaving.leaves (ghosts_of t) shows.0 (subst (λ x. is_broken (F x) ≡ false) (sym shows.1) there)))

  pub check_stops : {V : Type 0} (m n : Kept R) (x : Stop) (old new : List Leak) → Changes Means m settled n
      → Always Means n (λ s. is_broken (checked_at table s q of checks) ≡ false → Halted (checked_at table s q of checks) x)
      → Leaving {U = V} Means m (stored_settled table q of checks zs) (Err x) old new n
  check_stops m n x old new changes finds = record {
    leaves = λ g stands whole no.
        let s : Slots = slots m g in
        let k = given_of (settled s) (settled_never s) (first_whole (settled s) (stored_checked table q of checks zs) whole) in
        let shows = changes g stands k.0 k.1 in
        let there : is_broken (checked_at table k.0 q of checks) ≡ false
        = first_whole (checked_at table k.0 q of checks) (stored_leaking table of zs k.0 q) (next_whole (settled s) (stored_checked table q of checks zs) k.0 (λ x. k.1) whole) in
        absurd (checked_never table (slots n (ghosts_of k.0)) q of checks (stop_of x)
        (finds (ghosts_of k.0) shows.0 (subst (λ y. is_broken (checked_at table y q of checks) ≡ false) (sym shows.1) there) no));
  }

-- ---- a place

module _ {R : Type 0} (Means : R → Heap → Type 0) (table : Table) (p : Place) (of : ℕ) (checks : Option Pos) (zs : List ℤ) where
  abbrev at_spot : Slots → Spot → Got (Left Slots)
  at_spot s q = stored_settled table q of checks zs s

  pub place_reads : (m : Kept R) → Leavable Means m (assigned table p of checks zs) → ReadsSpot Means m p
  place_reads m is = record { ghosts = is.ghosts; stands = is.stands; whole = first_whole (spot (slots m is.ghosts) p) (at_spot (slots m is.ghosts)) is.whole }

  pub place_stops : {U : Type 0} (m : Kept R) (x : Stop) (old : List Leak) → GivesSpot Means m p (Err x) → Leaving {U = U} Means m (assigned table p of checks zs) (Err x) old old m
  place_stops m x old gives = record {
    leaves = λ g stands whole no. record { stops = first_stops (spot (slots m g) p) (at_spot (slots m g)) (stop_of x) (gives.gives g stands) whole; same = refl };
  }

  pub place_known : (m : Kept R) (q : declared.Spot) → Leavable Means m (assigned table p of checks zs) → GivesSpot Means m p (Ok q)
      → Leavable Means m (stored_settled table (spot_of q) of checks zs)
  place_known m q is gives = record {
    ghosts = is.ghosts;
    stands = is.stands;
    whole = next_whole (spot (slots m is.ghosts) p) (at_spot (slots m is.ghosts)) (spot_of q) (gives.gives is.ghosts is.stands) is.whole;
  }

  pub place_leaving : {U : Type 0} (m n : Kept R) (q : declared.Spot) (r : Result U Stop) (old new : List Leak) → GivesSpot Means m p (Ok q)
      → Leaving Means m (stored_settled table (spot_of q) of checks zs) r old new n → Leaving Means m (assigned table p of checks zs) r old new n
  place_leaving m n q r old new gives leaving = record {
    leaves = λ g stands whole.
        let s : Slots = slots m g in
        let e : spot s p ≡ Given (spot_of q) = gives.gives g stands (first_whole (spot s p) (at_spot s) whole) in
        subst (λ got. Leaves Means m got r old new n) (sym (ap (λ (x : Got Spot). and_then x (at_spot s)) e))
        (leaving.leaves g stands (next_whole (spot s p) (at_spot s) (spot_of q) (λ x. e) whole));
  }

-- ---- a value

module _ {R : Type 0} (Means : R → Heap → Type 0) (table : Table) (p : Place) (v : Fill) (of : ℕ) (checks : Option Pos) where
  pub assign_fillable : (m : Kept R) → Assignable Means m table p v of checks → Fillable Means m table v
  assign_fillable m is = record { ghosts = is.ghosts; stands = is.stands; whole = is.fills }

  pub assign_known : {U : Type 0} (m n : Kept R) (u : U) (none zs : List ℤ) → none ≡ [] → Assignable Means m table p v of checks
      → Filled Means m table v (Ok u) none zs n → Leavable Means n (assigned table p of checks zs)
  assign_known m n u none zs empty is filled =
      let given = filled.filled is.ghosts is.stands is.fills in
      let words : zs ≡ given.words = given.appended ∙ ap (λ xs. xs ++ given.words) empty in record {
        ghosts = ghosts_of given.after;
        stands = given.shows.0;
        whole = subst (λ us. is_broken (assigned table p of checks us (slots n (ghosts_of given.after))) ≡ false) (sym words)
            (subst (λ x. is_broken (assigned table p of checks given.words x) ≡ false) (sym given.shows.1) (is.assigns given.words given.after given.may));
      }

  pub assign_stops : {U V : Type 0} (m n : Kept R) (x : Stop) (none zs : List ℤ) (old : List Leak) → Filled {U = U} Means m table v (Err x) none zs n
      → Assigning {U = V} Means m table p v of checks (Err x) old old n
  assign_stops m n x none zs old filled = record {
    assigns = λ g stands fills assigns no.
        let ended = filled.filled g stands fills no in record { after = ended.after; shows = ended.shows; stops = inl ended.may };
  }

  pub assign_leaves : {U V : Type 0} (m n k : Kept R) (u : U) (none zs : List ℤ) (r : Result V Stop) (old new : List Leak) → none ≡ [] → Filled Means m table v (Ok u) none zs n
      → Leaving Means n (assigned table p of checks zs) r old new k → Assigning Means m table p v of checks r old new k
  assign_leaves {U} {V} m n k u none zs r old new empty filled leaving = record {
    assigns = λ g stands fills assigns.
        let given = filled.filled g stands fills in
        let words : zs ≡ given.words = given.appended ∙ ap (λ xs. xs ++ given.words) empty in
        let whole : is_broken (assigned table p of checks given.words given.after) ≡ false = assigns given.words given.after given.may in
        told (slots m g) given.words given.after r given.may given.shows
        (subst (λ us. Leaves Means n (assigned table p of checks us given.after) r old new k) words
        (subst (λ x. Leaves Means n (assigned table p of checks zs x) r old new k) given.shows.1
        (leaving.leaves (ghosts_of given.after) given.shows.0
        (subst (λ x. is_broken (assigned table p of checks zs x) ≡ false) (sym given.shows.1) (subst (λ us. is_broken (assigned table p of checks us given.after) ≡ false) (sym words) whole)))));
  }
    where
      told : (s : Slots) (us : List ℤ) (t : Slots) (r : Result V Stop) → Fills table v s (Gives us t) → Shows Means n t → Leaves Means n (assigned table p of checks us t) r old new k
          → Assigns Means s table p v of checks r old new k
      told s us t (Ok u) may shows l = record { words = us; after = t; may = may; left = l }
      told s us t (Err x) may shows l = λ no. record {
        after = t;
        shows = subst (λ y. Shows Means y t) (sym (l no).same) shows;
        stops = inr (us, may, (l no).stops);
      }
