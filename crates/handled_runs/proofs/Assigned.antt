-- The law: values go to places alike over both heaps.
use Rattle.std.proofs.Common.{◌≡◌, refl, sym, subst, ℕ, true, List, length, Option, Some, None, ℤ}
use Rattle.numbered_cells.specs.spark_base.declared.position.Pos.{Pos}
use Rattle.numbered_cells.specs.type_definitions.Types.{Table}
use Rattle.numbered_cells.specs.run_values.declared.value.Kind.{Kind}
use Rattle.numbered_cells.specs.machine.Words.{access_offsets}
use Rattle.numbered_cells.specs.machine.States.{Leak}
use Rattle.numbered_cells.specs.run_codes.Codes.{Place, Fill}
use Rattle.numbered_cells.specs.run_codes.Flat.{Flat, Got, Given, Stops, Broken, and_then, kinds, are_pointers, Spot}
use Rattle.numbered_cells.specs.run_codes.Flat as flat
use Rattle.numbered_cells.specs.run_codes.Points as points
use Rattle.numbered_cells.specs.run_codes.Points.{Turn, Outcome, on_made, on_got, leaking_goes}
use Rattle.handled_runs.specs.Slots.{Slots}
use Rattle.handled_runs.specs.Slots as slots
use Rattle.handled_runs.specs.Changes.{stored, settled}
use Rattle.handled_runs.specs.Leaks.{AreLeaked}
use Rattle.handled_runs.specs.Assigned.{Left, flat_assigned, assigned, checked_at, WhereChecked, LooksTo, AreLeft, LeftAlike}
use Rattle.handled_runs.specs.Beside.{GotsAlike, all_renamed, spot_renamed, NameWords, Beside}
use Rattle.handled_runs.specs.Alike.{StandAt}
use Rattle.handled_runs.proofs.Gots.{gots_then}
use Rattle.handled_runs.specs.Marks.{During}
use Rattle.handled_runs.proofs.Marking.{settled_beside}
use Rattle.handled_runs.proofs.Copies.{spots_alike}
use Rattle.handled_runs.proofs.There.{stored_gots}
use Rattle.handled_runs.proofs.Leaks.{leaks_gots}

module _ (handles : List ℕ) (here taken : List Kind) (m : Flat) (s : Slots) (beside : Beside handles here taken m s) where
  -- the leak checks of a spot, where there are some
  checks_gots : (table : Table) (q : Spot) (of : ℕ) (checks : Option Pos) → StandAt m here q (kinds table of) → are_pointers (kinds table of) (access_offsets table of) ≡ true
      → WhereChecked checks ((zs : List ℤ) → flat.words_at m q (kinds table of) ≡ Given zs → AreLeaked m.cells zs (access_offsets table of))
      → GotsAlike (λ a b. b ≡ a) (points.checked_at table m q of checks) (checked_at table s (spot_renamed handles q) of checks)
  checks_gots table q of None stand are leaked = refl
  checks_gots table q of (Some p) stand are leaked = leaks_gots handles here taken m s beside table q of p stand are leaked

  -- what is checked and stored at a spot
  left_alike : (table : Table) (q : Spot) (of : ℕ) (checks : Option Pos) (zs : List ℤ) → StandAt m here q (kinds table of)
      → WhereChecked checks ((us : List ℤ) → flat.words_at m q (kinds table of) ≡ Given us → AreLeaked m.cells us (access_offsets table of))
      → are_pointers (kinds table of) (access_offsets table of) ≡ true → length (kinds table of) ≡ length zs → NameWords (length handles) (kinds table of) zs
      → LeftAlike handles here taken (and_then (points.checked_at table m q of checks) (λ leaks. and_then (flat.stored m q (kinds table of) zs) (λ n. Given (record { leaks = leaks; memory = n }))))
      (and_then (checked_at table s (spot_renamed handles q) of checks)
      (λ leaks. and_then (stored s (spot_renamed handles q) (kinds table of) (all_renamed handles (kinds table of) zs)) (λ t. Given (record { leaks = leaks; memory = t }))))
  left_alike table q of checks zs stand leaked are long names =
      let ks : List Kind = kinds table of in
      let us : List ℤ = all_renamed handles ks zs in
      gots_then (λ a b. b ≡ a) (AreLeft handles here taken) (points.checked_at table m q of checks) (checked_at table s (spot_renamed handles q) of checks)
      (λ leaks. and_then (flat.stored m q ks zs) (λ n. Given (record { leaks = leaks; memory = n }))) (λ leaks. and_then (stored s (spot_renamed handles q) ks us) (λ t. Given (record { leaks = leaks; memory = t })))
      (checks_gots table q of checks stand are leaked)
      (λ leaks ls checked same_leaks.
      gots_then (Beside handles here taken) (AreLeft handles here taken) (flat.stored m q ks zs) (stored s (spot_renamed handles q) ks us) (λ n. Given (record { leaks = leaks; memory = n })) (λ t. Given (record { leaks = ls; memory = t }))
      (stored_gots handles here taken m s beside q ks zs stand long names) (λ n t kept both. (same_leaks, both)))

module _ (handles : List ℕ) (here taken : List Kind) (m : Flat) (s : Slots) (is : During handles here taken m s) where
  pub assigned_alike : (table : Table) (p : Place) (of : ℕ) (checks : Option Pos) (zs : List ℤ) → LooksTo table m.base m here taken p of checks → are_pointers (kinds table of) (access_offsets table of) ≡ true
      → length (kinds table of) ≡ length zs → NameWords (length handles) (kinds table of) zs
      → LeftAlike handles here taken (flat_assigned table p of checks zs m) (assigned table p of checks (all_renamed handles (kinds table of) zs) s)
  assigned_alike table p of checks zs looks are long names =
      let ks : List Kind = kinds table of in
      let us : List ℤ = all_renamed handles ks zs in
      let done = settled_beside handles here taken m s is in
      gots_then (λ q r. r ≡ spot_renamed handles q) (AreLeft handles here taken) (flat.spot m p) (slots.spot s p)
      (λ q. and_then (points.checked_at table m q of checks) (λ leaks. and_then (flat.stored m q ks zs) (λ n. Given (record { leaks = leaks; memory = n }))))
      (λ q. and_then (settled s) (λ k. and_then (checked_at table k q of checks) (λ leaks. and_then (stored k q ks us) (λ t. Given (record { leaks = leaks; memory = t })))))
      (spots_alike handles here taken m s is p (λ x e. (looks.0 x e).0))
      (λ q r at same.
      subst (λ g. GotsAlike (AreLeft handles here taken) (and_then (points.checked_at table m q of checks) (λ leaks. and_then (flat.stored m q ks zs) (λ n. Given (record { leaks = leaks; memory = n }))))
      (and_then g (λ k. and_then (checked_at table k r of checks) (λ leaks. and_then (stored k r ks us) (λ t. Given (record { leaks = leaks; memory = t })))))) (sym done.1)
      (subst (λ x. GotsAlike (AreLeft handles here taken) (and_then (points.checked_at table m q of checks) (λ leaks. and_then (flat.stored m q ks zs) (λ n. Given (record { leaks = leaks; memory = n }))))
      (and_then (checked_at table done.0 x of checks) (λ leaks. and_then (stored done.0 x ks us) (λ t. Given (record { leaks = leaks; memory = t }))))) (sym same)
      (left_alike handles here taken m done.0 done.2 table q of checks zs ((looks.0 m refl).1 q at) (at_spot _ checks q at looks.1) are long names)))
    where
      at_spot : (P : Spot → Type 0) (checks : Option Pos) (q : Spot) → flat.spot m p ≡ Given q → WhereChecked checks ((r : Spot) → flat.spot m p ≡ Given r → P r) → WhereChecked checks (P q)
      at_spot P None q at leaked = tt
      at_spot P (Some x) q at leaked = leaked q at

-- So it is in points that assign.
pub assign_is : (t : Turn) (p : Place) (v : Fill) (of : ℕ) (checks : Option Pos) (n : Option ℕ)
    → points.assign t p v of checks n ≡ on_made t (flat.filled t.table v (points.start t)) (λ zs m. on_got t m (flat_assigned t.table p of checks zs m) (λ l. leaking_goes t l.leaks l.memory n))
assign_is t p v of checks n = made (flat.filled t.table v (points.start t))
  where
    made : (f : flat.Made (List ℤ))
        → on_made t f (λ zs m. on_got t m (flat.spot m p) (λ s. on_got t m (points.checked_at t.table m s of checks) (λ leaks. on_got t m (flat.stored m s (kinds t.table of) zs) (λ k. leaking_goes t leaks k n))))
        ≡ on_made t f (λ zs m. on_got t m (flat_assigned t.table p of checks zs m) (λ l. leaking_goes t l.leaks l.memory n))
    made (flat.Done zs m) = by (flat.spot m p)
      where
        kept : (leaks : List Leak) (h : Got Flat) → on_got t m h (λ k. leaking_goes t leaks k n) ≡ on_got t m (and_then h (λ k. Given (record { leaks = leaks; memory = k }))) (λ (l : Left Flat). leaking_goes t l.leaks l.memory n)
        kept leaks (Given k) = refl
        kept leaks (Stops x) = refl
        kept leaks Broken = refl

        checked : (s : Spot) (g : Got (List Leak)) → on_got t m g (λ leaks. on_got t m (flat.stored m s (kinds t.table of) zs) (λ k. leaking_goes t leaks k n))
            ≡ on_got t m (and_then g (λ leaks. and_then (flat.stored m s (kinds t.table of) zs) (λ k. Given (record { leaks = leaks; memory = k })))) (λ (l : Left Flat). leaking_goes t l.leaks l.memory n)
        checked s (Given leaks) = kept leaks (flat.stored m s (kinds t.table of) zs)
        checked s (Stops x) = refl
        checked s Broken = refl

        by : (g : Got Spot) → on_got t m g (λ s. on_got t m (points.checked_at t.table m s of checks) (λ leaks. on_got t m (flat.stored m s (kinds t.table of) zs) (λ k. leaking_goes t leaks k n)))
            ≡ on_got t m (and_then g (λ s. and_then (points.checked_at t.table m s of checks) (λ leaks. and_then (flat.stored m s (kinds t.table of) zs) (λ k. Given (record { leaks = leaks; memory = k })))))
            (λ (l : Left Flat). leaking_goes t l.leaks l.memory n)
        by (Given s) = checked s (points.checked_at t.table m s of checks)
        by (Stops x) = refl
        by Broken = refl
    made (flat.Halted x m) = refl
    made flat.Failed = refl
