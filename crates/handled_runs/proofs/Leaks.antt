-- Leak checks tell the same over both heaps.
use Rattle.std.proofs.Common.{◌≡◌, refl, ap, ◌∙◌, subst, ℕ, zero, suc, Bool, true, false, ◌&&◌, List, [], ◌∷◌, ◌++◌, drop, length, get_or, slice_get, ℤ, pos, negsuc}
use Rattle.numbered_cells.specs.spark_base.declared.position.Pos.{Pos}
use Rattle.numbered_cells.specs.type_definitions.Types.{Table}
use Rattle.numbered_cells.specs.run_values.declared.value.Kind.{Kind}
use Rattle.numbered_cells.specs.run_values.declared.value.Kind.TheVariants as sort
use Rattle.numbered_cells.specs.machine.Words.{access_offsets}
use Rattle.numbered_cells.specs.run_codes.Flat.{Flat, Got, Given, Stops, Broken, Stop, and_then, kinds, is_pointer, are_pointers, Spot, InStack, InCell}
use Rattle.numbered_cells.specs.run_codes.Flat as flat
use Rattle.numbered_cells.specs.run_codes.Points as points
use Rattle.handled_runs.specs.Slots.{Slots}
use Rattle.handled_runs.specs.Leaks.{leak, leaks_in, leaks_at, IsLeaked, AreLeaked}
use Rattle.numbered_cells.specs.machine.States.{Leak}
use Rattle.handled_runs.specs.Beside.{IsSilent, GotsAlike, handle_word, all_renamed, spot_renamed, Beside}
use Rattle.handled_runs.specs.Alike.{StandAt}
use Rattle.handled_runs.proofs.Standing.{stack_words, cell_words_same, front_long}
use Rattle.handled_runs.proofs.Gots.{given_both}
use Rattle.handled_runs.proofs.There.{words_silent, words_there}

first_of : (a b : Bool) → a && b ≡ true → a ≡ true
first_of true b e = refl
first_of false b e = cc

second_of : (a b : Bool) → a && b ≡ true → b ≡ true
second_of true b e = e
second_of false b e = cc

access_there : (handles : List ℕ) (ks : List Kind) (zs : List ℤ) (o : ℕ) → length ks ≡ length zs → is_pointer (slice_get ks o) ≡ true
    → get_or (all_renamed handles ks zs) o (pos 0) ≡ handle_word handles (get_or zs o (pos 0))
access_there handles [] zs o long is = cc
access_there handles (k ∷ ks) [] o long is = cc
access_there handles (sort.Access ∷ ks) (z ∷ zs) zero long is = refl
access_there handles (sort.Int ∷ ks) (z ∷ zs) zero long is = cc
access_there handles (sort.Enum ∷ ks) (z ∷ zs) zero long is = cc
access_there handles (k ∷ ks) (z ∷ zs) (suc o) long is = access_there handles ks zs o (let same : length ks ≡ length zs = cc in same) is

module _ (handles : List ℕ) (here taken : List Kind) (m : Flat) (s : Slots) (beside : Beside handles here taken m s) where
  pub leak_same : (p : Pos) (z : ℤ) → IsLeaked m.cells z → leak s.numbers p (handle_word handles z) ≡ points.leak p z
  leak_same p (pos zero) is = refl
  leak_same p (pos (suc n)) is = ap (λ i. record { number = i; pos = p } ∷ []) (beside.numbered n is.0 is.1)
  leak_same p (negsuc n) is = refl

  leaks_same : (p : Pos) (ks : List Kind) (zs : List ℤ) (offsets : List ℕ) → length ks ≡ length zs → are_pointers ks offsets ≡ true → AreLeaked m.cells zs offsets
      → leaks_in s.numbers p (all_renamed handles ks zs) offsets ≡ points.leaks_in p zs offsets
  leaks_same p ks zs [] long are leaked = refl
  leaks_same p ks zs (o ∷ offsets) long are leaked =
      ap (λ ls. ls ++ leaks_in s.numbers p (all_renamed handles ks zs) offsets)
      (ap (leak s.numbers p) (access_there handles ks zs o long (first_of (is_pointer (slice_get ks o)) (are_pointers ks offsets) are)) ∙ leak_same p (get_or zs o (pos 0)) leaked.0)
      ∙ ap (λ rest. points.leak p (get_or zs o (pos 0)) ++ rest)
      (leaks_same p ks zs offsets long (second_of (is_pointer (slice_get ks o)) (are_pointers ks offsets) are) leaked.1)

  -- The law on leak checks.
  pub leaks_alike : (table : Table) (q : Spot) (of : ℕ) (p : Pos) (zs : List ℤ) → StandAt m here q (kinds table of) → flat.words_at m q (kinds table of) ≡ Given zs
      → are_pointers (kinds table of) (access_offsets table of) ≡ true → AreLeaked m.cells zs (access_offsets table of)
      → leaks_at table s (spot_renamed handles q) of p ≡ Given (points.leaks_in p zs (access_offsets table of))
  leaks_alike table (InStack n) of p zs stand e are leaked =
      ap (λ g. and_then g (λ us. Given (leaks_in s.numbers p us (access_offsets table of)))) (stack_words handles here taken m s beside n (kinds table of) zs stand.0 e)
      ∙ ap Given (leaks_same p (kinds table of) zs (access_offsets table of) (front_long (kinds table of) (drop n m.stack) zs e) are leaked)
  leaks_alike table (InCell n o) of p zs stand e are leaked =
      let there = words_there m n o (kinds table of) zs e in
      let same = cell_words_same handles here taken m s beside n o there.0 (kinds table of) zs there.1 e in
      ap (λ g. and_then g (λ us. Given (leaks_in s.numbers p us (access_offsets table of)))) same.0
      ∙ ap Given (leaks_same p (kinds table of) zs (access_offsets table of) same.1 are leaked)

  leaks_silent : (table : Table) (q : Spot) (of : ℕ) (p : Pos) (t : Stop) → points.leaks_at table m q of p ≡ Stops t → IsSilent t
  leaks_silent table q of p t e = by (flat.words_at m q (kinds table of)) refl e
    where
      by : (g : Got (List ℤ)) → flat.words_at m q (kinds table of) ≡ g → and_then g (λ zs. Given (points.leaks_in p zs (access_offsets table of))) ≡ Stops t → IsSilent t
      by (Given zs) found e = cc
      by (Stops u) found e = let same : u ≡ t = cc in subst IsSilent same (words_silent m q (kinds table of) u found)
      by Broken found e = cc

  pub leaks_gots : (table : Table) (q : Spot) (of : ℕ) (p : Pos) → StandAt m here q (kinds table of) → are_pointers (kinds table of) (access_offsets table of) ≡ true
      → ((zs : List ℤ) → flat.words_at m q (kinds table of) ≡ Given zs → AreLeaked m.cells zs (access_offsets table of))
      → GotsAlike (λ a b. b ≡ a) (points.leaks_at table m q of p) (leaks_at table s (spot_renamed handles q) of p)
  leaks_gots table q of p stand are leaked =
      given_both (λ a b. b ≡ a) (points.leaks_at table m q of p) (leaks_at table s (spot_renamed handles q) of p) (leaks_silent table q of p) (λ leaks e. by (flat.words_at m q (kinds table of)) refl leaks e)
    where
      by : (g : Got (List ℤ)) → flat.words_at m q (kinds table of) ≡ g → (leaks : List Leak) → and_then g (λ zs. Given (points.leaks_in p zs (access_offsets table of))) ≡ Given leaks
          → (ls : List Leak) × (leaks_at table s (spot_renamed handles q) of p ≡ Given ls) × (ls ≡ leaks)
      by (Given zs) found leaks e =
          (points.leaks_in p zs (access_offsets table of), leaks_alike table q of p zs stand found are (leaked zs found), (let same : points.leaks_in p zs (access_offsets table of) ≡ leaks = cc in same))
      by (Stops t) found leaks e = cc
      by Broken found leaks e = cc
