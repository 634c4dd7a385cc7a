-- What is read and stored is alike over both heaps.
use Rattle.std.proofs.Common.{◌≡◌, sym, ap, ◌∙◌, subst, ℕ, zero, suc, ◌+◌, arith, ◌&&◌, nat_lt, Bool, true, false, nat_le, List, [], drop, length, slice_get, Some, ℤ, if◌then◌else◌}
use Rattle.std.specs.Prelude.{unsigned_abs}
use Rattle.handled_runs.specs.run_values.declared.value.Kind.{Kind}
use Rattle.handled_runs.specs.kept_cells.Cells.{Cell}
use Rattle.handled_runs.specs.run_codes.Codes.{Code, Place, InFrame, InPackages, Behind}
use Rattle.handled_runs.specs.run_codes.Flat.{Flat, Got, Given, Stops, Broken, Stop, and_then, found, most_cells, most_offsets, touched, spliced, Spot, InStack, InCell}
use Rattle.handled_runs.specs.run_codes.Flat as flat
use Rattle.handled_runs.specs.run_codes.Points as points
use Rattle.handled_runs.specs.Slots.{Slots}
use Rattle.handled_runs.specs.Slots as slots
use Rattle.handled_runs.specs.Changes.{stored}
use Rattle.handled_runs.specs.Beside.{GotsAlike, renamed, all_renamed, NameWords, NamesSpot, Beside}
use Rattle.handled_runs.specs.Looks.{IsFront, IsClear}
use Rattle.handled_runs.proofs.Gots.{gots_mapped, given_both, there_of}
use Rattle.handled_runs.proofs.Words.{word_gots, of_data}
use Rattle.handled_runs.proofs.Named.{slice_renamed, data_same}
use Rattle.handled_runs.proofs.Stacks.{stack_stored}
use Rattle.handled_steps.specs.Steps.{put_words}
use Rattle.handled_steps.specs.Looks.{LooksData, HasData}
use Rattle.handled_steps.proofs.GivenUp.{there_below}

module _ (handles : List ℕ) (here taken : List Kind) (m : Flat) (s : Slots) (beside : Beside handles here taken m s) where
  pub data_gots : IsClear here taken m → (c : Code) → LooksData m here taken c → GotsAlike (λ a b. b ≡ a) (flat.word m c) (slots.word s c)
  data_gots clear c looks = of_data handles here taken m s beside clear looks.0 looks.1 (flat.word m c) (slots.word s c) (word_gots handles here taken m s beside clear c looks.0 looks.2)

  -- a word of the stack
  pub stack_gots : (n : ℕ) (k : Kind) → slice_get here n ≡ Some k → GotsAlike (λ a b. b ≡ renamed handles k a) (found (slice_get m.stack n)) (found (slice_get s.stack n))
  stack_gots n k is =
      gots_mapped (renamed handles k) (found (slice_get m.stack n)) (found (slice_get s.stack n))
      (ap (λ zs. found (slice_get zs n)) beside.stack ∙ slice_renamed handles here m.stack n k is)

  pub stack_data : (n : ℕ) → HasData here n → found (slice_get s.stack n) ≡ found (slice_get m.stack n)
  stack_data n (k, data_kind, is) =
      ap (λ zs. found (slice_get zs n)) beside.stack ∙ (slice_renamed handles here m.stack n k is ∙ data_same handles k data_kind (found (slice_get m.stack n)))

  -- in the stack, whatever kinds are asked of it
  pub in_stack_gots : (n : ℕ) (js ks : List Kind) (zs : List ℤ) → IsFront ks (drop n here) → length ks ≡ length zs → NameWords (length handles) ks zs
      → GotsAlike (Beside handles here taken) (flat.stored m (InStack n) js zs) (stored s (InStack n) js (all_renamed handles ks zs))
  in_stack_gots n js ks zs is long names =
      given_both (Beside handles here taken) (flat.stored m (InStack n) js zs) (stored s (InStack n) js (all_renamed handles ks zs)) (λ x e. absurd (goes x (nat_le (n + length zs) (length m.stack)) e))
      (λ after e. stack_stored handles here taken m s beside n js ks zs after is long names e)
    where
      goes : (x : Stop) (b : Bool) → (if b then Given (flat.with_stack m (spliced n zs m.stack)) else Broken) ≡ Stops x → ⊥
      goes x true e = cc
      goes x false e = cc

  pub put_gots : (at : ℕ) (ks : List Kind) (zs : List ℤ) → IsFront ks (drop (m.base + at) here) → length ks ≡ length zs → NameWords (length handles) ks zs
      → GotsAlike (Beside handles here taken) (points.put_words m at zs) (put_words s at (all_renamed handles ks zs))
  put_gots at ks zs is long names =
      subst (λ b. GotsAlike (Beside handles here taken) (points.put_words m at zs) (stored s (InStack (b + at)) [] (all_renamed handles ks zs))) (sym beside.base) (in_stack_gots (m.base + at) [] ks zs is long names)

  -- ---- spots have numbers of cells

  stack_named : (n : ℕ) (q : Spot) → flat.stack_spot m n ≡ Given q → NamesSpot (length handles) q
  stack_named n q e = by (nat_le n (length m.stack)) e
    where
      by : (b : Bool) → (if b then Given (InStack n) else Broken) ≡ Given q → NamesSpot (length handles) q
      by true f = let same : InStack n ≡ q = cc in subst (NamesSpot (length handles)) same tt
      by false f = cc

  cell_named : (o i : ℕ) (q : Spot) → flat.cell_spot m o i ≡ Given q → NamesSpot (length handles) q
  cell_named o zero q e = cc
  cell_named o (suc n) q e = by (nat_lt n most_cells && nat_lt o most_offsets) e
    where
      by : (b : Bool) → (if b then touched (slice_get m.cells n) (λ (c : Cell). Given (InCell n o)) else Broken) ≡ Given q → NamesSpot (length handles) q
      by true f =
          let there = there_of (slice_get m.cells n) (λ (c : Cell). Given (InCell n o)) q f in
          let less = there_below m.cells n there.0 there.1 in
          let long = beside.cells.len in
          let same : InCell n o ≡ q = (let reads : Given (InCell n o) ≡ Given q = sym (ap (λ x. touched x (λ (c : Cell). Given (InCell n o))) there.1) ∙ f in cc) in
          subst (NamesSpot (length handles)) same (omega (arith, less, long))
      by false f = cc

  pub spot_named : (p : Place) (q : Spot) → flat.spot m p ≡ Given q → NamesSpot (length handles) q
  spot_named (InFrame at i) q e = by (flat.word m i) e
    where
      by : (g : Got ℤ) → and_then g (λ o. flat.stack_spot m (m.base + at + unsigned_abs o)) ≡ Given q → NamesSpot (length handles) q
      by (Given o) f = stack_named (m.base + at + unsigned_abs o) q f
      by (Stops x) f = cc
      by Broken f = cc
  spot_named (InPackages at i) q e = by (flat.word m i) e
    where
      by : (g : Got ℤ) → and_then g (λ o. flat.stack_spot m (at + unsigned_abs o)) ≡ Given q → NamesSpot (length handles) q
      by (Given o) f = stack_named (at + unsigned_abs o) q f
      by (Stops x) f = cc
      by Broken f = cc
  spot_named (Behind p at i) q e = by (flat.indexes m p) (flat.word m i) (flat.word m p) e
    where
      by : (x w v : Got ℤ) → and_then x (λ y. and_then w (λ o. and_then v (λ z. flat.cell_spot m (at + unsigned_abs o) (unsigned_abs z)))) ≡ Given q → NamesSpot (length handles) q
      by (Given x) (Given o) (Given z) f = cell_named (at + unsigned_abs o) (unsigned_abs z) q f
      by (Given x) (Given o) (Stops t) f = cc
      by (Given x) (Given o) Broken f = cc
      by (Given x) (Stops t) v f = cc
      by (Given x) Broken v f = cc
      by (Stops t) w v f = cc
      by Broken w v f = cc
