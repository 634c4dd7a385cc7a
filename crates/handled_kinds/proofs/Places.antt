-- Places that are lowered lead to spots with the kinds of their types.
use Rattle.std.proofs.Common.{◌≡◌, refl, sym, ap, ◌∙◌, subst, ℕ, zero, suc, ◌+◌, ◌≤◌, arith, Bool, true, false, ◌&&◌, nat_le, nat_lt, List, drop, length, slice_get, if◌then◌else◌}
use Rattle.std.specs.Prelude.{unsigned_abs}
use Rattle.std.proofs.lemmas.Bool.Decides.{nat_tests}
use Rattle.type_definitions.specs.Types.{Table}
use Rattle.run_values.specs.declared.value.Kind.{Kind}
use Rattle.kept_cells.specs.Cells.{Cell}
use Rattle.run_codes.specs.Codes.{Place, InFrame, InPackages, Behind}
use Rattle.run_codes.specs.Flat.{Flat, Given, Broken, and_then, most_cells, most_offsets, touched, kinds, word, Spot, InStack, InCell, spot, stack_spot, cell_spot}
use Rattle.run_codes.specs.Flat as flat
use Rattle.run_codes.proofs.Places.{given_on}
use Rattle.handled_runs.specs.Looks.{IsFront, LooksAt}
use Rattle.handled_runs.specs.Alike.{StandAt, Wherever, LooksThere}
use Rattle.handled_runs.proofs.Gots.{there_of}
use Rattle.handled_kinds.specs.Kinds.{PlaceKinds}

is_within : (a b : ℕ) → nat_le a b ≡ true → a ≤ b
is_within a b e = grind (arith, nat_tests)

module _ (table : Table) (m : Flat) (here taken : List Kind) where
  stack_stands : (n : ℕ) (of : ℕ) (q : Spot) → stack_spot m n ≡ Given q → IsFront (kinds table of) (drop n here) → StandAt m here q (kinds table of)
  stack_stands n of q e front = by (nat_le n (length m.stack)) refl e
    where
      by : (b : Bool) → nat_le n (length m.stack) ≡ b → (if b then Given (InStack n) else Broken) ≡ Given q → StandAt m here q (kinds table of)
      by true less f = let same : InStack n ≡ q = cc in subst (λ r. StandAt m here r (kinds table of)) same (front, is_within n (length m.stack) less)
      by false less f = cc

  cell_stands : (o i of : ℕ) (q : Spot) → cell_spot m o i ≡ Given q → StandAt m here q (kinds table of)
  cell_stands o zero of q e = cc
  cell_stands o (suc n) of q e = by (nat_lt n most_cells && nat_lt o most_offsets) e
    where
      by : (b : Bool) → (if b then touched (slice_get m.cells n) (λ (c : Cell). Given (InCell n o)) else Broken) ≡ Given q → StandAt m here q (kinds table of)
      by true f =
          let there = there_of (slice_get m.cells n) (λ (c : Cell). Given (InCell n o)) q f in
          let reads : Given (InCell n o) ≡ Given q = sym (ap (λ x. touched x (λ (c : Cell). Given (InCell n o))) there.1) ∙ f in
          let same : InCell n o ≡ q = cc in
          subst (λ r. StandAt m here r (kinds table of)) same tt
      by false f = cc

  pub place_stands : (p : Place) (of : ℕ) (q : Spot) → PlaceKinds table m here taken p of → spot m p ≡ Given q → StandAt m here q (kinds table of)
  place_stands (InFrame at i) of q is e =
      let on = given_on (word m i) (λ o. stack_spot m (m.base + at + unsigned_abs o)) q e in
      stack_stands (m.base + at + unsigned_abs on.0) of q on.2 (is.1 on.0 on.1)
  place_stands (InPackages at i) of q is e =
      let on = given_on (word m i) (λ o. stack_spot m (at + unsigned_abs o)) q e in
      stack_stands (at + unsigned_abs on.0) of q on.2 (is.1 on.0 on.1)
  place_stands (Behind p at i) of q is e =
      let first = given_on (flat.indexes m p) (λ x. and_then (word m i) (λ o. and_then (word m p) (λ w. cell_spot m (at + unsigned_abs o) (unsigned_abs w)))) q e in
      let second = given_on (word m i) (λ o. and_then (word m p) (λ w. cell_spot m (at + unsigned_abs o) (unsigned_abs w))) q first.2 in
      let third = given_on (word m p) (λ w. cell_spot m (at + unsigned_abs second.0) (unsigned_abs w)) q second.2 in
      cell_stands (at + unsigned_abs second.0) (unsigned_abs third.0) of q third.2

  pub looks_at : (p : Place) (of : ℕ) → PlaceKinds table m here taken p of → LooksAt m here taken p
  looks_at (InFrame at i) of is = is.0
  looks_at (InPackages at i) of is = is.0
  looks_at (Behind p at i) of is = is

pub looks_there : (table : Table) (base : ℕ) (here taken : List Kind) (p : Place) (of : ℕ) → Wherever base (λ m. PlaceKinds table m here taken p of) → LooksThere base here taken p (kinds table of)
looks_there table base here taken p of is m e = (looks_at table m here taken p of (is m e), λ q found. place_stands table m here taken p of q (is m e) found)
