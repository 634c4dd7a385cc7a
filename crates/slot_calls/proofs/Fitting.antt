-- What a formal may hold is tested.
use Rattle.std.proofs.Common.{◌≡◌, ◌≢◌, refl, sym, ap, ◌∙◌, ℕ, zero, suc, ◌+◌, ◌-◌, ◌≤◌, arith, Bool, true, false, List, [], ◌∷◌, ◌++◌, length, take, drop, ℤ, Ok, Err, if◌then◌else◌}
use Rattle.std.proofs.lemmas.List.{drop_at, length-append}
use Rattle.type_definitions.specs.Types.{Table}
use Rattle.run_values.specs.declared.value.Kind.{Kind}
use Rattle.slot_heap.specs.Heaps.{Heap}
use Rattle.code_rows.specs.declared.stop.Stop.{Stop}
use Rattle.code_rows.specs.declared.stop.Stop.TheVariants as stop
use Rattle.code_rows.specs.declared.stop.Exception.TheVariants as exception
use Rattle.code_rows.specs.Stops.{stop_of}
use Rattle.run_codes.specs.Flat as flat
use Rattle.run_codes.specs.Flat.{Got, Given, Stops, Broken, Spot, and_then, is_broken, constraint}
use Rattle.run_codes.specs.Points.{fits}
use Rattle.handled_runs.specs.Slots.{held}
use Rattle.slot_memory.specs.Memory.{Kept, Knows, Always, slots}
use Rattle.slot_calls.specs.Calls.{Testable, Tests}

all_taken : (xs : List ℤ) (n : ℕ) → length xs ≤ n → take n xs ≡ xs
all_taken [] zero le = refl
all_taken [] (suc n) le = refl
all_taken (x ∷ xs) zero le = absurd (omega (arith, le))
all_taken (x ∷ xs) (suc n) le = ap (λ zs. x ∷ zs) (all_taken xs n (omega (arith, le)))

pub end_is : (old zs : List ℤ) → take (length (old ++ zs) - length old) (drop (length old) (old ++ zs)) ≡ zs
end_is old zs =
    let long : length (old ++ zs) ≡ length old + length zs = length-append old zs in
    ap (take (length (old ++ zs) - length old)) (drop_at old zs (length old) refl) ∙ all_taken zs (length (old ++ zs) - length old) (omega (arith, long))

appended_is : (zs old new : List ℤ) → and_then (Given zs) (λ us. Given (old ++ us)) ≡ Given new → new ≡ old ++ zs
appended_is zs old new is = cc

never_stops : (x : flat.Stop) (old new : List ℤ) → and_then (Stops x) (λ (us : List ℤ). Given (old ++ us)) ≡ Given new → ⊥
never_stops x old new is = cc

never_broken : (old new : List ℤ) → and_then Broken (λ (us : List ℤ). Given (old ++ us)) ≡ Given new → ⊥
never_broken old new is = cc

pub words_of : (got : Got (List ℤ)) (old new : List ℤ) → and_then got (λ zs. Given (old ++ zs)) ≡ Given new → (zs : List ℤ) × (got ≡ Given zs) × (new ≡ old ++ zs)
words_of (Given zs) old new is = (zs, refl, appended_is zs old new is)
words_of (Stops x) old new is = absurd (never_stops x old new is)
words_of Broken old new is = absurd (never_broken old new is)

module _ {R : Type 0} (Means : R → Heap → Type 0) (m : Kept R) (table : Table) (formal : ℕ) (q : Spot) (ks : List Kind) where
  pub test_there : Testable Means m q ks → Knows Means m (λ s. is_broken (held s q ks) ≡ false)
  test_there is = (is.ghosts, (is.stands, is.whole))

  -- the words that came after those at hand
  abbrev latest : List ℤ → List ℤ → List ℤ
  latest old new = take (length new - length old) (drop (length old) new)

  latest_is : (old new zs : List ℤ) → new ≡ old ++ zs → latest old new ≡ zs
  latest_is old new zs e = ap (latest old) e ∙ end_is old zs

  pub test_stops : {U : Type 0} (x : Stop) → Always Means m (λ s. is_broken (held s q ks) ≡ false → x ≢ stop.Memory → held s q ks ≡ Stops (stop_of x))
      → Tests {U = U} Means m table formal q ks (Err x)
  test_stops x is = record { tests = λ g stands whole other. ap (λ z. and_then z (λ zs. if fits table formal zs then Given zs else Stops constraint)) (is g stands whole other) }

  pub test_fits : {U : Type 0} (u : U) (old new : List ℤ) → Always Means m (λ s. is_broken (held s q ks) ≡ false → and_then (held s q ks) (λ zs. Given (old ++ zs)) ≡ Given new)
      → fits table formal (take (length new - length old) (drop (length old) new)) ≡ true → Tests Means m table formal q ks (Ok u)
  test_fits u old new is fit = record {
    tests = λ g stands whole.
        let found = words_of (held (slots m g) q ks) old new (is g stands whole) in
        (found.0, found.1, ap (fits table formal) (sym (latest_is old new found.0 found.2)) ∙ fit);
  }

  pub test_unfit : {U : Type 0} (old new : List ℤ) → Always Means m (λ s. is_broken (held s q ks) ≡ false → and_then (held s q ks) (λ zs. Given (old ++ zs)) ≡ Given new)
      → fits table formal (take (length new - length old) (drop (length old) new)) ≡ false → Tests {U = U} Means m table formal q ks (Err (stop.Raises exception.ConstraintError))
  test_unfit old new is unfit = record {
    tests = λ g stands whole other.
        let found = words_of (held (slots m g) q ks) old new (is g stands whole) in
        ap (λ z. and_then z (λ zs. if fits table formal zs then Given zs else Stops constraint)) found.1
        ∙ ap (λ (b : Bool). if b then Given found.0 else Stops constraint) (ap (fits table formal) (sym (latest_is old new found.0 found.2)) ∙ unfit);
  }

pub ruleset test_rules = (test_there, test_stops, test_fits, test_unfit)
