-- Actuals that are passed leave the cells that were there.
use Rattle.std.proofs.Common.{sym, subst, ℕ, Bool, true, false, List, [], ◌∷◌, if◌then◌else◌}
use Rattle.handled_runs.specs.type_definitions.Types.{Table}
use Rattle.handled_runs.specs.run_codes.Codes.{Actual, ByValue, From, To}
use Rattle.handled_runs.specs.run_codes.Flat.{Got, Given, Stops, Broken, kinds, constraint, Spot}
use Rattle.handled_runs.specs.run_codes.Points.{Passed, FromSpot, ToSpot, fits}
use Rattle.handled_runs.specs.Slots.{Slots, spot, held}
use Rattle.handled_runs.specs.Values as values
use Rattle.handled_steps.specs.Steps.{Passing, Passes, Stopping, Failing, on_read, passed_value, from_spot, PassesOne, with_first, Following, PassesAll}
use Rattle.made_cells.specs.Since.{Since, FilledSince, PassedSince}
use Rattle.made_cells.proofs.Values.{fill_since}

module _ (before : Slots) where
  value_since : (g : values.Outcome) → FilledSince before g → PassedSince before (passed_value g)
  value_since (values.Gives zs s) is = is
  value_since (values.Ends x s) is = is
  value_since values.Fails is = tt

  read_since : {A : Type 0} (s : Slots) (g : Got A) (f : A → Passing) → Since before s → ((a : A) → PassedSince before (f a)) → PassedSince before (on_read s g f)
  read_since s (Given a) f is on = on a
  read_since s (Stops x) f is on = is
  read_since s Broken f is on = tt

  from_since : (table : Table) (of formal : ℕ) (s : Slots) (q : Spot) → Since before s → PassedSince before (from_spot table of formal s q)
  from_since table of formal s q is =
      read_since s (held s q (kinds table of)) (λ zs. if fits table formal zs then Passes (FromSpot q of ∷ []) s else Stopping constraint s) is (λ zs. by (fits table formal zs))
    where
      by : (b : Bool) → PassedSince before (if b then Passes (FromSpot q of ∷ []) s else Stopping constraint s)
      by true = is
      by false = is

  one_since : (table : Table) (a : Actual) (s : Slots) (r : Passing) → Since before s → PassesOne table a s r → PassedSince before r
  one_since table (ByValue v) s r is (g, fills, so) = subst (PassedSince before) (sym so) (value_since g (fill_since before table v s g is fills))
  one_since table (From p of formal) s r is so = subst (PassedSince before) (sym so) (read_since s (spot s p) (from_spot table of formal s) is (λ q. from_since table of formal s q is))
  one_since table (To p of at) s r is so = subst (PassedSince before) (sym so) (read_since s (spot s p) (λ q. Passes (ToSpot q of at ∷ []) s) is (λ q. is))

  first_since : (first : List Passed) (g : Passing) → PassedSince before g → PassedSince before (with_first first g)
  first_since first (Passes rest s) is = is
  first_since first (Stopping x s) is = is
  first_since first Failing is = tt

  following_since : (g r : Passing) (P : Slots → Passing → Type 0) → PassedSince before g → Following g P r → ((s : Slots) (q : Passing) → Since before s → P s q → PassedSince before q) → PassedSince before r
  following_since (Passes first s) r P is (g, so, same) on = subst (PassedSince before) (sym same) (first_since first g (on s g is so))
  following_since (Stopping x s) r P is so on = subst (PassedSince before) (sym so) is
  following_since Failing r P is so on = subst (PassedSince before) (sym so) tt

  pub all_since : (table : Table) (actuals : List Actual) (s : Slots) (r : Passing) → Since before s → PassesAll table actuals s r → PassedSince before r
  all_since table [] s r is so = subst (PassedSince before) (sym so) is
  all_since table (a ∷ rest) s r is (g, one, so) =
      following_since g r (PassesAll table rest) (one_since table a s g is one) so (λ i q kept more. all_since table rest i q kept more)
