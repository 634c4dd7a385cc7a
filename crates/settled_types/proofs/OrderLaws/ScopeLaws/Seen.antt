-- What an instruction names is in scope at its point, or as asked.
use Rattle.std.proofs.Common.{◌≡◌, refl, ℕ, zero, suc, Bool, true, false, ◌||◌, ◌==◌, List, [], ◌∷◌}
use Rattle.std.specs.Prelude.{drop}
use Rattle.std.specs.List.{AllByRecursion}
use Rattle.std.proofs.lemmas.Bool.{false≢true}
use Rattle.machine.specs.typed_tree.Programs.{TypedSub}
use Rattle.machine.specs.flow_paths.Points.{NamedPoint}
use Rattle.machine.specs.flow_paths.Prep.{Setting}
use Rattle.machine.specs.flow_paths.Laid.{sub_points, elaboration_points}
use Rattle.machine.specs.flow_paths.Scopes.{is_within, taken}
use Rattle.settled_types.specs.OrderLaws.ScopeLaws.Code.{are_seen, body_seen}
use Rattle.settled_types.specs.OrderLaws.ScopeLaws.Order.{named_in, IsSeen}
use Rattle.settled_types.specs.OrderLaws.ScopeLaws.Supplied.{IsLeft}
use Rattle.settled_types.proofs.OrderLaws.ScopeLaws.Lists.{and_first, and_second, both_true}
use Rattle.settled_types.proofs.OrderLaws.ScopeLaws.Left.{sub_left, package_left}
-- with more in scope, or named
pub use Rattle.settled_types.proofs.OrderLaws.ScopeLaws.Left.{seen_both, seen_more}

or_later : (a b : Bool) → b ≡ true → a || b ≡ true
or_later true b e = refl
or_later false b e = e

within_all : (k : ℕ) (scope : List ℕ) (x : ℕ) → is_within x (drop k scope) ≡ true → is_within x scope ≡ true
within_all zero scope x is = is
within_all (suc k) [] x is = is
within_all (suc k) (y ∷ scope) x is = or_later (x == y) (is_within x scope) (within_all k scope x is)

or_first : (a b : Bool) → a ≡ true → a || b ≡ true
or_first true b e = refl
or_first false b e = absurd (false≢true e)

or_more : (a b outer : Bool) → (a ≡ true → b ≡ true) → a || outer ≡ true → b || outer ≡ true
or_more true b outer more is = or_first b outer (more refl)
or_more false b outer more is = or_later b outer is

module _ (outer : ℕ → Bool) where
  seen_all : (k : ℕ) (scope xs : List ℕ) → are_seen outer (drop k scope) xs ≡ true → are_seen outer scope xs ≡ true
  seen_all k scope [] h = refl
  seen_all k scope (x ∷ xs) h =
      both_true (is_within x scope || outer x) (are_seen outer scope xs)
      (or_more (is_within x (drop k scope)) (is_within x scope) (outer x) (within_all k scope x)
      (and_first (is_within x (drop k scope) || outer x) (are_seen outer (drop k scope) xs) h))
      (seen_all k scope xs (and_second (is_within x (drop k scope) || outer x) (are_seen outer (drop k scope) xs) h))

  all_seen : (ps : List NamedPoint) → AllByRecursion (IsLeft outer) ps → AllByRecursion (IsSeen outer) ps
  all_seen [] h = tt
  all_seen (p ∷ ps) h = (seen_all (taken p.instr) p.scope (named_in p.instr) h.0, all_seen ps h.1)

  pub sub_seen : (s : Setting) (sub : TypedSub) → body_seen outer sub ≡ true → AllByRecursion (IsSeen outer) (sub_points s sub)
  sub_seen s sub h = all_seen (sub_points s sub) (sub_left outer s sub h)

  pub package_seen : (s : Setting) (sub : TypedSub) → body_seen outer sub ≡ true → AllByRecursion (IsSeen outer) (elaboration_points s sub)
  package_seen s sub h = all_seen (elaboration_points s sub) (package_left outer s sub h)
