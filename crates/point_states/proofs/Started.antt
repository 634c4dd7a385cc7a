-- How the search begins.
use Rattle.std.proofs.Common.{◌≡◌, refl, sym, ap, ◌∙◌, subst, inl, inr, ℕ, zero, suc, ◌<◌, ◌≤◌, ◌+◌, ◌*◌, true, false, ◌==◌, List, [], ◌∷◌, ◌++◌, length, Option, Some, None, nat_lt, lt-ltb, ltb-true, eqb-true, length-append, arith}
use Rattle.std.specs.BTreeSet.{insert_key}
use Rattle.std.specs.Ordering.{nat_cmp}
use Rattle.spark_base.specs.Lists.{Has}
use Rattle.place_names.specs.declared.fact.Fact.{Fact}
use Rattle.place_names.proofs.Names.{both_parts, both_true}
use Rattle.label_flow.proofs.Worklist.{search_begins}
use Rattle.flow_paths.specs.Paths.{PathPoint, is_some_point}
use Rattle.state_trees.specs.FactStates.{FactState, none_hold, missing, IsKept}
use Rattle.state_trees.proofs.FactByFact.{says-none, missing_few}
use Rattle.point_states.specs.PointTrees.{tree_at}
use Rattle.point_states.specs.Labels.{Label, Here, Says, is_first, flow_of, Shows, labels_of, SearchedOn}
use Rattle.point_states.specs.Carries.{IsOver, AreOver, IsStarted}
use Rattle.point_states.specs.Debts.{room, most, total, debt, owed}
use Rattle.point_states.proofs.Moves.{within}
use Rattle.point_states.proofs.Debt.{times_more}

first_only : (facts : List Fact) (k : Label) → IsKept (none_hold facts) → Shows (Some (none_hold facts)) k → is_first facts k ≡ true
first_only facts Here kept m = refl
first_only facts (Says i true) kept m = (let no = says-none facts i true (within (none_hold facts) i true kept m) in cc)
first_only facts (Says i false) kept m =
    both_true (nat_lt i (length facts)) true (lt-ltb i (length facts) (within (none_hold facts) i false kept m)) refl

first_all : (facts : List Fact) (k : Label) → is_first facts k ≡ true → Shows (Some (none_hold facts)) k
first_all facts Here e = tt
first_all facts (Says i true) e = (let no = (both_parts (nat_lt i (length facts)) false e).1 in cc)
first_all facts (Says i false) e = says-none facts i false (ltb-true i (length facts) (both_parts (nat_lt i (length facts)) true e).0)

pub started : (points : List PathPoint) (facts : List Fact) (trees : List (Option FactState)) (count : ℕ) → IsStarted count facts trees
    → SearchedOn points facts trees (0 ∷ [])
started points facts trees count h = search_begins (flow_of points facts) (labels_of trees) (0 ∷ []) only all works
  where
    only : (a : ℕ) (k : Label) → labels_of trees a k → (flow_of points facts).first a k ≡ true
    only zero k m = first_only facts k h.kept (subst (λ t. Shows t k) h.first m)
    only (suc a) k m = absurd (subst (λ t. Shows t k) (h.others a) m)

    all : (a : ℕ) (k : Label) → (flow_of points facts).first a k ≡ true → labels_of trees a k
    all zero k e = subst (λ t. Shows t k) (sym h.first) (first_all facts k e)
    all (suc a) k e = (let never = eqb-true (suc a) 0 (both_parts (suc a == 0) (is_first facts k) e).0 in absurd (omega arith))

    works : (a : ℕ) (k : Label) → labels_of trees a k → Has (0 ∷ []) a
    works zero k m = inl refl
    works (suc a) k m = absurd (subst (λ t. Shows t k) (h.others a) m)

pub started_over : (facts : List Fact) (trees : List (Option FactState)) (count : ℕ) → IsStarted count facts trees → AreOver facts trees
started_over facts trees count h zero = subst (IsOver facts) (sym h.first) (refl, h.kept)
started_over facts trees count h (suc p) = subst (IsOver facts) (sym (h.others p)) tt

-- an entry more
none_behind : (trees : List (Option FactState)) (p : ℕ) → tree_at (trees ++ None ∷ []) p ≡ tree_at trees p
none_behind [] zero = refl
none_behind [] (suc p) = refl
none_behind (t ∷ trees) zero = refl
none_behind (t ∷ trees) (suc p) = none_behind trees p

pub started_more : (count : ℕ) (facts : List Fact) (trees : List (Option FactState)) → IsStarted count facts trees
    → IsStarted (count + 1) facts (trees ++ None ∷ [])
started_more count facts trees h = record {
  sized = (let e = length-append trees (None ∷ []) in let n = h.sized in omega arith);
  first = none_behind trees 0 ∙ h.first;
  kept = h.kept;
  others = λ p. none_behind trees (suc p) ∙ h.others p;
}

pub started_first : (facts : List Fact) (s : FactState) → s ≡ none_hold facts → IsKept s → IsStarted 1 facts (Some s ∷ [])
started_first facts s is kept = record {
  sized = refl;
  first = ap Some is;
  kept = subst IsKept is kept;
  others = λ p. refl;
}

-- there is a first point
pub started_some : (count : ℕ) (facts : List Fact) (trees : List (Option FactState)) → IsStarted count facts trees → 0 < count
started_some count facts [] h = (let first = h.first in cc)
started_some count facts (t ∷ trees) h = (let n = h.sized in omega arith)

-- ---- the work

pub none_left : (work : List ℕ) → (0 < length work → false ≡ true) → work ≡ []
none_left [] some = refl
none_left (a ∷ work) some = (let h = some (omega arith) in cc)

pub first_work : (work none : List ℕ) → none ≡ [] → work ≡ insert_key nat_cmp none 0 → work ≡ 0 ∷ []
first_work work none e is = is ∙ ap (λ l. insert_key nat_cmp l 0) e

-- the first number was taken from the work
pub record IsTaken (n p : ℕ) (rest : List ℕ) : Type 0 where
  pub place : p < n
  pub places : (a : ℕ) → Has rest a → a < n

pub taken : (n : ℕ) (work rest : List ℕ) (p : ℕ) → work ≡ p ∷ rest → ((a : ℕ) → Has work a → a < n) → IsTaken n p rest
taken n work rest p e below = record {
  place = below p (subst (λ w. Has w p) (sym e) (inl refl));
  places = λ a h. below a (subst (λ w. Has w a) (sym e) (inr h));
}

-- ---- what is owed at the start

split_sum : (a b c : ℕ) → (a + b) * c ≡ a * c + b * c
split_sum a b c = grind arith

none_debt : (full : ℕ) (costs : List ℕ) (trees : List (Option FactState)) → ((p : ℕ) → tree_at trees p ≡ None)
    → debt full costs trees ≤ total costs * full
none_debt full [] trees none = omega arith
none_debt full (n ∷ costs) [] none = omega arith
none_debt full (n ∷ costs) (t ∷ trees) none =
    let rest = none_debt full costs trees (λ p. none (suc p)) in
    let first : room full t ≡ full = ap (room full) (none 0) in
    let here : n * room full t ≡ n * full = ap (λ x. n * x) first in
    let both = split_sum n (total costs) full in
    omega arith

pub start_debt : (costs : List ℕ) (count : ℕ) (facts : List Fact) (trees : List (Option FactState)) → IsStarted count facts trees
    → debt (most (length facts)) costs trees + owed costs (0 ∷ []) ≤ total costs * most (length facts)
start_debt [] count facts trees h = omega arith
start_debt (n ∷ costs) count facts [] h = (let first = h.first in cc)
start_debt (n ∷ costs) count facts (t ∷ trees) h =
    let few = missing_few (none_hold facts) h.kept in
    let first : room (most (length facts)) t ≡ missing (none_hold facts) = ap (room (most (length facts))) h.first in
    let here = times_more n (room (most (length facts)) t) (most (length facts)) (omega arith) in
    let rest = none_debt (most (length facts)) costs trees h.others in
    let both = split_sum n (total costs) (most (length facts)) in
    omega arith

-- ---- points

pub some_points : {A : Type 0} (xs : List A) → 0 < length xs → is_some_point xs
some_points [] h = absurd (omega arith)
some_points (x ∷ xs) h = tt
