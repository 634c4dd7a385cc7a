-- Where no work is left, the trees are exact.
use Rattle.std.proofs.Common.{◌≡◌, refl, sym, ap, ◌∙◌, subst, ℕ, ◌<◌, Bool, true, false, not, List, [], length, Option, Some, nat_lt, lt-ltb}
use Rattle.std.specs.Bool.{Decides}
use Rattle.spark_base.specs.Lists.{Has}
use Rattle.place_names.specs.declared.act.Act.{Act}
use Rattle.place_names.specs.declared.fact.Fact.{Fact}
use Rattle.place_names.specs.Facts.{facts_after, holds_along}
use Rattle.place_names.proofs.Names.{both_parts, both_true}
use Rattle.place_names.proofs.Facts.{holds_along-decides}
use Rattle.label_flow.proofs.Worklist.{found_exactly}
use Rattle.flow_paths.specs.Paths.{PathPoint, is_some_point, ControlPath, acts_along, MayHold, MayLack}
use Rattle.state_trees.specs.FactStates.{FactState, says, marked, at}
use Rattle.point_states.specs.PointTrees.{fact_at, tree_at, IsExactAt, IsExact}
use Rattle.point_states.specs.Labels.{Label, Here, Says, carried, is_first, flow_of, Shows, labels_of, SearchedOn}
use Rattle.point_states.specs.Carries.{IsOver, AreOver}
use Rattle.point_states.proofs.Along.{Brought, brings_brought, brought_brings}
use Rattle.point_states.proofs.Numbers.{has_number, number_has, marked_number, number_marked}

not_false : (b : Bool) → not b ≡ true → b ≡ false
not_false true e = cc
not_false false e = refl

-- whether the facts along some acts have one
along-decides : (f : Fact) (acts : List Act) → Decides (holds_along acts f false) (Has (facts_after acts) f)
along-decides f acts = holds_along-decides acts f [] false (λ e. cc, λ h. absurd h)

-- a control path that has fact i, or lacks it
pub record SaysAlong (points : List PathPoint) (facts : List Fact) (p i : ℕ) (v : Bool) : Type 0 where
  pub before : List ℕ
  pub path : ControlPath points before p
  pub is : holds_along (acts_along points before) (fact_at facts i) false ≡ v

from_label : (points : List PathPoint) (facts : List Fact) (p i : ℕ) (v : Bool) (before : List ℕ) → ControlPath points before p
    → (label : Label) → is_first facts label ≡ true → carried facts (acts_along points before) label ≡ Says i v → SaysAlong points facts p i v
from_label points facts p i v before path Here first is = cc
from_label points facts p i v before path (Says j b) first is =
    let same : j ≡ i = cc in
    let none : b ≡ false = not_false b (both_parts (nat_lt j (length facts)) (not b) first).1 in
    let truth : holds_along (acts_along points before) (fact_at facts j) b ≡ v = cc in
    record {
      before = before;
      path = path;
      is = (λ t. holds_along (acts_along points before) (fact_at facts (sym same t)) (sym none t)) ∙ truth;
    }

brought_says : (points : List PathPoint) (facts : List Fact) (p i : ℕ) (v : Bool) → Brought points facts p (Says i v) → SaysAlong points facts p i v
brought_says points facts p i v b = from_label points facts p i v b.before b.path b.label b.first b.becomes

says_brought : (points : List PathPoint) (facts : List Fact) (p i : ℕ) (v : Bool) → i < length facts → SaysAlong points facts p i v
    → Brought points facts p (Says i v)
says_brought points facts p i v within a = record {
  before = a.before;
  path = a.path;
  label = Says i false;
  first = both_true (nat_lt i (length facts)) true (lt-ltb i (length facts) within) refl;
  becomes = ap (Says i) a.is;
}

-- ---- both in the words of control paths

says_holds : (points : List PathPoint) (facts : List Fact) (p i : ℕ) → SaysAlong points facts p i true → MayHold points p (fact_at facts i)
says_holds points facts p i a = record {
  before = a.before;
  path = a.path;
  holds = (along-decides (fact_at facts i) (acts_along points a.before)).0 a.is;
}

holds_says : (points : List PathPoint) (facts : List Fact) (p i : ℕ) → MayHold points p (fact_at facts i) → SaysAlong points facts p i true
holds_says points facts p i h = record {
  before = h.before;
  path = h.path;
  is = (along-decides (fact_at facts i) (acts_along points h.before)).1 h.holds;
}

false_not : (b : Bool) (P : Type 0) → Decides b P → b ≡ false → P → ⊥
false_not b P d e p = (let t = d.1 p in cc)

not_so : (b : Bool) (P : Type 0) → Decides b P → (P → ⊥) → b ≡ false
not_so true P d n = absurd (n (d.0 refl))
not_so false P d n = refl

says_lacks : (points : List PathPoint) (facts : List Fact) (p i : ℕ) → SaysAlong points facts p i false → MayLack points p (fact_at facts i)
says_lacks points facts p i a = record {
  before = a.before;
  path = a.path;
  lacks = false_not _ _ (along-decides (fact_at facts i) (acts_along points a.before)) a.is;
}

lacks_says : (points : List PathPoint) (facts : List Fact) (p i : ℕ) → MayLack points p (fact_at facts i) → SaysAlong points facts p i false
lacks_says points facts p i h = record {
  before = h.before;
  path = h.path;
  is = not_so _ _ (along-decides (fact_at facts i) (acts_along points h.before)) h.lacks;
}

-- ---- a tree

-- what was found says of each fact by its number is what it says of the facts that are marked
listed : (facts : List Fact) (marks : List Bool) (P : Fact → Type 0)
    → ((i : ℕ) → i < length facts → (at marks i ≡ true → P (fact_at facts i)) × (P (fact_at facts i) → at marks i ≡ true))
    → (f : Fact) → (Has (marked facts marks) f → Has facts f × P f) × (Has facts f × P f → Has (marked facts marks) f)
listed facts marks P each f = (to, from)
  where
    to : Has (marked facts marks) f → Has facts f × P f
    to h =
        let n = marked_number facts marks f h in
        let within : n.0 < length facts = n.1.within in
        (subst (Has facts) n.1.is (number_has facts n.0 within), subst P n.1.is ((each n.0 within).0 n.2))

    from : Has facts f × P f → Has (marked facts marks) f
    from h =
        let n = has_number facts f h.0 in
        let within : n.0 < length facts = n.1.within in
        subst (Has (marked facts marks)) n.1.is (number_marked facts marks n.0 within ((each n.0 within).1 (subst P (sym n.1.is) h.1)))

pub exact : (points : List PathPoint) (facts : List Fact) (trees : List (Option FactState)) → is_some_point points
    → length trees ≡ length points → AreOver facts trees → SearchedOn points facts trees [] → IsExact points facts trees
exact points facts trees some count over s = record {
  count = count;
  none = λ p is r. subst (λ t. Shows t Here) is (to p Here (record { before = r.before; path = r.path; label = Here; first = refl; becomes = refl }));
  reached = λ p t is. (let b = from p Here (subst (λ t. Shows t Here) (sym is) tt) in record { before = b.before; path = b.path });
  some = λ p t is. at_point p t is (subst (IsOver facts) is (over p)).0;
}
  where
    from : (p : ℕ) (k : Label) → labels_of trees p k → Brought points facts p k
    from p k m = brings_brought points facts p k some ((found_exactly (flow_of points facts) (labels_of trees) s p k).0 m)

    to : (p : ℕ) (k : Label) → Brought points facts p k → labels_of trees p k
    to p k b = (found_exactly (flow_of points facts) (labels_of trees) s p k).1 (brought_brings points facts p k b)

    by_number : (p i : ℕ) (v : Bool) (t : FactState) → tree_at trees p ≡ Some t → i < length facts
        → (says t i v ≡ true → SaysAlong points facts p i v) × (SaysAlong points facts p i v → says t i v ≡ true)
    by_number p i v t is within = (
      λ e. brought_says points facts p i v (from p (Says i v) (subst (λ x. Shows x (Says i v)) (sym is) e)),
      λ a. subst (λ x. Shows x (Says i v)) is (to p (Says i v) (says_brought points facts p i v within a)),
    )

    may : (p i : ℕ) (t : FactState) → tree_at trees p ≡ Some t → i < length facts
        → (says t i true ≡ true → MayHold points p (fact_at facts i)) × (MayHold points p (fact_at facts i) → says t i true ≡ true)
    may p i t is within =
        let both = by_number p i true t is within in
        (λ e. says_holds points facts p i (both.0 e), λ h. both.1 (holds_says points facts p i h))

    lacks : (p i : ℕ) (t : FactState) → tree_at trees p ≡ Some t → i < length facts
        → (says t i false ≡ true → MayLack points p (fact_at facts i)) × (MayLack points p (fact_at facts i) → says t i false ≡ true)
    lacks p i t is within =
        let both = by_number p i false t is within in
        (λ e. says_lacks points facts p i (both.0 e), λ h. both.1 (lacks_says points facts p i h))

    at_point : (p : ℕ) (t : FactState) → tree_at trees p ≡ Some t → t.facts ≡ facts → IsExactAt points facts p t
    at_point p t is same = record {
      listed = same;
      may = λ f. subst (λ l. (Has (marked l t.may) f → Has facts f × MayHold points p f) × (Has facts f × MayHold points p f → Has (marked l t.may) f)) (sym same)
          (listed facts t.may (MayHold points p) (λ i within. may p i t is within) f);
      lacks = λ f. subst (λ l. (Has (marked l t.lacks) f → Has facts f × MayLack points p f) × (Has facts f × MayLack points p f → Has (marked l t.lacks) f)) (sym same)
          (listed facts t.lacks (MayLack points p) (λ i within. lacks p i t is within) f);
      may_at = λ i within. may p i t is within;
      lacks_at = λ i within. lacks p i t is within;
    }
