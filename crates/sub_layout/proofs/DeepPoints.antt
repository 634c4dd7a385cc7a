-- Points that have names which are too deep, and those that have none.
use Rattle.std.proofs.Common.{◌≡◌, Bool, true, false, not, ◌&&◌, ◌||◌, List, [], ◌∷◌, ◌++◌, map, flat_map, IsTrue, refl, sym, ap, ◌∙◌, subst}
use Rattle.std.specs.List.{list_any, list_all}
use Rattle.std.proofs.lemmas.List.Folds.{list_any-append}
use Rattle.place_names.specs.declared.act.Placed.{Placed}
use Rattle.place_names.specs.declared.fact.Fact.{Fact}
use Rattle.place_names.specs.Facts.{place, adds}
use Rattle.typed_tree.specs.Nodes.{TypedNodes}
use Rattle.flow_paths.specs.declared.point.LeakSpot.{LeakSpot}
use Rattle.flow_paths.specs.declared.point.Point.{Point}
use Rattle.flow_paths.specs.Limits.{NameAt, act_name, act_names, is_deep, name_at}
use Rattle.flow_paths.specs.Points.{FlowPoint}
use Rattle.flow_paths.specs.Stands.{flow_point_of}
use Rattle.flow_acts.specs.Depths.{deep_names, deep_spots, has_deep}
use Rattle.flow_acts.proofs.Deep.{deep_names_is, left_true, right_true}
use Rattle.sub_summary.specs.Gathered.{acts_of, are_shallow, points_shallow}
use Rattle.sub_layout.specs.Dressed.{has_deep_point, is_deep_point, points_in}

abbrev deep_at : NameAt → Bool
deep_at n = is_deep n.name

any_spots : (spots : List LeakSpot) → list_any deep_at (map (λ (spot : LeakSpot). name_at spot.pos spot.name) spots) ≡ deep_spots spots
any_spots [] = refl
any_spots (s ∷ spots) = ap (λ b. is_deep s.name || b) (any_spots spots)

-- The names of a point are those of its acts and those of its leak checks.
pub point_is : (p : FlowPoint) → is_deep_point p ≡ (deep_names p.instr p.acts || deep_spots p.leaks)
point_is p =
    list_any-append deep_at (flat_map (act_names p.instr) p.acts) (map (λ (spot : LeakSpot). name_at spot.pos spot.name) p.leaks)
    ∙ ap (λ b. deep_names p.instr p.acts || b) (any_spots p.leaks)

pub acts_deep : (p : FlowPoint) → IsTrue (deep_names p.instr p.acts) → IsTrue (is_deep_point p)
acts_deep p e = subst (λ b. IsTrue b) (sym (point_is p)) (left_true (deep_names p.instr p.acts) (deep_spots p.leaks) e)

pub leaks_deep : (p : FlowPoint) → IsTrue (deep_spots p.leaks) → IsTrue (is_deep_point p)
leaks_deep p e = subst (λ b. IsTrue b) (sym (point_is p)) (right_true (deep_names p.instr p.acts) (deep_spots p.leaks) e)

neither : (a b : Bool) → a ≡ false → b ≡ false → (a || b) ≡ false
neither true b e f = e
neither false b e f = f

pub none_deep : (p : FlowPoint) → deep_names p.instr p.acts ≡ false → deep_spots p.leaks ≡ false → is_deep_point p ≡ false
none_deep p e f = point_is p ∙ neither (deep_names p.instr p.acts) (deep_spots p.leaks) e f

-- ---- lists of points

-- One more that has no such name.
pub deep_none : (points : List FlowPoint) (p : FlowPoint) → has_deep_point points ≡ false → is_deep_point p ≡ false
    → has_deep_point (points ++ p ∷ []) ≡ false
deep_none points p none one =
    list_any-append is_deep_point points (p ∷ [])
    ∙ neither (has_deep_point points) (is_deep_point p || false) none (neither (is_deep_point p) false one refl)

-- One that has such a name.
pub deep_some : (points rest all : List FlowPoint) (p : FlowPoint) → IsTrue (is_deep_point p) → points ++ p ∷ rest ≡ all
    → IsTrue (has_deep_point all)
deep_some points rest all p one is =
    subst (λ xs. IsTrue (has_deep_point xs)) is
    (subst (λ b. IsTrue b) (sym (list_any-append is_deep_point points (p ∷ rest)))
    (right_true (has_deep_point points) (is_deep_point p || has_deep_point rest) (left_true (is_deep_point p) (has_deep_point rest) one)))

-- ---- the names of facts

first_no : (a b : Bool) → (a || b) ≡ false → a ≡ false
first_no true b e = e
first_no false b e = refl

second_no : (a b : Bool) → (a || b) ≡ false → b ≡ false
second_no true b e = let no : false ≡ true = sym e in cc
second_no false b e = e

both_yes : (a b : Bool) → a ≡ true → b ≡ true → (a && b) ≡ true
both_yes true b e f = f
both_yes false b e f = e

facts_shallow : (facts : List Fact) → list_any (λ f. is_deep (place f)) facts ≡ false → are_shallow facts ≡ true
facts_shallow [] e = refl
facts_shallow (f ∷ facts) e =
    let here : is_deep (place f) ≡ false = first_no (is_deep (place f)) (list_any (λ g. is_deep (place g)) facts) e in
    both_yes (not (is_deep (place f))) (are_shallow facts) (ap not here)
    (facts_shallow facts (second_no (is_deep (place f)) (list_any (λ g. is_deep (place g)) facts) e))

acts_shallow : (acts : List Placed) → has_deep acts ≡ false → list_all (λ a. are_shallow (adds a)) (map (λ (a : Placed). a.act) acts) ≡ true
acts_shallow [] e = refl
acts_shallow (a ∷ acts) e =
    let named : Bool = is_deep (act_name a.act) in
    let added : Bool = list_any (λ f. is_deep (place f)) (adds a.act) in
    let here : added ≡ false = second_no named added (first_no (named || added) (has_deep acts) e) in
    both_yes (are_shallow (adds a.act)) (list_all (λ b. are_shallow (adds b)) (map (λ (b : Placed). b.act) acts))
    (facts_shallow (adds a.act) here) (acts_shallow acts (second_no (named || added) (has_deep acts) e))

-- No fact of points without such a name has one.
pub all_shallow : (rows : TypedNodes) (points : List Point) → has_deep_point (points_in rows points) ≡ false → points_shallow points ≡ true
all_shallow rows [] e = refl
all_shallow rows (p ∷ points) e =
    let q : FlowPoint = flow_point_of rows p in
    let here : is_deep_point q ≡ false = first_no (is_deep_point q) (has_deep_point (points_in rows points)) e in
    let names : deep_names q.instr q.acts ≡ false = first_no (deep_names q.instr q.acts) (deep_spots q.leaks) (sym (point_is q) ∙ here) in
    both_yes (list_all (λ a. are_shallow (adds a)) (acts_of p)) (points_shallow points)
    (acts_shallow p.acts (sym (deep_names_is q.instr q.acts) ∙ names))
    (all_shallow rows points (second_no (is_deep_point q) (has_deep_point (points_in rows points)) e))
