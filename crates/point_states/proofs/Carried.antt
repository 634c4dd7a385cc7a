-- A carry of a state to a point, as the law of labels wants it.
use Rattle.std.proofs.Common.{◌≡◌, ◌≢◌, refl, sym, ap, ◌∙◌, subst, ◌⊎◌, inl, inr, ℕ, zero, suc, set, get_or, ◌<◌, Bool, true, false, ◌||◌, not, List, [], ◌∷◌, zip, length, drop, Option, Some, None, get_or-set_same, get_or-set_other, arith}
use Rattle.std.proofs.Math.ListN.{length-set}
use Rattle.std.specs.Bool.{Decides}
use Rattle.std.specs.List.{list_all}
use Rattle.spark_base.specs.Lists.{Has}
use Rattle.place_names.specs.declared.act.Placed.{Placed}
use Rattle.place_names.specs.declared.fact.Fact.{Fact}
use Rattle.label_flow.specs.Searches.{Carried}
use Rattle.flow_paths.specs.declared.point.Point.{Point}
use Rattle.flow_paths.specs.Paths.{PathPoint, path_point, acts_at}
use Rattle.state_trees.specs.FactStates.{FactState, says, joined, either_mark, IsKept}
use Rattle.state_trees.proofs.FactByFact.{says-joined}
use Rattle.state_trees.proofs.Kept.{kept_joined}
use Rattle.state_trees.proofs.Passes.{has_all-decides}
use Rattle.point_states.specs.PointTrees.{tree_at, path_point_of, path_points_of, AreWithin}
use Rattle.point_states.specs.Labels.{Label, Here, Says, carried, flow_of, Shows, labels_of, SearchedOn}
use Rattle.point_states.specs.Carries.{acts_of, come_to, IsBrought, CarriedTo, IsOver, AreOver}
use Rattle.point_states.proofs.Moves.{IsMoved}
use Rattle.point_states.proofs.Work.{more_keeps, more_has, more_only}

same_or_not : (a b : ℕ) → (a ≡ b) ⊎ (a ≢ b)
same_or_not a b = grind arith

-- ---- at the point itself

either_left : (a b : Bool) → a ≡ true → (a || b) ≡ true
either_left a b e = ap (λ x. x || b) e

either_right : (a b : Bool) → b ≡ true → (a || b) ≡ true
either_right true b e = refl
either_right false b e = e

either_parts : (a b : Bool) → (a || b) ≡ true → (a ≡ true) ⊎ (b ≡ true)
either_parts true b e = inl refl
either_parts false b e = inr e

here_keeps : (s : FactState) (t : Option FactState) (k : Label) → IsKept s → IsOver s.facts t → Shows t k → Shows (Some (come_to s t)) k
here_keeps s None k ks o m = absurd m
here_keeps s (Some t) Here ks o m = tt
here_keeps s (Some t) (Says i b) ks o m = says-joined t s i b o.1 ks (sym o.0) ∙ either_left (says t i b) (says s i b) m

here_comes : (s : FactState) (t : Option FactState) (k : Label) → IsKept s → IsOver s.facts t → Shows (Some s) k → Shows (Some (come_to s t)) k
here_comes s None k ks o m = m
here_comes s (Some t) Here ks o m = tt
here_comes s (Some t) (Says i b) ks o m = says-joined t s i b o.1 ks (sym o.0) ∙ either_right (says t i b) (says s i b) m

here_only : (s : FactState) (t : Option FactState) (k : Label) → IsKept s → IsOver s.facts t → Shows (Some (come_to s t)) k
    → Shows t k ⊎ Shows (Some s) k
here_only s None k ks o m = inr m
here_only s (Some t) Here ks o m = inl tt
here_only s (Some t) (Says i b) ks o m = either_parts (says t i b) (says s i b) (sym (says-joined t s i b o.1 ks (sym o.0)) ∙ m)

here_over : (s : FactState) (t : Option FactState) → IsKept s → IsOver s.facts t → IsOver s.facts (Some (come_to s t))
here_over s None ks o = (refl, ks)
here_over s (Some t) ks o = (o.0, kept_joined t s o.1 ks (sym o.0))

-- ---- what a carry changes

pub tree_here : (q : ℕ) (s : FactState) (old new : List (Option FactState)) (work work' : List ℕ) → q < length old
    → CarriedTo q s old work new work' → tree_at new q ≡ Some (come_to s (tree_at old q))
tree_here q s old new work work' h c =
    ap (λ ts. tree_at ts q) c.trees ∙ get_or-set_same old q (Some (come_to s (tree_at old q))) None h

pub tree_else : (q : ℕ) (s : FactState) (old new : List (Option FactState)) (work work' : List ℕ) (r : ℕ) → r ≢ q
    → CarriedTo q s old work new work' → tree_at new r ≡ tree_at old r
tree_else q s old new work work' r ne c = (let e = ap (λ ts. tree_at ts r) c.trees in e ∙ (rw get_or-set_other refl))

carried_works : (q : ℕ) (s : FactState) (old new : List (Option FactState)) (work work' : List ℕ) → CarriedTo q s old work new work'
    → (a : ℕ) → Has work a → Has work' a
carried_works q s old new work work' c a h = elim c.works [
  | inl w ↦ subst (λ l. Has l a) (sym w.0) h
  | inr w ↦ subst (λ l. Has l a) (sym w.0) (more_keeps work q a h)
]

pub carry_carries : (points : List PathPoint) (facts : List Fact) (p q : ℕ) (now s : FactState) (old new : List (Option FactState))
    (work work' : List ℕ) → q < length old → IsKept s → AreOver s.facts old → IsMoved (carried facts (acts_at points p)) now s
    → CarriedTo q s old work new work'
    → Carried (flow_of points facts) p q (Shows (Some now)) (labels_of old) (labels_of new) work work'
carry_carries points facts p q now s old new work work' h ks over moved c =
    let here = tree_here q s old new work work' h c in
    record {
      keeps = λ a k m. elim (same_or_not a q) [
        | inl is ↦ subst (λ n. labels_of new n k) (sym is) (subst (λ t. Shows t k) (sym here)
            (here_keeps s (tree_at old q) k ks (over q) (subst (λ n. labels_of old n k) is m)))
        | inr other ↦ subst (λ t. Shows t k) (sym (tree_else q s old new work work' a other c)) m
      ];
      comes = λ k m. subst (λ t. Shows t (carried facts (acts_at points p) k)) (sym here)
          (here_comes s (tree_at old q) (carried facts (acts_at points p) k) ks (over q) (moved.comes k m));
      only = λ a k m. elim (same_or_not a q) [
        | inl is ↦ elim (here_only s (tree_at old q) k ks (over q) (subst (λ t. Shows t k) here (subst (λ n. labels_of new n k) is m))) [
          | inl was ↦ inl (subst (λ n. labels_of old n k) (sym is) was)
          | inr came ↦ (let from = moved.only k came in inr (is, (from.0, from.1, from.2)))
        ]
        | inr other ↦ inl (subst (λ t. Shows t k) (tree_else q s old new work work' a other c) m)
      ];
      works = carried_works q s old new work work' c;
      pushed = λ a k m. elim (same_or_not a q) [
        | inl is ↦ elim c.works [
          | inl same ↦ inl (subst (λ n. labels_of old n k) (sym is) (subst (λ t. Shows t k) (here ∙ sym same.1) (subst (λ n. labels_of new n k) is m)))
          | inr more ↦ inr (subst (Has work') (sym is) (subst (λ l. Has l q) (sym more.0) (more_has work q)))
        ]
        | inr other ↦ inl (subst (λ t. Shows t k) (tree_else q s old new work work' a other c) m)
      ];
    }

pub carried_over : (q : ℕ) (s : FactState) (old new : List (Option FactState)) (work work' : List ℕ) → q < length old → IsKept s
    → AreOver s.facts old → CarriedTo q s old work new work' → AreOver s.facts new
carried_over q s old new work work' h ks over c r = elim (same_or_not r q) [
  | inl is ↦ subst (λ n. IsOver s.facts (tree_at new n)) (sym is)
      (subst (IsOver s.facts) (sym (tree_here q s old new work work' h c)) (here_over s (tree_at old q) ks (over q)))
  | inr other ↦ subst (IsOver s.facts) (sym (tree_else q s old new work work' r other c)) (over r)
]

pub carried_count : (q : ℕ) (s : FactState) (old new : List (Option FactState)) (work work' : List ℕ) → CarriedTo q s old work new work'
    → length new ≡ length old
carried_count q s old new work work' c = ap length c.trees ∙ length-set old q (Some (come_to s (tree_at old q)))

pub carried_places : (n q : ℕ) (s : FactState) (old new : List (Option FactState)) (work work' : List ℕ) → q < n
    → CarriedTo q s old work new work' → ((a : ℕ) → Has work a → a < n) → (a : ℕ) → Has work' a → a < n
carried_places n q s old new work work' h c places a m = elim c.works [
  | inl w ↦ places a (subst (λ l. Has l a) w.0 m)
  | inr w ↦ elim (more_only work q a (subst (λ l. Has l a) w.0 m)) [
    | inl old ↦ places a old
    | inr e ↦ subst (λ x. x < n) e h
  ]
]

-- ---- what the code does

set_twice : (trees : List (Option FactState)) (q : ℕ) (a b : Option FactState) → set (set trees q a) q b ≡ set trees q b
set_twice [] q a b = refl
set_twice (t ∷ trees) zero a b = refl
set_twice (t ∷ trees) (suc q) a b = ap (λ l. t ∷ l) (set_twice trees q a b)

-- the tree was taken out and a state put in its place
pub brought : (q : ℕ) (s u : FactState) (old new : List (Option FactState)) (a t : Option FactState) (changed : Bool)
    → t ≡ tree_at old q → u ≡ come_to s t → new ≡ set (set old q a) q (Some u)
    → (changed ≡ false → t ≡ Some u) → (changed ≡ true → t ≢ Some u) → IsBrought q s old new changed
brought q s u old new a t changed was is made same changes =
    let value : Some u ≡ Some (come_to s (tree_at old q)) = ap Some is ∙ ap (λ x. Some (come_to s x)) was in
    record {
      trees = made ∙ set_twice old q a (Some u) ∙ ap (set old q) value;
      same = λ e. sym was ∙ same e ∙ value;
      changes = λ e is. changes e (was ∙ is ∙ sym value);
    }

-- a state that doesn't differ from a join is the join
mark_stable : (mine other : List Bool) → length mine ≡ length other → ((either_mark mine other ≡ mine → ⊥) → ⊥) → either_mark mine other ≡ mine
mark_stable mine other e nn = from (list_all (λ p. p.0 || not p.1) (zip mine other)) (has_all-decides mine other e)
  where
    from : (b : Bool) → Decides b (either_mark mine other ≡ mine) → either_mark mine other ≡ mine
    from true d = d.0 refl
    from false d = absurd (nn (λ is. (let no = d.1 is in cc)))

pub joined_stable : (t s : FactState) → IsKept t → IsKept s → t.facts ≡ s.facts → ((joined t s ≡ t → ⊥) → ⊥) → joined t s ≡ t
joined_stable t s kt ks same nn =
    let counts : length t.facts ≡ length s.facts = ap length same in
    let may = mark_stable t.may s.may (kt.may ∙ counts ∙ sym ks.may) (λ no. nn (λ e. no (ap (λ (x : FactState). x.may) e))) in
    let lacks = mark_stable t.lacks s.lacks (kt.lacks ∙ counts ∙ sym ks.lacks) (λ no. nn (λ e. no (ap (λ (x : FactState). x.lacks) e))) in
    λ i. record { facts = t.facts; may = may i; lacks = lacks i }

-- a state that was joined
pub joined_brought : (q : ℕ) (s t u : FactState) (old new : List (Option FactState)) (a : Option FactState) (changed : Bool)
    → IsKept s → AreOver s.facts old → Some t ≡ tree_at old q → u ≡ joined t s → new ≡ set (set old q a) q (Some u)
    → (changed ≡ true → u ≡ t → ⊥) → ((u ≡ t → ⊥) → changed ≡ true) → IsBrought q s old new changed
joined_brought q s t u old new a changed ks over was is made changes moves =
    let o : IsOver s.facts (Some t) = subst (IsOver s.facts) (sym was) (over q) in
    brought q s u old new a (Some t) changed was is made
    (λ stays. ap Some (sym (is ∙ joined_stable t s o.1 ks o.0 (λ n. (let e : changed ≡ true = moves (λ e. n (sym is ∙ e)) in cc)))))
    (λ e same. changes e (let back : t ≡ u = cc in sym back))

-- ---- one point of the worklist

-- a point without a tree has nothing to carry
pub turn_none : (points : List PathPoint) (facts : List Fact) (trees : List (Option FactState)) (p : ℕ) (work : List ℕ)
    → SearchedOn points facts trees (p ∷ work) → tree_at trees p ≡ None → SearchedOn points facts trees work
turn_none points facts trees p work s is = record {
  sound = s.sound;
  start = s.start;
  closed = λ a b k m edge. elim (s.closed a b k m edge) [
    | inl h ↦ elim h [
      | inl e ↦ absurd (subst (λ t. Shows t k) is (subst (λ n. labels_of trees n k) (sym e) m))
      | inr h ↦ inl h
    ]
    | inr d ↦ inr d
  ];
}

pub same_default : {A : Type 0} (xs : List A) (n : ℕ) (d e : A) → n < length xs → get_or xs n d ≡ get_or xs n e
same_default [] n d e h = absurd (omega arith)
same_default (x ∷ xs) zero d e h = refl
same_default (x ∷ xs) (suc n) d e h = same_default xs n d e (omega arith)

pub dropped : (xs : List ℕ) (i d : ℕ) → i < length xs → drop i xs ≡ get_or xs i d ∷ drop (suc i) xs
dropped [] i d h = absurd (omega arith)
dropped (x ∷ xs) zero d h = refl
dropped (x ∷ xs) (suc i) d h = dropped xs i d (omega arith)

point_is : (points : List Point) (p : ℕ) (d : Point) → p < length points → path_point_of (get_or points p d) ≡ path_point (path_points_of points) p
point_is [] p d h = absurd (omega arith)
point_is (x ∷ points) zero d h = refl
point_is (x ∷ points) (suc p) d h = point_is points p d (omega arith)

pub points_counted : (points : List Point) → length (path_points_of points) ≡ length points
points_counted [] = refl
points_counted (x ∷ points) = ap suc (points_counted points)

pub next_is : (points : List Point) (p : ℕ) (d : Point) (next : List ℕ) → p < length points → next ≡ (get_or points p d).next
    → next ≡ (path_point (path_points_of points) p).next
next_is points p d next h is = is ∙ ap (λ (x : PathPoint). x.next) (point_is points p d h)

pub acts_is : (points : List Point) (p : ℕ) (d : Point) (acts : List Placed) → p < length points → acts ≡ (get_or points p d).acts
    → acts_of acts ≡ acts_at (path_points_of points) p
acts_is points p d acts h is = ap acts_of is ∙ ap (λ (x : PathPoint). acts_of x.acts) (point_is points p d h)

-- a successor is a point
pub next_within : (points : List Point) (p : ℕ) (next : List ℕ) → AreWithin (path_points_of points)
    → next ≡ (path_point (path_points_of points) p).next → (q : ℕ) → Has next q → q < length points
next_within points p next edges is q h = subst (λ n. q < n) (points_counted points) (edges p q (subst (λ l. Has l q) is h))
