-- What lists of facts that grow have: each fact once, in the order of its first coming.
use Rattle.std.proofs.Common.{◌≡◌, ◌≤◌, ◌<◌, ℕ, zero, suc, ◌+◌, Bool, true, false, not, ◌&&◌, ◌||◌, List, [], ◌∷◌, ◌++◌, filter, map, flat_map, take, drop, get_or, length, refl, sym, ap, ◌∙◌, subst, arith, if◌then◌else◌}
use Rattle.std.specs.List.{list_any, list_all}
use Rattle.std.proofs.lemmas.List.{append_assoc, append-nil, length-append, map-append, take_more, take-append-drop}
use Rattle.std.proofs.lemmas.List.Folds.{list_any-append, list_all-map}
use Rattle.std.proofs.lemmas.Grind.{flat_map-append}
use Rattle.std.proofs.lemmas.Bool.{ltb-false}
use Rattle.place_names.specs.declared.selector.Sel.{Sel}
use Rattle.place_names.specs.Names.{Name, extend}
use Rattle.place_names.specs.declared.act.Act.{Act}
use Rattle.place_names.specs.declared.act.Placed.{Placed}
use Rattle.place_names.specs.declared.fact.Fact.{Fact}
use Rattle.place_names.specs.declared.fact.Fact.TheVariants.{Moved}
use Rattle.place_names.specs.Facts.{is_same_fact, place, adds}
use Rattle.place_names.proofs.Names.{both_parts}
use Rattle.place_names.proofs.Facts.{is_same_fact-decides}
use Rattle.flow_paths.specs.declared.point.Point.{Point}
use Rattle.flow_paths.specs.Laid.{distinct}
use Rattle.flow_paths.specs.Limits.{is_deep}
use Rattle.sub_summary.specs.Gathered.{acts_of, point_facts, are_shallow}
use Rattle.sub_summary.specs.FactLists.{with_fact, with_facts}

-- a fact isn't among some
abbrev pub is_new : List Fact → Fact → Bool
is_new facts g = not (list_any (λ f. is_same_fact f g) facts)

abbrev other : Fact → Fact → Bool
other x g = not (is_same_fact x g)

pub with_facts_append : (facts xs ys : List Fact) → with_facts facts (xs ++ ys) ≡ with_facts (with_facts facts xs) ys
with_facts_append facts [] ys = refl
with_facts_append facts (x ∷ xs) ys = with_facts_append (with_fact facts x) xs ys

-- ---- filters

skip_step : (P Q : Fact → Bool) (p q : Bool) (g : Fact) (l : List Fact) → P g ≡ p → Q g ≡ q → (p ≡ true → q ≡ true)
    → filter P (filter Q l) ≡ filter P l → filter P (filter Q (g ∷ l)) ≡ filter P (g ∷ l)
skip_step P Q true true g l is there implies same = grind (arith, is, there, same)
skip_step P Q false true g l is there implies same = grind (arith, is, there, same)
skip_step P Q false false g l is there implies same = grind (arith, is, there, same)
skip_step P Q true false g l is there implies same = let no : false ≡ true = implies refl in cc

-- where the second test follows from the first one
skip_test : (P Q : Fact → Bool) → ((g : Fact) → P g ≡ true → Q g ≡ true) → (l : List Fact) → filter P (filter Q l) ≡ filter P l
skip_test P Q implies [] = refl
skip_test P Q implies (g ∷ l) = skip_step P Q (P g) (Q g) g l refl refl (implies g) (skip_test P Q implies l)

both_step : (P Q R : Fact → Bool) (p q : Bool) (g : Fact) (l : List Fact) → P g ≡ p → Q g ≡ q → R g ≡ (q && p)
    → filter P (filter Q l) ≡ filter R l → filter P (filter Q (g ∷ l)) ≡ filter R (g ∷ l)
both_step P Q R true true g l here there is same = grind (arith, here, there, is, same)
both_step P Q R false true g l here there is same = grind (arith, here, there, is, same)
both_step P Q R true false g l here there is same = grind (arith, here, there, is, same)
both_step P Q R false false g l here there is same = grind (arith, here, there, is, same)

-- two tests one after the other are one
both_tests : (P Q R : Fact → Bool) → ((g : Fact) → R g ≡ (Q g && P g)) → (l : List Fact) → filter P (filter Q l) ≡ filter R l
both_tests P Q R is [] = refl
both_tests P Q R is (g ∷ l) = both_step P Q R (P g) (Q g) g l refl refl (is g) (both_tests P Q R is l)

-- ---- what comes to a list

-- a fact that isn't among those that have x is another one than x
new_is_other : (facts : List Fact) (x : Fact) → list_any (λ f. is_same_fact f x) facts ≡ true → (g : Fact) → is_new facts g ≡ true → other x g ≡ true
new_is_other facts x there g fresh = step (is_same_fact x g) refl
  where
    step : (b : Bool) → is_same_fact x g ≡ b → other x g ≡ true
    step false is = ap not is
    step true is =
        let same : x ≡ g = (is_same_fact-decides x g).0 is in
        let among : list_any (λ f. is_same_fact f g) facts ≡ true = subst (λ (z : Fact). list_any (λ f. is_same_fact f z) facts ≡ true) same there in
        let no : false ≡ true = sym (ap not among) ∙ fresh in cc

-- not among more facts: another one than the last, and not among those before
new_of_more : (facts : List Fact) (x g : Fact) → is_new (facts ++ x ∷ []) g ≡ (other x g && is_new facts g)
new_of_more facts x g =
    ap not (list_any-append (λ f. is_same_fact f g) facts (x ∷ [])) ∙ step (list_any (λ f. is_same_fact f g) facts) (is_same_fact x g)
  where
    step : (a b : Bool) → not (a || (b || false)) ≡ (not b && not a)
    step true true = refl
    step true false = refl
    step false true = refl
    step false false = refl

comes_step : (b : Bool) (facts : List Fact) (x : Fact) (xs : List Fact) → list_any (λ f. is_same_fact f x) facts ≡ b
    → ((l : List Fact) → with_facts l xs ≡ l ++ filter (is_new l) (distinct xs))
    → with_facts facts (x ∷ xs) ≡ facts ++ filter (is_new facts) (x ∷ filter (other x) (distinct xs))
comes_step true facts x xs there each =
    let rest : filter (is_new facts) (filter (other x) (distinct xs)) ≡ filter (is_new facts) (distinct xs) =
    skip_test (is_new facts) (other x) (new_is_other facts x there) (distinct xs) in
    let stays : with_fact facts x ≡ facts = ap (λ (b : Bool). if b then facts else facts ++ x ∷ []) there in
    let old : is_new facts x ≡ false = ap not there in
    let gone : filter (is_new facts) (x ∷ filter (other x) (distinct xs)) ≡ filter (is_new facts) (filter (other x) (distinct xs)) =
    ap (λ (b : Bool). if b then x ∷ filter (is_new facts) (filter (other x) (distinct xs)) else filter (is_new facts) (filter (other x) (distinct xs))) old in
    ap (λ (l : List Fact). with_facts l xs) stays ∙ each facts ∙ ap (λ (l : List Fact). facts ++ l) (sym rest ∙ sym gone)
comes_step false facts x xs none each =
    let grows : with_fact facts x ≡ facts ++ x ∷ [] = ap (λ (b : Bool). if b then facts else facts ++ x ∷ []) none in
    let fresh : is_new facts x ≡ true = ap not none in
    let rest : filter (is_new facts) (filter (other x) (distinct xs)) ≡ filter (is_new (facts ++ x ∷ [])) (distinct xs) =
    both_tests (is_new facts) (other x) (is_new (facts ++ x ∷ [])) (new_of_more facts x) (distinct xs) in
    let kept : filter (is_new facts) (x ∷ filter (other x) (distinct xs)) ≡ x ∷ filter (is_new facts) (filter (other x) (distinct xs)) =
    ap (λ (b : Bool). if b then x ∷ filter (is_new facts) (filter (other x) (distinct xs)) else filter (is_new facts) (filter (other x) (distinct xs))) fresh in
    ap (λ (l : List Fact). with_facts l xs) grows ∙ each (facts ++ x ∷ [])
    ∙ append_assoc facts (x ∷ []) (filter (is_new (facts ++ x ∷ [])) (distinct xs))
    ∙ ap (λ (l : List Fact). facts ++ x ∷ l) (sym rest) ∙ ap (λ (l : List Fact). facts ++ l) (sym kept)

pub with_facts_is : (facts xs : List Fact) → with_facts facts xs ≡ facts ++ filter (is_new facts) (distinct xs)
unfolding distinct
with_facts_is facts [] = sym (append-nil facts)
with_facts_is facts (x ∷ xs) = comes_step (list_any (λ f. is_same_fact f x) facts) facts x xs refl (λ l. with_facts_is l xs)

all_new : (xs : List Fact) → filter (is_new []) xs ≡ xs
all_new [] = refl
all_new (x ∷ xs) = ap (λ (l : List Fact). x ∷ l) (all_new xs)

-- from nothing on, the list has each fact once
pub with_facts_distinct : (xs : List Fact) → with_facts [] xs ≡ distinct xs
with_facts_distinct xs = with_facts_is [] xs ∙ all_new (distinct xs)

-- no fact goes
pub with_facts_grow : (facts xs : List Fact) → length facts ≤ length (with_facts facts xs)
with_facts_grow facts xs =
    let e = ap length (with_facts_is facts xs) ∙ length-append facts (filter (is_new facts) (distinct xs)) in omega (arith, e)

-- ---- steps of loops

pub extend_step : (m : Name) (k : List Sel) (s : Sel) → extend (extend m k) (s ∷ []) ≡ extend m (k ++ s ∷ [])
extend_step m k s = λ i. record { root = m.root; sels = append_assoc m.sels k (s ∷ []) i }

abbrev moved : Name → List Sel → Fact
moved m q = Moved (extend m q)

pub moves_step : (facts : List Fact) (m : Name) (parts : List (List Sel)) (i : ℕ) (q : List Sel) → i < length parts → q ≡ get_or parts i q
    → with_fact (with_facts facts (map (moved m) (take i parts))) (moved m q) ≡ with_facts facts (map (moved m) (take (i + 1) parts))
moves_step facts m parts i q below is =
    let more : map (moved m) (take (i + 1) parts) ≡ map (moved m) (take i parts) ++ moved m q ∷ [] =
    ap (map (moved m)) (take_more parts i q below) ∙ map-append (moved m) (take i parts) (get_or parts i q ∷ [])
    ∙ ap (λ (z : List Sel). map (moved m) (take i parts) ++ moved m z ∷ []) (sym is) in
    sym (with_facts_append facts (map (moved m) (take i parts)) (moved m q ∷ [])) ∙ ap (with_facts facts) (sym more)

abbrev pub added : Placed → List Fact
added a = adds a.act

abbrev pub flat_added : List Placed → List Fact
flat_added acts = flat_map added acts

more_added : (acts : List Placed) (i : ℕ) (p : Placed) → i < length acts → p ≡ get_or acts i p
    → flat_map added (take (i + 1) acts) ≡ flat_map added (take i acts) ++ added p
more_added acts i p below is =
    ap (flat_map added) (take_more acts i p below) ∙ flat_map-append added (take i acts) (get_or acts i p ∷ [])
    ∙ ap (λ (z : Placed). flat_map added (take i acts) ++ (added z ++ [])) (sym is)
    ∙ ap (λ (l : List Fact). flat_map added (take i acts) ++ l) (append-nil (added p))

pub acts_step : (facts : List Fact) (acts : List Placed) (i : ℕ) (p : Placed) → i < length acts → p ≡ get_or acts i p
    → with_facts (with_facts facts (flat_map added (take i acts))) (adds p.act) ≡ with_facts facts (flat_map added (take (i + 1) acts))
acts_step facts acts i p below is =
    sym (with_facts_append facts (flat_map added (take i acts)) (added p)) ∙ ap (with_facts facts) (sym (more_added acts i p below is))

-- what a beginning has, the whole has
pub acts_many : (facts : List Fact) (acts : List Placed) (i : ℕ)
    → length (with_facts facts (flat_map added (take i acts))) ≤ length (with_facts facts (flat_map added acts))
acts_many facts acts i =
    let whole : flat_map added acts ≡ flat_map added (take i acts) ++ flat_map added (drop i acts) =
    ap (flat_map added) (sym (take-append-drop i acts)) ∙ flat_map-append added (take i acts) (drop i acts) in
    let e = ap (λ (l : List Fact). length (with_facts facts l)) whole
    ∙ ap length (with_facts_append facts (flat_map added (take i acts)) (flat_map added (drop i acts))) in
    let grows = with_facts_grow (with_facts facts (flat_map added (take i acts))) (flat_map added (drop i acts)) in
    omega (arith, e, grows)

-- ---- points

abbrev pub point_added : List Point → List Fact
point_added points = flat_map adds (flat_map acts_of points)

adds_of : (acts : List Placed) → flat_map adds (map (λ (a : Placed). a.act) acts) ≡ flat_map added acts
adds_of [] = refl
adds_of (a ∷ acts) = ap (λ (l : List Fact). adds a.act ++ l) (adds_of acts)

more_points : (points : List Point) (i : ℕ) (p : Point) → i < length points → p ≡ get_or points i p
    → point_added (take (i + 1) points) ≡ point_added (take i points) ++ flat_map added p.acts
more_points points i p below is =
    ap point_added (take_more points i p below) ∙ ap (flat_map adds) (flat_map-append acts_of (take i points) (get_or points i p ∷ []))
    ∙ flat_map-append adds (flat_map acts_of (take i points)) (flat_map acts_of (get_or points i p ∷ []))
    ∙ ap (λ (z : Point). point_added (take i points) ++ flat_map adds (acts_of z ++ [])) (sym is)
    ∙ ap (λ (l : List Act). point_added (take i points) ++ flat_map adds l) (append-nil (acts_of p))
    ∙ ap (λ (l : List Fact). point_added (take i points) ++ l) (adds_of p.acts)

pub points_step : (points : List Point) (i : ℕ) (p : Point) → i < length points → p ≡ get_or points i p
    → with_facts (with_facts [] (point_added (take i points))) (flat_map added p.acts) ≡ with_facts [] (point_added (take (i + 1) points))
points_step points i p below is =
    sym (with_facts_append [] (point_added (take i points)) (flat_map added p.acts)) ∙ ap (with_facts []) (sym (more_points points i p below is))

pub points_many : (points : List Point) (i : ℕ) → length (with_facts [] (point_added (take i points))) ≤ length (point_facts points)
points_many points i =
    let whole : point_added points ≡ point_added (take i points) ++ point_added (drop i points) =
    ap point_added (sym (take-append-drop i points)) ∙ ap (flat_map adds) (flat_map-append acts_of (take i points) (drop i points))
    ∙ flat_map-append adds (flat_map acts_of (take i points)) (flat_map acts_of (drop i points)) in
    let e = ap length (sym (with_facts_distinct (point_added points))) ∙ ap (λ (l : List Fact). length (with_facts [] l)) whole
    ∙ ap length (with_facts_append [] (point_added (take i points)) (point_added (drop i points))) in
    let grows = with_facts_grow (with_facts [] (point_added (take i points))) (point_added (drop i points)) in
    omega (arith, e, grows)

-- ---- names within their limit

-- what a test says of each element, it says of one
pub each_passes : {X : Type 0} (test : X → Bool) (xs : List X) (i : ℕ) (x : X) → i < length xs → x ≡ get_or xs i x → list_all test xs ≡ true
    → test x ≡ true
each_passes test [] i x below is all = let no : ⊥ = omega (arith, below) in absurd no
each_passes test (y ∷ xs) zero x below is all = ap test is ∙ (both_parts (test y) (list_all test xs) all).0
each_passes test (y ∷ xs) (suc i) x below is all =
    each_passes test xs i x (omega (arith, below)) is (both_parts (test y) (list_all test xs) all).1

denied : (b : Bool) → not b ≡ true → b ≡ false
denied true e = cc
denied false e = refl

pub shallow_part : (m : Name) (parts : List (List Sel)) (i : ℕ) (q : List Sel) → i < length parts → q ≡ get_or parts i q
    → are_shallow (map (moved m) parts) ≡ true → length m.sels + length q ≤ 16
shallow_part m parts i q below is all =
    let each = sym (list_all-map (λ (f : Fact). not (is_deep (place f))) (moved m) parts) ∙ all in
    let passes = each_passes (λ (p : List Sel). not (is_deep (extend m p))) parts i q below is each in
    let within : length (m.sels ++ q) ≤ 16 = ltb-false 16 (length (m.sels ++ q)) (denied _ passes) in
    let e = length-append m.sels q in omega (arith, within, e)
