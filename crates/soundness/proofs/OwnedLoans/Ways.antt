-- How ways go on, and the names of owners that names through views stand for.
use Rattle.std.proofs.Common.{◌≡◌, refl, sym, ap, ◌∙◌, subst, ◌⊎◌, inl, inr, ℕ, ◌==◌, eqb-true, eq-eqb, Bool, true, false, List, [], ◌∷◌, length, suc, ◌+◌, arith, Option, Some, None, is_some}
use Rattle.std.proofs.lemmas.Bool.{true≢false, false≢true}
use Rattle.machine.specs.place_names.Names.{overlaps}
use Rattle.soundness.specs.OwnedWays.Ways.{Step, Root, OfVariable, OfHand, OfRoot, Way, Object, Lost, Into, All, Under, Named, along, base_of, number_of, name_of}
use Rattle.soundness.proofs.OwnedWays.Locations.{depth, under_depth, under_itself}
use Rattle.soundness.proofs.OwnedWays.Named.{longer, under_overlaps, under_front}
use Rattle.soundness.specs.OwnedLoans.Views.{Go, Part, Down, go, on, Views, expand_root, expand_part, inner_steps, part_from, part_at, way_at, expand, IsObject, IsForeign, Lifted, InPart}
use Rattle.soundness.proofs.Parted.{by_either}

-- ---- beginnings of ways

-- two beginnings of one way: one begins the other
pub beginnings : (a b w : Way) → Under a w → Under b w → Under a b ⊎ Under b a
beginnings a b (Object x) u v = inl (subst (λ z. Under a z) (sym v) u)
beginnings a b (Lost n) u v = inl (subst (λ z. Under a z) (sym v) u)
beginnings a b (Into w i) u v = by_either v
    (λ e. (inl (subst (λ z. Under a z) (sym e) u)))
    (λ v. (by_either u (λ e. (inr (subst (λ z. Under b z) (sym e) (inr v)))) (λ u. (beginnings a b w u v))))
beginnings a b (All w) u v = by_either v
    (λ e. (inl (subst (λ z. Under a z) (sym e) u)))
    (λ v. (by_either u (λ e. (inr (subst (λ z. Under b z) (sym e) (inr v)))) (λ u. (beginnings a b w u v))))

-- One of two ways begins the other.
abbrev pub Meet : Way → Way → Type 0
Meet a b = Under a b ⊎ Under b a

pub flip : (a b : Way) → Meet a b → Meet b a
flip a b m = elim m [ inl u ↦ inr u | inr u ↦ inl u ]

pub under_on : (a b c : Way) → Under a b → Under b c → Under a c
under_on a b (Object x) u w = subst (Under a) w u
under_on a b (Lost n) u w = subst (Under a) w u
under_on a b (Into c i) u w = by_either w (λ e. (subst (Under a) e u)) (λ w. (inr (under_on a b c u w)))
under_on a b (All c) u w = by_either w (λ e. (subst (Under a) e u)) (λ w. (inr (under_on a b c u w)))

-- what begins one way meets what the way meets
pub meets_on : (a x b : Way) → Under a x → Meet x b → Meet a b
meets_on a x b u m = by_either m (λ w. (inl (under_on a x b u w))) (λ w. (beginnings a b x u w))

-- what meets a way meets what begins it
pub meets_front : (a w z : Way) → Under a w → Meet z w → Meet z a
meets_front a w z u m = elim m [ inl above ↦ beginnings z a w above u | inr below ↦ inr (under_on a w z u below) ]

-- ways that meet begin at one root
pub meet_base : (a b : Way) → Meet a b → base_of a ≡ base_of b
meet_base a b m = elim m [ inl u ↦ sym (longer a b u).base | inr u ↦ (longer b a u).base ]

-- ways that meet have names that overlap
pub meet_overlaps : (a b : Way) → Meet a b → overlaps (name_of a) (name_of b) ≡ true
meet_overlaps a b m = elim m [ inl u ↦ under_front a b u | inr u ↦ under_overlaps b a u ]

-- ---- a way and how it goes on

root_go : (g : Go) (w : Way) → number_of (go g w) ≡ number_of w
root_go (Part i) w = refl
root_go Down w = refl

pub base_on : (w : Way) (r : List Go) → base_of (on w r) ≡ base_of w
base_on w [] = refl
base_on w (Part i ∷ r) = base_on w r
base_on w (Down ∷ r) = base_on w r

pub root_on : (w : Way) (r : List Go) → number_of (on w r) ≡ number_of w
root_on w [] = refl
root_on w (g ∷ r) = root_go g (on w r) ∙ root_on w r

depth_go : (g : Go) (w : Way) → depth (go g w) ≡ suc (depth w)
depth_go (Part i) w = refl
depth_go Down w = refl

depth_on : (w : Way) (r : List Go) → depth (on w r) ≡ length r + depth w
depth_on w [] = (omega arith)
depth_on w (g ∷ r) = let one = depth_go g (on w r) in let rest = depth_on w r in (omega arith)

under_go : (t w : Way) (g : Go) → Under t (go g w) → (t ≡ go g w) ⊎ Under t w
under_go t w (Part i) u = u
under_go t w Down u = u

go_under : (t w : Way) (g : Go) → Under t w → Under t (go g w)
go_under t w (Part i) u = inr u
go_under t w Down u = inr u

same_go : (g h : Go) (w v : Way) → go g w ≡ go h v → (g ≡ h) × (w ≡ v)
same_go (Part i) (Part j) w v e = (let s : i ≡ j = cc in ap Part s, cc)
same_go (Part i) Down w v e = cc
same_go Down (Part j) w v e = cc
same_go Down Down w v e = (refl, cc)

same_on : (u : Way) (r q : List Go) → on u r ≡ on u q → r ≡ q
same_on u [] [] e = refl
same_on u [] (g ∷ q) e = let n = ap depth e ∙ depth_on u (g ∷ q) in absurd (omega arith)
same_on u (g ∷ r) [] e = let n = sym (ap depth e) ∙ depth_on u (g ∷ r) in absurd (omega arith)
same_on u (g ∷ r) (h ∷ q) e =
    let both = same_go g h (on u r) (on u q) e in
    ap (λ x. x ∷ r) both.0 ∙ ap (λ z. h ∷ z) (same_on u r q both.1)

-- what begins what doesn't depend on the front
pub other_front : (u a : Way) (r q : List Go) → Under (on u r) (on u q) → Under (on a r) (on a q)
other_front u a [] [] x = under_itself a
other_front u a (g ∷ r) [] x =
    let n = under_depth (on u (g ∷ r)) u x in let m = depth_on u (g ∷ r) in absurd (omega arith)
other_front u a r (h ∷ q) x = elim (under_go (on u r) (on u q) h x) [
  | inl e ↦ subst (λ z. Under (on a z) (on a (h ∷ q))) (sym (same_on u r (h ∷ q) e)) (under_itself (on a (h ∷ q)))
  | inr x ↦ go_under (on a r) (on a q) h (other_front u a r q x)
]

pub on_under : (w : Way) (r : List Go) → Under w (on w r)
on_under w [] = under_itself w
on_under w (g ∷ r) = go_under w (on w r) g (on_under w r)

named_go : (home : ℕ → ℕ) (g : Go) (w : Way) → Named home w → Named home (go g w)
named_go home (Part i) w n = n
named_go home Down w n = n

pub named_on : (home : ℕ → ℕ) (w : Way) (r : List Go) → Named home w → Named home (on w r)
named_on home w [] n = n
named_on home w (g ∷ r) n = named_go home g (on w r) (named_on home w r n)

go_named : (home : ℕ → ℕ) (g : Go) (w : Way) → Named home (go g w) → Named home w
go_named home (Part i) w n = n
go_named home Down w n = n

pub on_named : (home : ℕ → ℕ) (w : Way) (r : List Go) → Named home (on w r) → Named home w
on_named home w [] n = n
on_named home w (g ∷ r) n = on_named home w r (go_named home g (on w r) n)

go_deep : (g : Go) (w : Way) → IsObject (go g w) → ⊥
go_deep (Part i) w d = d
go_deep Down w d = d

pub on_deep : (w : Way) (r : List Go) → (IsObject w → ⊥) → IsObject (on w r) → ⊥
on_deep w [] d = d
on_deep w (g ∷ r) d = go_deep g (on w r)

-- ---- what names stand for

-- A way goes through a number.
abbrev pub IsDeep : Way → Type 0
IsDeep (Object r) = ⊥
IsDeep (Lost n) = ⊥
IsDeep (Into w i) = IsDeep w
IsDeep (All w) = Unit {0}

-- No part with a way goes on at a name: it goes through a number, or its object has none.
abbrev pub HasNoPart : Views → Way → Type 0
HasNoPart v w = IsDeep w ⊎ ((p : List Step) → v.part_way (number_of w) p ≡ None)

none_from : (v : Views) (w : Way) (p : List Step) → HasNoPart v w → part_from v w p ≡ None
none_from v (Object (OfVariable f x)) p none = elim none [ inl deep ↦ absurd deep | inr bare ↦ bare p ]
none_from v (Object (OfHand h)) p none = refl
none_from v (Lost n) p none = refl
none_from v (Into w i) p none = none_from v w p none
none_from v (All w) p none = refl

pub part_none : (v : Views) (w : Way) → HasNoPart v w → part_at v w ≡ None
part_none v w none = none_from v w (inner_steps w) none

go_none : (v : Views) (g : Go) (w : Way) → HasNoPart v w → HasNoPart v (go g w)
go_none v (Part i) w none = none
go_none v Down w none = inl tt

on_none : (v : Views) (w : Way) (r : List Go) → HasNoPart v w → HasNoPart v (on w r)
on_none v w [] none = none
on_none v w (g ∷ r) none = go_none v g (on w r) (on_none v w r none)

pub expand_go : (v : Views) (g : Go) (w : Way) → (IsObject w → ⊥) → HasNoPart v w → expand v (go g w) ≡ go g (expand v w)
expand_go v (Part i) w d none = refl
expand_go v Down (Object r) d none = absurd (d tt)
expand_go v Down (Lost n) d none = refl
expand_go v Down (Into w i) d none = ap (λ z. expand_part z (expand v (Into w i))) (part_none v (Into w i) none)
expand_go v Down (All w) d none = refl

pub expand_on : (v : Views) (w : Way) (r : List Go) → (IsObject w → ⊥) → HasNoPart v w → expand v (on w r) ≡ on (expand v w) r
expand_on v w [] d none = refl
expand_on v w (g ∷ r) d none = expand_go v g (on w r) (on_deep w r d) (on_none v w r none) ∙ ap (go g) (expand_on v w r d none)

abbrev pub further : (v : Views) (g : Go) (x : Way) → Lifted v x → Lifted v (go g x)
further v g x l = record {
  frame = l.frame;
  object = l.object;
  rest = g ∷ l.rest;
  way = l.way;
  is = ap (go g) l.is;
  has = l.has;
}

abbrev pub further_in : (v : Views) (g : Go) (x : Way) → InPart v x → InPart v (go g x)
further_in v g x l = record {
  frame = l.frame;
  object = l.object;
  steps = l.steps;
  rest = g ∷ l.rest;
  way = l.way;
  is = ap (go g) l.is;
  has = l.has;
  deep = l.deep;
}

at_root : (v : Views) (r : Root) (o : Option Way) → way_at v r ≡ o → (expand v (All (Object r)) ≡ All (Object r)) ⊎ Lifted v (All (Object r))
at_root v r None e = inl (ap (λ z. expand_root z r) e)
at_root v (OfVariable f x) (Some w) e = inr (record { frame = f; object = x; rest = []; way = w; is = refl; has = e })
at_root v (OfHand h) (Some w) e = cc

-- a name with a part is that of an object, with its steps
pub part_found : (v : Views) (w : Way) (p : List Step) (o : Way) → part_from v w p ≡ Some o
    → (f : ℕ) × (x : ℕ) × (w ≡ along (Object (OfVariable f x)) (inner_steps w)) × (v.part_way x p ≡ Some o)
part_found v (Object (OfVariable f x)) p o e = (f, x, refl, e)
part_found v (Object (OfHand h)) p o e = absurd (false≢true (ap is_some e))
part_found v (Lost n) p o e = absurd (false≢true (ap is_some e))
part_found v (Into w i) p o e = (let rest = part_found v w p o e in (rest.0, rest.1, ap (λ z. Into z i) rest.2, rest.3))
part_found v (All w) p o e = absurd (false≢true (ap is_some e))

-- each name stands for itself, or is rooted in a view with a value, or goes through a part
abbrev pub Lifts : Views → Way → Type 0
Lifts v x = (expand v x ≡ x) ⊎ (Lifted v x ⊎ InPart v x)

further_on : (v : Views) (g : Go) (x : Way) → (expand v x ≡ x → expand v (go g x) ≡ go g x) → Lifts v x → Lifts v (go g x)
further_on v g x same (inl e) = inl (same e)
further_on v g x same (inr (inl l)) = inr (inl (further v g x l))
further_on v g x same (inr (inr l)) = inr (inr (further_in v g x l))

pub lifts : (v : Views) (x : Way) → Lifts v x
lifts v (Object r) = inl refl
lifts v (Lost n) = inl refl
lifts v (Into w i) = further_on v (Part i) w (λ e. ap (λ z. Into z i) e) (lifts v w)
lifts v (All (Object r)) = elim (at_root v r (way_at v r) refl) [ inl e ↦ inl e | inr l ↦ inr (inl l) ]
lifts v (All (Lost n)) = inl refl
lifts v (All (Into w i)) = by_part (lifts v (Into w i)) (part_at v (Into w i)) refl
  where
    by_part : Lifts v (Into w i) → (o : Option Way) → part_at v (Into w i) ≡ o → Lifts v (All (Into w i))
    by_part front None e = further_on v Down (Into w i) (λ same. ap (λ z. expand_part z (expand v (Into w i))) e ∙ ap All same) front
    by_part front (Some o) e =
        let found = part_found v (Into w i) (inner_steps (Into w i)) o e in
        inr (inr (record {
          frame = found.0;
          object = found.1;
          steps = inner_steps (Into w i);
          rest = [];
          way = o;
          is = ap All found.2;
          has = found.3;
          deep = λ none. cc;
        }))
lifts v (All (All w)) = further_on v Down (All w) (λ e. ap All e) (lifts v (All w))

along_inner : (f x : ℕ) (p : List Step) → inner_steps (along (Object (OfVariable f x)) p) ≡ p
along_inner f x [] = refl
along_inner f x (i ∷ p) = ap (λ z. i ∷ z) (along_inner f x p)

along_from : (v : Views) (f x : ℕ) (p q : List Step) → part_from v (along (Object (OfVariable f x)) p) q ≡ v.part_way x q
along_from v f x [] q = refl
along_from v f x (i ∷ p) q = along_from v f x p q

-- what a part designates
pub part_is : (v : Views) (f x : ℕ) (p : List Step) → part_at v (along (Object (OfVariable f x)) p) ≡ v.part_way x p
part_is v f x p = along_from v f x p (inner_steps (along (Object (OfVariable f x)) p)) ∙ ap (v.part_way x) (along_inner f x p)

pub expand_in : (v : Views) (f x : ℕ) (p : List Step) (w : Way) → (p ≡ [] → ⊥) → v.part_way x p ≡ Some w → expand v (All (along (Object (OfVariable f x)) p)) ≡ w
expand_in v f x [] w deep has = absurd (deep refl)
expand_in v f x (i ∷ p) w deep has =
    ap (λ z. expand_part z (expand v (along (Object (OfVariable f x)) (i ∷ p)))) (part_is v f x (i ∷ p) ∙ has)

along_number : (w : Way) (p : List Step) → number_of (along w p) ≡ number_of w
along_number w [] = refl
along_number w (i ∷ p) = along_number w p

pub part_root : (v : Views) (x : Way) (l : InPart v x) → number_of x ≡ l.object
part_root v x l =
    ap number_of l.is ∙ root_on (All (along (Object (OfVariable l.frame l.object)) l.steps)) l.rest
    ∙ along_number (Object (OfVariable l.frame l.object)) l.steps

pub in_part_way : (v : Views) (x : Way) (l : InPart v x) → expand v x ≡ on l.way l.rest
in_part_way v x l =
    ap (expand v) l.is
    ∙ expand_on v (All (along (Object (OfVariable l.frame l.object)) l.steps)) l.rest (λ d. d) (inl tt)
    ∙ ap (λ z. on z l.rest) (expand_in v l.frame l.object l.steps l.way l.deep l.has)

pub lifted_root : (v : Views) (x : Way) (l : Lifted v x) → number_of x ≡ l.object
lifted_root v x l = ap number_of l.is ∙ root_on (All (Object (OfVariable l.frame l.object))) l.rest

pub lifted_way : (v : Views) (x : Way) (l : Lifted v x) → expand v x ≡ on l.way l.rest
lifted_way v x l =
    ap (expand v) l.is
    ∙ expand_on v (All (Object (OfVariable l.frame l.object))) l.rest (λ d. d) (inl tt)
    ∙ ap (λ z. on z l.rest) (ap (λ z. expand_root z (OfVariable l.frame l.object)) l.has)

-- its name in terms of what the view was taken from
abbrev pub next_of : (v : Views) (x : Way) → Lifted v x → Way
next_of v x l = on (v.up l.object) l.rest

-- a name that is rooted in no view with a value stands for itself
pub stands_alone : (v : Views) (u : Way) → v.way (number_of u) ≡ None → ((p : List Step) → v.part_way (number_of u) p ≡ None) → expand v u ≡ u
stands_alone v u none bare = elim (lifts v u) [
  | inl e ↦ e
  | inr (inl l) ↦ (let is : Some l.way ≡ None = sym l.has ∙ ap v.way (sym (lifted_root v u l)) ∙ none in absurd (true≢false (ap is_some is)))
  | inr (inr l) ↦ (let is : Some l.way ≡ None = sym l.has ∙ ap (λ z. v.part_way z l.steps) (sym (part_root v u l)) ∙ bare l.steps in absurd (true≢false (ap is_some is)))
]

-- a way that begins at a variable of the frame is named
pub named_base_of : (home : ℕ → ℕ) (w : Way) (y : ℕ) → base_of w ≡ OfRoot (OfVariable (home y) y) → Named home w
named_base_of home (Object (OfVariable f x)) y e = (let a : f ≡ home y = cc in let b : x ≡ y = cc in a ∙ ap home (sym b))
named_base_of home (Object (OfHand h)) y e = cc
named_base_of home (Lost n) y e = cc
named_base_of home (Into w i) y e = named_base_of home w y e
named_base_of home (All w) y e = named_base_of home w y e

-- a way that begins at a variable is named, or begins at one of another frame
pub home_or_foreign : (home : ℕ → ℕ) (w : Way) → (f : ℕ) × (y : ℕ) × (base_of w ≡ OfRoot (OfVariable f y)) → Named home w ⊎ IsForeign home w
home_or_foreign home w (f, y, base) = by_frame (f == home y) refl
  where
    by_frame : (b : Bool) → (f == home y) ≡ b → Named home w ⊎ IsForeign home w
    by_frame true e = inl (named_base_of home w y (base ∙ ap (λ z. OfRoot (OfVariable z y)) (eqb-true f (home y) e)))
    by_frame false e = inr (f, y, base, λ same. false≢true (sym e ∙ eq-eqb f (home y) same))
