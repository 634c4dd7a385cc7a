-- No two points of a subprogram have one name.
--
-- The parts of a construct have places of their own, which differ where the numbers of the parts
-- do, and its own points have its place. Both is told by one number, the slot of a name at a place.
use Rattle.std.proofs.Common.{◌≡◌, ℕ, zero, suc, ◌+◌, ◌*◌, ◌-◌, ◌≤◌, List, [], ◌∷◌, ◌++◌, length, refl, sym, ap, ◌∙◌, subst, arith, get_or}
use Rattle.std.specs.List.{AllByRecursion}
use Rattle.std.proofs.lemmas.Grind.{common_steps}
use Rattle.std.proofs.Math.Seq.{get_or-append_seam}
use Rattle.typed_tree.specs.spark_base.declared.position.Pos.{Pos}
use Rattle.flow_paths.specs.Instructions.{Instruction}
use Rattle.flow_paths.specs.Points.{Place, PointName, row_at, NamedPoint, point}
use Rattle.flow_paths.specs.Scopes.{Differ, Under}

-- ---- slots

abbrev pub slot_of : ℕ → PointName → ℕ
slot_of zero n = 2 * n.row + 1
slot_of (suc d) n = 2 * get_or n.place d 0

abbrev pub slot : Place → PointName → ℕ
slot at n = slot_of (length n.place - length at) n

pub slot_row : (at : Place) (r : ℕ) → slot at (row_at at r) ≡ 2 * r + 1
slot_row at r =
    let none : length at - length at ≡ 0 = omega arith in ap (λ d. slot_of d (row_at at r)) none

-- A name under the i-th part.
pub slot_part : (at : Place) (i : ℕ) (n : PointName) (front : Place) → n.place ≡ front ++ i ∷ at → slot at n ≡ 2 * i
slot_part at i n front is =
    let deep : length n.place - length at ≡ suc (length front) = grind (arith, common_steps, ap length is) in
    let found : get_or n.place (length front) 0 ≡ i =
    ap (λ p. get_or p (length front) 0) is ∙ get_or-append_seam front i at 0 in
    ap (λ d. slot_of d n) deep ∙ ap (λ k. 2 * k) found

-- ---- what holds of each point of a list

pub each_more : (P Q : NamedPoint → Type 0) → ((p : NamedPoint) → P p → Q p) → (ps : List NamedPoint)
    → AllByRecursion P ps → AllByRecursion Q ps
each_more P Q f [] h = tt
each_more P Q f (p ∷ ps) h = (f p h.0, each_more P Q f ps h.1)

pub each_both : (P : NamedPoint → Type 0) (ps qs : List NamedPoint) → AllByRecursion P ps → AllByRecursion P qs
    → AllByRecursion P (ps ++ qs)
each_both P [] qs h g = g
each_both P (p ∷ ps) qs h g = (h.0, each_both P ps qs h.1 g)

-- ---- lists of points

-- They belong to a place, their slots there are as told, and no two have one name.
pub record Fits (at : Place) (P : ℕ → Type 0) (ps : List NamedPoint) : Type 0 where
  pub slots : AllByRecursion (λ p. P (slot at p.name)) ps
  pub under : AllByRecursion (λ p. Under at p.name) ps
  pub differ : Differ ps

abbrev pub Any : ℕ → Type 0
Any k = Unit {0}

abbrev pub Sits : Place → List NamedPoint → Type 0
Sits at ps = Fits at Any ps

pub fits_none : (at : Place) (P : ℕ → Type 0) → Fits at P []
fits_none at P = record { slots = tt; under = tt; differ = tt }

pub fits_more : (at : Place) (P Q : ℕ → Type 0) → ((k : ℕ) → P k → Q k) → (ps : List NamedPoint) → Fits at P ps → Fits at Q ps
fits_more at P Q f ps h = record {
  slots = each_more (λ p. P (slot at p.name)) (λ p. Q (slot at p.name)) (λ p. f (slot at p.name)) ps h.slots;
  under = h.under;
  differ = h.differ;
}

pub sits : (at : Place) (P : ℕ → Type 0) (ps : List NamedPoint) → Fits at P ps → Sits at ps
sits at P ps h = fits_more at P Any (λ k x. tt) ps h

-- A part has slots of its own.
pub part_under : (at : Place) (i : ℕ) (n : PointName) → Under (i ∷ at) n → Under at n
part_under at i n u = (u.0 ++ i ∷ [], grind (arith, common_steps, u.1))

pub fits_part : (at : Place) (i : ℕ) (ps : List NamedPoint) → Sits (i ∷ at) ps → Fits at (λ k. k ≡ 2 * i) ps
fits_part at i ps h = record {
  slots = each_more (λ p. Under (i ∷ at) p.name) (λ p. slot at p.name ≡ 2 * i) (λ p u. slot_part at i p.name u.0 u.1) ps h.under;
  under = each_more (λ p. Under (i ∷ at) p.name) (λ p. Under at p.name) (λ p. part_under at i p.name) ps h.under;
  differ = h.differ;
}

-- A point of the construct itself.
pub fits_row : (at : Place) (r : ℕ) (p : Pos) (i : Instruction) (scope : List ℕ) (next : List PointName)
    → Fits at (λ k. k ≡ 2 * r + 1) (point (row_at at r) p i scope next ∷ [])
fits_row at r p i scope next = record {
  slots = (slot_row at r, tt);
  under = (([], refl), tt);
  differ = (tt, tt);
}

-- Points with other slots have other names.
pub apart : (at : Place) (P Q : ℕ → Type 0) → ((k : ℕ) → P k → Q k → ⊥) → (n : PointName) → P (slot at n) → (ps : List NamedPoint)
    → AllByRecursion (λ p. Q (slot at p.name)) ps → AllByRecursion (λ q. n ≡ q.name → ⊥) ps
apart at P Q none n here ps h =
    each_more (λ p. Q (slot at p.name)) (λ q. n ≡ q.name → ⊥) (λ q there same. none (slot at n) here (subst (λ m. Q (slot at m)) (sym same) there)) ps h

pub both_differ : (at : Place) (P Q : ℕ → Type 0) → ((k : ℕ) → P k → Q k → ⊥) → (ps qs : List NamedPoint)
    → AllByRecursion (λ p. P (slot at p.name)) ps → AllByRecursion (λ p. Q (slot at p.name)) qs → Differ ps → Differ qs → Differ (ps ++ qs)
both_differ at P Q none [] qs h g d e = e
both_differ at P Q none (p ∷ ps) qs h g d e =
    (each_both (λ q. p.name ≡ q.name → ⊥) ps qs d.0 (apart at P Q none p.name h.0 qs g), both_differ at P Q none ps qs h.1 g d.1 e)

pub fits_both : (at : Place) (P Q R : ℕ → Type 0) → ((k : ℕ) → P k → Q k → ⊥) → ((k : ℕ) → P k → R k) → ((k : ℕ) → Q k → R k)
    → (ps qs : List NamedPoint) → Fits at P ps → Fits at Q qs → Fits at R (ps ++ qs)
fits_both at P Q R none first second ps qs h g = record {
  slots = each_both (λ p. R (slot at p.name)) ps qs (fits_more at P R first ps h).slots (fits_more at Q R second qs g).slots;
  under = each_both (λ p. Under at p.name) ps qs h.under g.under;
  differ = both_differ at P Q none ps qs h.slots g.slots h.differ g.differ;
}

-- ---- forms that recur

-- Two parts, the first one first or the second one.
pub two_parts : (at : Place) (i j : ℕ) → (i ≡ j → ⊥) → (ps qs : List NamedPoint) → Sits (i ∷ at) ps → Sits (j ∷ at) qs → Sits at (ps ++ qs)
two_parts at i j other ps qs h g =
    fits_both at (λ k. k ≡ 2 * i) (λ k. k ≡ 2 * j) Any (λ k a b. other (grind (arith, a, b))) (λ k a. tt) (λ k a. tt) ps qs
    (fits_part at i ps h) (fits_part at j qs g)

-- The points of the first part, and those that the construct has itself from a row on.
abbrev pub From : ℕ → ℕ → Type 0
From r k = 2 * r + 1 ≤ k

pub row_from : (at : Place) (r : ℕ) (p : NamedPoint) (rest : List NamedPoint) → Fits at (λ k. k ≡ 2 * r + 1) (p ∷ [])
    → Fits at (From (suc r)) rest → Fits at (From r) (p ∷ rest)
row_from at r p rest h g =
    fits_both at (λ k. k ≡ 2 * r + 1) (From (suc r)) (From r) (λ k a b. grind (arith, a, b)) (λ k a. grind (arith, a)) (λ k b. grind (arith, b))
    (p ∷ []) rest h g

pub part_then_rows : (at : Place) (ps qs : List NamedPoint) → Sits (0 ∷ at) ps → Fits at (From 0) qs → Sits at (ps ++ qs)
part_then_rows at ps qs h g =
    fits_both at (λ k. k ≡ 0) (From 0) Any (λ k a b. grind (arith, a, b)) (λ k a. tt) (λ k a. tt) ps qs
    (fits_more at (λ k. k ≡ 2 * 0) (λ k. k ≡ 0) (λ k a. grind (arith, a)) ps (fits_part at 0 ps h)) g
