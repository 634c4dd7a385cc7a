-- What the marks of a list say of one fact.
use Rattle.std.proofs.Common.{◌≡◌, ◌⊎◌, refl, sym, ap, ◌∙◌, inl, inr, ℕ, zero, suc, ◌<◌, Bool, true, false, not, ◌&&◌, ◌||◌, List, [], ◌∷◌, length, drop, arith}
use Rattle.std.specs.Bool.{Decides}
use Rattle.place_names.specs.declared.fact.Fact.{Fact}
use Rattle.place_names.specs.Facts.{is_same_fact}
use Rattle.place_names.proofs.Facts.{is_same_fact-decides}
use Rattle.place_names.proofs.Names.{both_parts, both_true}
use Rattle.state_trees.specs.FactStates.{at}
use Rattle.point_states.specs.PointTrees.{fact_at}
use Rattle.leak_checks.specs.Lines.{none_lacks}

either : (a b : Bool) → a || b ≡ true → (a ≡ true) ⊎ (b ≡ true)
either true b e = inl refl
either false b e = inr e

or_left : (a b : Bool) → a ≡ true → a || b ≡ true
or_left a b e = ap (λ x. x || b) e

or_right : (a b : Bool) → b ≡ true → a || b ≡ true
or_right true b e = refl
or_right false b e = e

not_true : (b : Bool) → not b ≡ true → b ≡ false
not_true true e = cc
not_true false e = refl

-- a mark further on
at_next : (lacks : List Bool) (i : ℕ) → at (drop 1 lacks) i ≡ at lacks (suc i)
at_next [] i = refl
at_next (l ∷ lacks) i = refl

-- a fact of a list without a mark that it may not hold
pub record IsAlways (facts : List Fact) (lacks : List Bool) (f : Fact) : Type 0 where
  pub number : ℕ
  pub within : number < length facts
  pub is : fact_at facts number ≡ f
  pub always : at lacks number ≡ false

always_from : (facts : List Fact) (lacks : List Bool) (f : Fact) → none_lacks facts lacks f ≡ true → IsAlways facts lacks f
always_from [] lacks f e = cc
always_from (g ∷ facts) lacks f e = elim (either (is_same_fact g f && not (at lacks 0)) (none_lacks facts (drop 1 lacks) f) e) [
  | inl here ↦ (
      let both = both_parts (is_same_fact g f) (not (at lacks 0)) here in
      record { number = 0; within = omega arith; is = (is_same_fact-decides g f).0 both.0; always = not_true (at lacks 0) both.1 })
  | inr later ↦ (
      let a = always_from facts (drop 1 lacks) f later in
      let within = a.within in
      record { number = suc a.number; within = omega arith; is = a.is; always = sym (at_next lacks a.number) ∙ a.always })
]

always_to : (facts : List Fact) (lacks : List Bool) (f : Fact) (n : ℕ) → n < length facts → fact_at facts n ≡ f → at lacks n ≡ false
    → none_lacks facts lacks f ≡ true
always_to [] lacks f n h is always = absurd (omega arith)
always_to (g ∷ facts) lacks f zero h is always =
    or_left (is_same_fact g f && not (at lacks 0)) (none_lacks facts (drop 1 lacks) f)
    (both_true (is_same_fact g f) (not (at lacks 0)) ((is_same_fact-decides g f).1 is) (ap not always))
always_to (g ∷ facts) lacks f (suc n) h is always =
    or_right (is_same_fact g f && not (at lacks 0)) (none_lacks facts (drop 1 lacks) f)
    (always_to facts (drop 1 lacks) f n (omega arith) is (at_next lacks n ∙ always))

pub none_lacks-decides : (facts : List Fact) (lacks : List Bool) (f : Fact) → Decides (none_lacks facts lacks f) (IsAlways facts lacks f)
none_lacks-decides facts lacks f = (always_from facts lacks f, λ a. always_to facts lacks f a.number a.within a.is a.always)
