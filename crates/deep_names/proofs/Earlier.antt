-- The first of some positions doesn't depend on their order, or on how often each is there.
use Rattle.std.proofs.Common.{◌≡◌, refl, sym, ap, ◌∙◌, subst, inl, inr, Option, Some, None}
use Rattle.std.specs.Ordering.{ordering_reverse}
use Rattle.spark_base.specs.declared.position.Pos.{Pos}
use Rattle.spark_base.specs.Positions.{position_cmp, Precedes}
use Rattle.spark_base.proofs.Positions.{position_cmp-self, position_cmp-flip, Precedes-cases, Precedes-trans}
use Rattle.flow_paths.specs.Limits.{earlier_by}
use Rattle.deep_names.specs.Found.{earlier_of}

-- ---- two positions

abbrev sooner : Pos → Pos → Pos
sooner p q = earlier_by (position_cmp p q) p q

here : (p q : Pos) → Precedes p q → sooner p q ≡ p
here p q e = ap (λ o. earlier_by o p q) e

there : (p q : Pos) → Precedes q p → sooner p q ≡ q
there p q e = ap (λ o. earlier_by o p q) (position_cmp-flip p q ∙ ap ordering_reverse e)

same : (p : Pos) → sooner p p ≡ p
same p = ap (λ o. earlier_by o p p) (position_cmp-self p)

swapped : (p q : Pos) → sooner p q ≡ sooner q p
swapped p q = elim (Precedes-cases p q) [
  | inl l ↦ here p q l ∙ sym (there q p l)
  | inr (inl e) ↦ subst (λ x. sooner p x ≡ sooner x p) e refl
  | inr (inr g) ↦ there p q g ∙ sym (here q p g)
]

again : (p r : Pos) → sooner p r ≡ sooner p (sooner p r)
again p r = elim (Precedes-cases p r) [
  | inl l ↦ here p r l ∙ sym (same p) ∙ ap (sooner p) (sym (here p r l))
  | inr (inl e) ↦ subst (λ x. sooner p x ≡ sooner p (sooner p x)) e (ap (sooner p) (sym (same p)))
  | inr (inr g) ↦ ap (sooner p) (sym (there p r g))
]

grouped : (p q r : Pos) → sooner (sooner p q) r ≡ sooner p (sooner q r)
grouped p q r = elim (Precedes-cases p q) [
  | inl l ↦ ap (λ x. sooner x r) (here p q l) ∙ first l
  | inr (inl e) ↦ subst (λ x. sooner (sooner p x) r ≡ sooner p (sooner x r)) e (ap (λ x. sooner x r) (same p) ∙ again p r)
  | inr (inr g) ↦ ap (λ x. sooner x r) (there p q g) ∙ second g
]
  where
    first : Precedes p q → sooner p r ≡ sooner p (sooner q r)
    first l = elim (Precedes-cases q r) [
      | inl m ↦ here p r (Precedes-trans p q r l m) ∙ sym (here p q l) ∙ ap (sooner p) (sym (here q r m))
      | inr (inl e) ↦ subst (λ x. sooner p x ≡ sooner p (sooner q x)) e (ap (sooner p) (sym (same q)))
      | inr (inr g) ↦ ap (sooner p) (sym (there q r g))
    ]

    second : Precedes q p → sooner q r ≡ sooner p (sooner q r)
    second g = elim (Precedes-cases q r) [
      | inl m ↦ here q r m ∙ sym (there p q g) ∙ ap (sooner p) (sym (here q r m))
      | inr (inl e) ↦ subst (λ x. sooner q x ≡ sooner p (sooner q x)) e (same q ∙ sym (there p q g) ∙ ap (sooner p) (sym (same q)))
      | inr (inr m) ↦ there q r m ∙ sym (there p r (Precedes-trans r q p m g)) ∙ ap (sooner p) (sym (there q r m))
    ]

-- ---- two that may be there

pub earlier_none : (a : Option Pos) → earlier_of a None ≡ a
earlier_none None = refl
earlier_none (Some p) = refl

pub earlier_same : (a : Option Pos) → earlier_of a a ≡ a
earlier_same None = refl
earlier_same (Some p) = ap Some (same p)

pub earlier_swap : (a b : Option Pos) → earlier_of a b ≡ earlier_of b a
earlier_swap None None = refl
earlier_swap None (Some q) = refl
earlier_swap (Some p) None = refl
earlier_swap (Some p) (Some q) = ap Some (swapped p q)

pub earlier_group : (a b c : Option Pos) → earlier_of (earlier_of a b) c ≡ earlier_of a (earlier_of b c)
earlier_group None b c = refl
earlier_group (Some p) None c = refl
earlier_group (Some p) (Some q) None = refl
earlier_group (Some p) (Some q) (Some r) = ap Some (grouped p q r)

-- ---- four of them

pub earlier_four : (a b c d : Option Pos) → earlier_of (earlier_of a b) (earlier_of c d) ≡ earlier_of (earlier_of a c) (earlier_of b d)
earlier_four a b c d =
    earlier_group a b (earlier_of c d)
    ∙ ap (earlier_of a) (sym (earlier_group b c d) ∙ ap (λ x. earlier_of x d) (earlier_swap b c) ∙ earlier_group c b d)
    ∙ sym (earlier_group a c (earlier_of b d))

-- What is found twice is found once.
pub earlier_again : (a b : Option Pos) → earlier_of a (earlier_of a b) ≡ earlier_of a b
earlier_again a b = sym (earlier_group a a b) ∙ ap (λ x. earlier_of x b) (earlier_same a)
