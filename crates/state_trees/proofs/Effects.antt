-- The two lists that a state stands for, and what acts and joins do to them.
use Rattle.std.proofs.Common.{◌≡◌, refl, sym, ap, ◌∙◌, subst, ◌⊎◌, inl, inr, suc, Bool, true, false, not, ◌&&◌, ◌||◌, List, [], ◌∷◌, map, length, arith}
use Rattle.std.specs.Prelude.{replicate}
use Rattle.std.specs.List.{filter}
use Rattle.spark_base.specs.Lists.{Has}
use Rattle.spark_base.proofs.Lists.{Has-append_left, Has-append_right, Has-append_cases, Has-filter, Has-filter_passes}
use Rattle.place_names.specs.declared.act.Act.{Act}
use Rattle.place_names.specs.declared.fact.Fact.{Fact}
use Rattle.place_names.specs.Facts.{adds, removes, effect, is_added, holds_behind}
use Rattle.place_names.proofs.Facts.{is_added-decides}
use Rattle.place_names.proofs.Names.{both_parts, both_true}
use Rattle.state_trees.specs.FactStates.{FactState, marked, may_hold, may_lack, always_hold, may_behind, lacks_behind, state_behind, either_mark, joined, none_hold, IsKept}

-- ---- at the start

marked_none : (facts : List Fact) → marked facts (replicate (length facts) false) ≡ []
marked_none [] = refl
marked_none (f ∷ facts) = marked_none facts

marked_all : (facts : List Fact) → marked facts (replicate (length facts) true) ≡ facts
marked_all [] = refl
marked_all (f ∷ facts) = ap (λ l. f ∷ l) (marked_all facts)

-- no fact may hold, and each may not
pub none_may : (facts : List Fact) → may_hold (none_hold facts) ≡ []
none_may facts = marked_none facts

pub all_lack : (facts : List Fact) → may_lack (none_hold facts) ≡ facts
all_lack facts = marked_all facts

-- ---- an act

kept_fact : (f g : Fact) (m : Bool) (facts : List Fact) (marks : List Bool) → Has (marked facts marks) g → Has (marked (f ∷ facts) (m ∷ marks)) g
kept_fact f g true facts marks h = inr h
kept_fact f g false facts marks h = h

first_fact : (f : Fact) (m : Bool) (facts : List Fact) (marks : List Bool) → m ≡ true → Has (marked (f ∷ facts) (m ∷ marks)) f
first_fact f true facts marks e = inl refl
first_fact f false facts marks e = cc

marked_cases : (f g : Fact) (m : Bool) (facts : List Fact) (marks : List Bool) → Has (marked (f ∷ facts) (m ∷ marks)) g
    → ((f ≡ g) × (m ≡ true)) ⊎ Has (marked facts marks) g
marked_cases f g true facts marks h = elim h [ inl e ↦ inl (e, refl) | inr h ↦ inr h ]
marked_cases f g false facts marks h = inr h

either_cases : (a b : Bool) → (a || b) ≡ true → (a ≡ true) ⊎ (b ≡ true)
either_cases true b e = inl refl
either_cases false b e = inr e

either_left : (a b : Bool) → a ≡ true → (a || b) ≡ true
either_left a b e = ap (λ x. x || b) e

either_right : (a b : Bool) → b ≡ true → (a || b) ≡ true
either_right true b e = refl
either_right false b e = e

-- what is marked after an act is added by it, or was marked and isn't removed
marked_from : (a : Act) (facts : List Fact) (may : List Bool) (g : Fact) → Has (marked facts (may_behind a facts may)) g
    → (is_added a g ≡ true) ⊎ (Has (marked facts may) g × (not (removes a g) ≡ true))
marked_from a [] may g h = absurd h
marked_from a (f ∷ facts) [] g h = absurd h
marked_from a (f ∷ facts) (m ∷ may) g h = elim (marked_cases f g (holds_behind a f m) facts (may_behind a facts may) h) [
  | inl e ↦ elim (either_cases (is_added a f) (m && not (removes a f)) e.1) [
    | inl new ↦ inl (ap (is_added a) (sym e.0) ∙ new)
    | inr old ↦
        let parts = both_parts m (not (removes a f)) old in
        inr (subst (λ x. Has (marked (f ∷ facts) (m ∷ may)) x) e.0 (first_fact f m facts may parts.0), ap (λ x. not (removes a x)) (sym e.0) ∙ parts.1)
  ]
  | inr rest ↦ elim (marked_from a facts may g rest) [
    | inl new ↦ inl new
    | inr old ↦ inr (kept_fact f g m facts may old.0, old.1)
  ]
]

marked_added : (a : Act) (facts : List Fact) (may : List Bool) (g : Fact) → length may ≡ length facts → Has facts g → is_added a g ≡ true
    → Has (marked facts (may_behind a facts may)) g
marked_added a [] may g e h new = absurd h
marked_added a (f ∷ facts) [] g e h new = absurd (omega arith)
marked_added a (f ∷ facts) (m ∷ may) g e h new = elim h [
  | inl is ↦ subst (λ x. Has (marked (f ∷ facts) (holds_behind a f m ∷ may_behind a facts may)) x) is
      (first_fact f (holds_behind a f m) facts (may_behind a facts may) (either_left (is_added a f) (m && not (removes a f)) (ap (is_added a) is ∙ new)))
  | inr rest ↦ kept_fact f g (holds_behind a f m) facts (may_behind a facts may) (marked_added a facts may g (omega arith) rest new)
]

marked_kept : (a : Act) (facts : List Fact) (may : List Bool) (g : Fact) → Has (marked facts may) g → not (removes a g) ≡ true
    → Has (marked facts (may_behind a facts may)) g
marked_kept a [] may g h stays = absurd h
marked_kept a (f ∷ facts) [] g h stays = absurd h
marked_kept a (f ∷ facts) (m ∷ may) g h stays = elim (marked_cases f g m facts may h) [
  | inl e ↦ subst (λ x. Has (marked (f ∷ facts) (holds_behind a f m ∷ may_behind a facts may)) x) e.0
      (first_fact f (holds_behind a f m) facts (may_behind a facts may)
      (either_right (is_added a f) (m && not (removes a f)) (both_true m (not (removes a f)) e.1 (ap (λ x. not (removes a x)) e.0 ∙ stays))))
  | inr rest ↦ kept_fact f g (holds_behind a f m) facts (may_behind a facts may) (marked_kept a facts may g rest stays)
]

-- the marks after an act are those of the facts that its effect leaves of the marked ones, where
-- each fact that it adds is in the list
pub marked_behind : (a : Act) (facts : List Fact) (may : List Bool) → length may ≡ length facts → ((g : Fact) → Has (adds a) g → Has facts g)
    → (g : Fact) → (Has (marked facts (may_behind a facts may)) g → Has (effect a (marked facts may)) g)
    × (Has (effect a (marked facts may)) g → Has (marked facts (may_behind a facts may)) g)
marked_behind a facts may e within g = (to, from)
  where
    old : List Fact
    old = marked facts may

    left : List Fact
    left = filter (λ f. not (removes a f)) old

    to : Has (marked facts (may_behind a facts may)) g → Has (effect a old) g
    to h = elim (marked_from a facts may g h) [
      | inl new ↦ Has-append_right left (adds a) g ((is_added-decides a g).0 new)
      | inr kept ↦ Has-append_left left (adds a) g (Has-filter_passes (λ f. not (removes a f)) old g kept.0 kept.1)
    ]

    from : Has (effect a old) g → Has (marked facts (may_behind a facts may)) g
    from h = elim (Has-append_cases left (adds a) g h) [
      | inl kept ↦ (let is = Has-filter (λ f. not (removes a f)) old g kept in marked_kept a facts may g is.0 is.1)
      | inr new ↦ marked_added a facts may g e (within g new) ((is_added-decides a g).1 new)
    ]

pub may_hold-behind : (a : Act) (s : FactState) → IsKept s → ((g : Fact) → Has (adds a) g → Has s.facts g)
    → (g : Fact) → (Has (may_hold (state_behind a s)) g → Has (effect a (may_hold s)) g)
    × (Has (effect a (may_hold s)) g → Has (may_hold (state_behind a s)) g)
may_hold-behind a s k within g = marked_behind a s.facts s.may k.may within g

not_not : (b : Bool) → not (not b) ≡ b
not_not true = refl
not_not false = refl

lacks_as_may : (a : Act) (facts : List Fact) (lacks : List Bool) → map not (lacks_behind a facts lacks) ≡ may_behind a facts (map not lacks)
lacks_as_may a [] lacks = refl
lacks_as_may a (f ∷ facts) [] = refl
lacks_as_may a (f ∷ facts) (l ∷ lacks) = (λ i. not_not (holds_behind a f (not l)) i ∷ lacks_as_may a facts lacks i)

length-not : (lacks : List Bool) → length (map not lacks) ≡ length lacks
length-not [] = refl
length-not (l ∷ lacks) = ap suc (length-not lacks)

-- so the facts that aren't among those that may not hold change as `effect` has it, too
pub always_hold-behind : (a : Act) (s : FactState) → IsKept s → ((g : Fact) → Has (adds a) g → Has s.facts g)
    → (g : Fact) → (Has (always_hold (state_behind a s)) g → Has (effect a (always_hold s)) g)
    × (Has (effect a (always_hold s)) g → Has (always_hold (state_behind a s)) g)
always_hold-behind a s k within g =
    let is = marked_behind a s.facts (map not s.lacks) (length-not s.lacks ∙ k.lacks) within g in
    let same = ap (marked s.facts) (lacks_as_may a s.facts s.lacks) in
    (λ h. is.0 (subst (λ l. Has l g) same h), λ h. subst (λ l. Has l g) (sym same) (is.1 h))

-- ---- two states

marked_either : (facts : List Fact) (mine other : List Bool) → length mine ≡ length other → (g : Fact)
    → (Has (marked facts (either_mark mine other)) g → Has (marked facts mine) g ⊎ Has (marked facts other) g)
    × (Has (marked facts mine) g ⊎ Has (marked facts other) g → Has (marked facts (either_mark mine other)) g)
marked_either [] mine other e g = (λ h. absurd h, λ h. elim h [ inl h ↦ absurd h | inr h ↦ absurd h ])
marked_either (f ∷ facts) [] [] e g = (λ h. absurd h, λ h. elim h [ inl h ↦ absurd h | inr h ↦ absurd h ])
marked_either (f ∷ facts) [] (o ∷ other) e g = absurd (omega arith)
marked_either (f ∷ facts) (m ∷ mine) [] e g = absurd (omega arith)
marked_either (f ∷ facts) (m ∷ mine) (o ∷ other) e g =
    let more = marked_either facts mine other (omega arith) g in (
      λ h. elim (marked_cases f g (m || o) facts (either_mark mine other) h) [
        | inl is ↦ elim (either_cases m o is.1) [
          | inl t ↦ inl (subst (λ x. Has (marked (f ∷ facts) (m ∷ mine)) x) is.0 (first_fact f m facts mine t))
          | inr t ↦ inr (subst (λ x. Has (marked (f ∷ facts) (o ∷ other)) x) is.0 (first_fact f o facts other t))
        ]
        | inr rest ↦ elim (more.0 rest) [
          | inl h ↦ inl (kept_fact f g m facts mine h)
          | inr h ↦ inr (kept_fact f g o facts other h)
        ]
      ],
      λ h. elim h [
        | inl h ↦ elim (marked_cases f g m facts mine h) [
          | inl is ↦ subst (λ x. Has (marked (f ∷ facts) ((m || o) ∷ either_mark mine other)) x) is.0
              (first_fact f (m || o) facts (either_mark mine other) (either_left m o is.1))
          | inr rest ↦ kept_fact f g (m || o) facts (either_mark mine other) (more.1 (inl rest))
        ]
        | inr h ↦ elim (marked_cases f g o facts other h) [
          | inl is ↦ subst (λ x. Has (marked (f ∷ facts) ((m || o) ∷ either_mark mine other)) x) is.0
              (first_fact f (m || o) facts (either_mark mine other) (either_right m o is.1))
          | inr rest ↦ kept_fact f g (m || o) facts (either_mark mine other) (more.1 (inr rest))
        ]
      ],
    )

-- a join is the union of both
pub may_hold-joined : (s t : FactState) → IsKept s → IsKept t → t.facts ≡ s.facts → (g : Fact)
    → (Has (may_hold (joined s t)) g → Has (may_hold s) g ⊎ Has (may_hold t) g)
    × (Has (may_hold s) g ⊎ Has (may_hold t) g → Has (may_hold (joined s t)) g)
may_hold-joined s t k j same g =
    let is = marked_either s.facts s.may t.may (k.may ∙ sym (ap length same) ∙ sym j.may) g in
    let Theirs : List Fact → Type 0 = λ facts. Has (marked facts t.may) g in (
      λ h. elim (is.0 h) [ inl h ↦ inl h | inr h ↦ inr (subst Theirs (sym same) h) ],
      λ h. is.1 (elim h [ inl h ↦ inl h | inr h ↦ inr (subst Theirs same h) ]),
    )

pub may_lack-joined : (s t : FactState) → IsKept s → IsKept t → t.facts ≡ s.facts → (g : Fact)
    → (Has (may_lack (joined s t)) g → Has (may_lack s) g ⊎ Has (may_lack t) g)
    × (Has (may_lack s) g ⊎ Has (may_lack t) g → Has (may_lack (joined s t)) g)
may_lack-joined s t k j same g =
    let is = marked_either s.facts s.lacks t.lacks (k.lacks ∙ sym (ap length same) ∙ sym j.lacks) g in
    let Theirs : List Fact → Type 0 = λ facts. Has (marked facts t.lacks) g in (
      λ h. elim (is.0 h) [ inl h ↦ inl h | inr h ↦ inr (subst Theirs (sym same) h) ],
      λ h. is.1 (elim h [ inl h ↦ inl h | inr h ↦ inr (subst Theirs same h) ]),
    )
