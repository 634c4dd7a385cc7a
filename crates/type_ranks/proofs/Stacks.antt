-- What stands on a stack of visits, where its end is replaced.
use Rattle.std.proofs.Common.{◌≡◌, ◌⊎◌, inl, inr, ℕ, ◌<◌, Bool, true, false, List, [], ◌∷◌, ◌++◌, map, refl, subst, arith}
use Rattle.spark_base.specs.Lists.{Has}
use Rattle.type_definitions.specs.Types.{Table}
use Rattle.type_ranks.specs.declared.visits.Visit.{Visit}
use Rattle.type_ranks.specs.Stages.{fresh, Stands, IsOpen, AreBelow, IsSettled, IsFollowed, AreFollowed}

-- ---- what stands there

pub stands_split : (vs ws : List Visit) (t : ℕ) → Stands (vs ++ ws) t → Stands vs t ⊎ Stands ws t
stands_split [] ws t there = inr there
stands_split (v ∷ vs) ws t there = elim there [
  | inl now ↦ inl (inl now)
  | inr later ↦ elim (stands_split vs ws t later) [ inl a ↦ inl (inr a) | inr b ↦ inr b ]
]

pub stands_left : (vs ws : List Visit) (t : ℕ) → Stands vs t → Stands (vs ++ ws) t
stands_left [] ws t there = absurd there
stands_left (v ∷ vs) ws t there = elim there [ inl now ↦ inl now | inr later ↦ inr (stands_left vs ws t later) ]

pub stands_right : (vs ws : List Visit) (t : ℕ) → Stands ws t → Stands (vs ++ ws) t
stands_right [] ws t there = there
stands_right (v ∷ vs) ws t there = inr (stands_right vs ws t there)

pub open_split : (vs ws : List Visit) (t : ℕ) → IsOpen (vs ++ ws) t → IsOpen vs t ⊎ IsOpen ws t
open_split [] ws t there = inr there
open_split (v ∷ vs) ws t there = elim there [
  | inl now ↦ inl (inl now)
  | inr later ↦ elim (open_split vs ws t later) [ inl a ↦ inl (inr a) | inr b ↦ inr b ]
]

pub open_left : (vs ws : List Visit) (t : ℕ) → IsOpen vs t → IsOpen (vs ++ ws) t
open_left [] ws t there = absurd there
open_left (v ∷ vs) ws t there = elim there [ inl now ↦ inl now | inr later ↦ inr (open_left vs ws t later) ]

pub open_right : (vs ws : List Visit) (t : ℕ) → IsOpen ws t → IsOpen (vs ++ ws) t
open_right [] ws t there = there
open_right (v ∷ vs) ws t there = inr (open_right vs ws t there)

-- what isn't entered is none that was
pub open_fresh : (t u : ℕ) → IsOpen (fresh t ∷ []) u → ⊥
open_fresh t u there = elim there [ inl now ↦ absurd (never now.1) | inr none ↦ none ]
  where
    never : false ≡ true → ⊥
    never is = cc

pub stands_fresh : (ts : List ℕ) (t : ℕ) → Has ts t → Stands (map fresh ts) t
stands_fresh [] t has = absurd has
stands_fresh (u ∷ ts) t has = elim has [ inl now ↦ inl now | inr later ↦ inr (stands_fresh ts t later) ]

-- ---- depths

module _ (depth : ℕ → ℕ) where
  pub below_left : (limit : ℕ) (vs ws : List Visit) → AreBelow depth limit (vs ++ ws) → AreBelow depth limit vs
  below_left limit [] ws below = tt
  below_left limit (v ∷ vs) ws below = (below.0, below_left limit vs ws below.1)

  pub below_right : (limit : ℕ) (vs ws : List Visit) → AreBelow depth limit (vs ++ ws) → AreBelow depth limit ws
  below_right limit [] ws below = below
  below_right limit (v ∷ vs) ws below = below_right limit vs ws below.1

  pub below_both : (limit : ℕ) (vs ws : List Visit) → AreBelow depth limit vs → AreBelow depth limit ws → AreBelow depth limit (vs ++ ws)
  below_both limit [] ws some more = more
  below_both limit (v ∷ vs) ws some more = (some.0, below_both limit vs ws some.1 more)

  pub below_fresh : (limit : ℕ) (ts : List ℕ) → ((t : ℕ) → Has ts t → depth t < limit) → AreBelow depth limit (map fresh ts)
  below_fresh limit [] all = tt
  below_fresh limit (t ∷ ts) all = (all t (inl refl), below_fresh limit ts (λ u has. all u (inr has)))

  pub below_more : (low limit : ℕ) (vs : List Visit) → low < limit → AreBelow depth low vs → AreBelow depth limit vs
  below_more low limit [] le below = tt
  below_more low limit (v ∷ vs) le below = ((let b = below.0 in omega (arith, b, le)), below_more low limit vs le below.1)

-- ---- what follows each

module _ (depth : ℕ → ℕ) (table : Table) where
  pub followed_fresh : (ranks : List ℕ) (ts : List ℕ) → AreFollowed depth table ranks (map fresh ts)
  followed_fresh ranks [] = tt
  followed_fresh ranks (t ∷ ts) = (tt, followed_fresh ranks ts)

  pub followed_last : (ranks : List ℕ) (vs ws : List Visit) → AreFollowed depth table ranks (vs ++ ws) → AreFollowed depth table ranks ws
  followed_last ranks [] ws followed = followed
  followed_last ranks (v ∷ vs) ws followed = followed_last ranks vs ws followed.1

  -- a type that was entered is deeper than one that stands after it
  deeper : (ranks : List ℕ) (b : Bool) (t u : ℕ) (vs : List Visit) → b ≡ true → IsFollowed depth table ranks b u (vs ++ fresh t ∷ []) → depth t < depth u
  deeper ranks true t u vs is followed = (below_right depth (depth u) vs (fresh t ∷ []) followed.1).0
  deeper ranks false t u vs is followed = absurd (never is)
    where
      never : false ≡ true → ⊥
      never is = cc

  pub open_deeper : (ranks : List ℕ) (vs : List Visit) (t u : ℕ) → AreFollowed depth table ranks (vs ++ fresh t ∷ []) → IsOpen vs u → depth t < depth u
  open_deeper ranks [] t u followed there = absurd there
  open_deeper ranks (v ∷ vs) t u followed there = elim there [
    | inl now ↦ subst (λ w. depth t < depth w) now.0 (deeper ranks v.entered t v.of vs now.1 followed.0)
    | inr later ↦ open_deeper ranks vs t u followed.1 later
  ]

  -- the end of a stack is replaced, after what stood there is settled or stands there again
  module _ (before after : List ℕ) (kept : (t : ℕ) → IsSettled table before t → IsSettled table after t) (old new : List Visit)
      (there : (t : ℕ) → Stands old t → IsSettled table after t ⊎ Stands new t)
      (below : (limit : ℕ) → AreBelow depth limit old → AreBelow depth limit new) where
    part_there : (vs : List Visit) (t : ℕ) → IsSettled table before t ⊎ Stands (vs ++ old) t → IsSettled table after t ⊎ Stands (vs ++ new) t
    part_there vs t is = elim is [
      | inl done ↦ inl (kept t done)
      | inr stands ↦ elim (stands_split vs old t stands) [
        | inl left ↦ inr (stands_left vs new t left)
        | inr right ↦ elim (there t right) [ inl done ↦ inl done | inr again ↦ inr (stands_right vs new t again) ]
      ]
    ]

    one_replaced : (b : Bool) (u : ℕ) (vs : List Visit) → IsFollowed depth table before b u (vs ++ old) → IsFollowed depth table after b u (vs ++ new)
    one_replaced false u vs followed = tt
    one_replaced true u vs followed = (
      λ part has. part_there vs part (followed.0 part has),
      below_both depth (depth u) vs new (below_left depth (depth u) vs old followed.1) (below (depth u) (below_right depth (depth u) vs old followed.1)),
    )

    pub replaced : (vs : List Visit) → AreFollowed depth table before (vs ++ old) → AreFollowed depth table after new → AreFollowed depth table after (vs ++ new)
    replaced [] followed last = last
    replaced (v ∷ vs) followed last = (one_replaced v.entered v.of vs followed.0, replaced vs followed.1 last)
