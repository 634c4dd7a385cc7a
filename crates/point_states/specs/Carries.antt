-- What one carry of a state to a point does to the trees and to the work.
use Rattle.std.specs.BTreeSet.{insert_key}
use Rattle.std.specs.Ordering.{nat_cmp}
use Rattle.std.specs.Prelude.{◌≡◌, ◌≢◌, ◌⊎◌, suc, ℕ, Bool, true, false, List, [], ◌∷◌, map, length, set, Option, Some, None}
use Rattle.place_names.specs.declared.act.Act.{Act}
use Rattle.place_names.specs.declared.act.Placed.{Placed}
use Rattle.place_names.specs.declared.fact.Fact.{Fact}
use Rattle.state_trees.specs.FactStates.{FactState, state_behind, joined, none_hold, IsKept}
use Rattle.point_states.specs.PointTrees.{tree_at}

abbrev pub acts_of : List Placed → List Act
acts_of acts = map (λ (placed : Placed). placed.act) acts

-- What some acts make of a state.
abbrev pub state_along : List Act → FactState → FactState
state_along [] s = s
state_along (a ∷ acts) s = state_along acts (state_behind a s)

-- The first state that comes to a point is its tree, a further one is joined.
abbrev pub come_to : FactState → Option FactState → FactState
come_to s None = s
come_to s (Some t) = joined t s

-- A state came to point q, and whether its tree changed.
pub record IsBrought (q : ℕ) (s : FactState) (old new : List (Option FactState)) (changed : Bool) : Type 0 where
  pub trees : new ≡ set old q (Some (come_to s (tree_at old q)))
  pub same : changed ≡ false → tree_at old q ≡ Some (come_to s (tree_at old q))
  pub changes : changed ≡ true → tree_at old q ≢ Some (come_to s (tree_at old q))

-- A state came to point q, which was put into the work exactly where its tree changed.
pub record CarriedTo (q : ℕ) (s : FactState) (old : List (Option FactState)) (work : List ℕ)
    (new : List (Option FactState)) (work' : List ℕ) : Type 0 where
  pub trees : new ≡ set old q (Some (come_to s (tree_at old q)))
  pub works : ((work' ≡ work) × (tree_at old q ≡ Some (come_to s (tree_at old q))))
      ⊎ ((work' ≡ insert_key nat_cmp work q) × (tree_at old q ≢ Some (come_to s (tree_at old q))))

-- A state came to some points, one after the other.
abbrev pub CarriedAlong : List ℕ → FactState → List (Option FactState) → List ℕ → List (Option FactState) → List ℕ → Type 0
CarriedAlong [] s old work new work' = (new ≡ old) × (work' ≡ work)
CarriedAlong (q ∷ next) s old work new work' = (trees : List (Option FactState)) × (behind : List ℕ)
    × CarriedTo q s old work trees behind × CarriedAlong next s trees behind new work'

-- A tree is one over a list of facts.
abbrev pub IsOver : List Fact → Option FactState → Type 0
IsOver facts None = Unit {0}
IsOver facts (Some s) = (s.facts ≡ facts) × IsKept s

abbrev pub AreOver : List Fact → List (Option FactState) → Type 0
AreOver facts trees = (p : ℕ) → IsOver facts (tree_at trees p)

-- At the first point no fact holds, and no other has a tree.
pub record IsStarted (count : ℕ) (facts : List Fact) (trees : List (Option FactState)) : Type 0 where
  pub sized : length trees ≡ count
  pub first : tree_at trees 0 ≡ Some (none_hold facts)
  pub kept : IsKept (none_hold facts)
  pub others : (p : ℕ) → tree_at trees (suc p) ≡ None
