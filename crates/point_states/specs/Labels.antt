-- What the trees say, as labels that successors carry.
use Rattle.std.specs.Prelude.{◌≡◌, ℕ, Bool, true, not, ◌&&◌, ◌==◌, List, length, nat_lt, Option, Some, None}
use Rattle.place_names.specs.declared.act.Act.{Act}
use Rattle.place_names.specs.declared.fact.Fact.{Fact}
use Rattle.place_names.specs.Facts.{holds_along}
use Rattle.label_flow.specs.Flows.{Flow}
use Rattle.label_flow.specs.Searches.{Searched}
use Rattle.flow_paths.specs.Paths.{PathPoint, path_point, acts_at}
use Rattle.state_trees.specs.FactStates.{FactState, says}
use Rattle.point_states.specs.PointTrees.{fact_at, tree_at}

-- A path comes here; or one comes that has the fact with a number (true) or lacks it (false).
pub data Label : Type 0 where
  Here : Label
  Says : ℕ → Bool → Label

-- What some acts make of a label.
abbrev pub carried : List Fact → List Act → Label → Label
carried facts acts Here = Here
carried facts acts (Says i b) = Says i (holds_along acts (fact_at facts i) b)

-- At the start a path comes, which lacks each fact.
abbrev pub is_first : List Fact → Label → Bool
is_first facts Here = true
is_first facts (Says i b) = nat_lt i (length facts) && not b

abbrev pub flow_of : List PathPoint → List Fact → Flow Label
flow_of points facts = record {
  next = λ a. (path_point points a).next;
  move = λ a k. carried facts (acts_at points a) k;
  first = λ a k. (a == 0) && is_first facts k;
}

-- A tree has a label.
abbrev pub Shows : Option FactState → Label → Type 0
Shows None k = ⊥
Shows (Some s) Here = Unit {0}
Shows (Some s) (Says i b) = says s i b ≡ true

abbrev pub labels_of : List (Option FactState) → ℕ → Label → Type 0
labels_of trees a k = Shows (tree_at trees a) k

-- What the worklist keeps.
abbrev pub SearchedOn : List PathPoint → List Fact → List (Option FactState) → List ℕ → Type 0
SearchedOn points facts trees work = Searched (flow_of points facts) (labels_of trees) work
