-- What the iteration for a point leaves.
use Rattle.std.specs.Prelude.{◌≡◌, ◌<◌, ℕ, List, length, Option}
use Rattle.spark_base.specs.Lists.{Has}
use Rattle.place_names.specs.declared.fact.Fact.{Fact}
use Rattle.flow_paths.specs.Paths.{PathPoint}
use Rattle.state_trees.specs.FactStates.{FactState}
use Rattle.point_states.specs.Labels.{SearchedOn}
use Rattle.point_states.specs.Carries.{AreOver}
use Rattle.point_states.specs.Debts.{most, Pays}

-- The point has carried what its tree says, and its iteration is paid for.
pub record IsTurned (points : List PathPoint) (facts : List Fact) (count : ℕ) (old : List (Option FactState)) (work : List ℕ)
    (new : List (Option FactState)) (work' : List ℕ) : Type 0 where
  pub searched : SearchedOn points facts new work'
  pub over : AreOver facts new
  pub sized : length new ≡ count
  pub places : (a : ℕ) → Has work' a → a < count
  pub pays : Pays (most (length facts)) count old work new work'
