-- What may hold and what may not hold before the acts of each point (docs/RULES.md, "Facts").
use Rattle.std.specs.Prelude.{◌≡◌, ◌<◌, ℕ, ◌+◌, true, false, List, [], ◌∷◌, map, length, get_or, Option, Some, None}
use Rattle.spark_base.specs.Lists.{Has}
use Rattle.place_names.specs.Names.{object}
use Rattle.place_names.specs.declared.fact.Fact.{Fact}
use Rattle.place_names.specs.declared.fact.Fact.TheVariants.{Moved}
use Rattle.flow_paths.specs.declared.point.Point.{Point}
use Rattle.flow_paths.specs.Paths.{PathPoint, path_point, IsReached, MayHold, MayLack}
use Rattle.state_trees.specs.FactStates.{FactState, says, may_hold, may_lack}

-- A point of the code, as far as paths go.
abbrev pub path_point_of : Point → PathPoint
path_point_of p = record { acts = p.acts; next = p.next }

abbrev pub path_points_of : List Point → List PathPoint
path_points_of points = map path_point_of points

-- Each successor is the number of a point.
abbrev pub AreWithin : List PathPoint → Type 0
AreWithin points = (p q : ℕ) → Has (path_point points p).next q → q < length points

-- How many successors the points have, all together.
abbrev pub successors : List PathPoint → ℕ
successors [] = 0
successors (p ∷ rest) = length p.next + successors rest

-- The fact with a number; past the end, some fact.
abbrev pub fact_at : List Fact → ℕ → Fact
fact_at facts i = get_or facts i (Moved (object 0))

-- What the tree of a point says of each fact of the list. It may hold exactly where some control
-- path to the point has it before the point's acts, and may not exactly where some such path lacks
-- it.
pub record IsExactAt (points : List PathPoint) (facts : List Fact) (p : ℕ) (s : FactState) : Type 0 where
  pub listed : s.facts ≡ facts
  pub may : (f : Fact) → (Has (may_hold s) f → Has facts f × MayHold points p f) × (Has facts f × MayHold points p f → Has (may_hold s) f)
  pub lacks : (f : Fact) → (Has (may_lack s) f → Has facts f × MayLack points p f) × (Has facts f × MayLack points p f → Has (may_lack s) f)
  -- the same of the fact with a number
  pub may_at : (i : ℕ) → i < length facts
      → (says s i true ≡ true → MayHold points p (fact_at facts i)) × (MayHold points p (fact_at facts i) → says s i true ≡ true)
  pub lacks_at : (i : ℕ) → i < length facts
      → (says s i false ≡ true → MayLack points p (fact_at facts i)) × (MayLack points p (fact_at facts i) → says s i false ≡ true)

-- The tree of a point, where it has one.
abbrev pub tree_at : List (Option FactState) → ℕ → Option FactState
tree_at trees p = get_or trees p None

-- There is an entry for each point. It is none exactly where no control path ends at the point, and
-- else says what the paths there have and lack.
pub record IsExact (points : List PathPoint) (facts : List Fact) (trees : List (Option FactState)) : Type 0 where
  pub count : length trees ≡ length points
  pub none : (p : ℕ) → tree_at trees p ≡ None → IsReached points p → ⊥
  pub reached : (p : ℕ) (s : FactState) → tree_at trees p ≡ Some s → IsReached points p
  pub some : (p : ℕ) (s : FactState) → tree_at trees p ≡ Some s → IsExactAt points facts p s
