-- The leak checks of a program, each excused or not (docs/FLOW.md, "Leak checks").
use Rattle.std.specs.Prelude.{◌≡◌, ℕ, not, List, [], ◌∷◌, ◌++◌, take, length, ◌↔◌, IsTrue}
use Rattle.std.specs.declared.cmp.Ordering.{Ordering}
use Rattle.std.specs.declared.cmp.Ordering.TheVariants.{Less}
use Rattle.std.specs.Ordering.{ordering_then, nat_cmp}
use Rattle.std.specs.Cmp.Lexicographic.{slice_cmp}
use Rattle.typed_tree.specs.spark_base.Lists.{Has}
use Rattle.typed_tree.specs.spark_base.Positions.{position_cmp}
use Rattle.typed_tree.specs.place_names.Names.{Name, has_elem}
use Rattle.typed_tree.specs.place_names.declared.fact.Fact.TheVariants.{Moved}
use Rattle.typed_tree.specs.place_names.Reports.{selector_cmp}
use Rattle.flow_paths.specs.declared.report.Effects.{Effects}
use Rattle.flow_paths.specs.declared.report.LeakLine.{LeakLine}
use Rattle.flow_paths.specs.declared.point.LeakSpot.{LeakSpot}
use Rattle.flow_paths.specs.Points.{FlowPoint}
use Rattle.flow_paths.specs.Laid.{FlowSub, FlowProgram}
use Rattle.flow_paths.specs.Paths.{PathPoint, path_point, ControlPath, IsReached, facts_within}
use Rattle.flow_paths.specs.Effects.{path_points}
use Rattle.flow_paths.specs.Printing.{printed_name}

-- Every control path that reaches a leak check has moved exactly its name there, just before the
-- effect of the act that it belongs to; some path reaches it; and it isn't some element.
pub record IsExcused (points : List PathPoint) (p : ℕ) (spot : LeakSpot) : Type 0 where
  pub definite : IsTrue (not (has_elem spot.name.sels))
  pub reached : IsReached points p
  pub moved : (before : List ℕ) → ControlPath points before p
      → Has (facts_within points before (take spot.before (path_point points p).acts)) (Moved spot.name)

-- The point with a number.
abbrev pub IsPoint : FlowSub → ℕ → FlowPoint → Type 0
IsPoint sub n p = (front : List FlowPoint) × (rest : List FlowPoint) × (sub.points ≡ front ++ p ∷ rest) × (length front ≡ n)

-- A leak check of some point, and what is told of it.
pub record Checked (program : FlowProgram) (effects : Effects) (line : LeakLine) : Type 0 where
  pub sub : FlowSub
  pub of : Has program.subs sub
  pub number : ℕ
  pub point : FlowPoint
  pub at : IsPoint sub number point
  pub spot : LeakSpot
  pub has : Has point.leaks spot
  pub pos : line.pos ≡ spot.pos
  pub name : line.name ≡ spot.name
  pub excused : IsTrue line.excused ↔ IsExcused (path_points program effects sub) number spot

-- By position and printed name. Where both are equal and the roots differ, the root that is
-- declared later stands first; selectors decide last, so that the order is one of all lines.
abbrev pub leak_cmp : (Name → List ℕ) → LeakLine → LeakLine → Ordering
leak_cmp printed a b =
    ordering_then (position_cmp a.pos b.pos)
    (ordering_then (slice_cmp nat_cmp (printed a.name) (printed b.name))
    (ordering_then (nat_cmp b.name.root a.name.root) (slice_cmp selector_cmp a.name.sels b.name.sels)))

abbrev pub LinesAscend : (Name → List ℕ) → List LeakLine → Type 0
LinesAscend printed [] = Unit {0}
LinesAscend printed (a ∷ rest) =
    ((b : LeakLine) → Has rest b → leak_cmp printed a b ≡ Less) × LinesAscend printed rest

-- Each leak check of a program, once and in order.
pub record IsLeakPlan (program : FlowProgram) (effects : Effects) (lines : List LeakLine) : Type 0 where
  pub ascending : LinesAscend (printed_name program.table program.objects) lines
  pub sound : (line : LeakLine) → Has lines line → Checked program effects line
  pub complete : (line : LeakLine) → Checked program effects line → Has lines line
