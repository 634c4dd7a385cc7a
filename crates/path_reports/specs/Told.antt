-- The reports of the points, as what may hold before each act gives them.
use Rattle.std.specs.Prelude.{ℕ, List, [], ◌∷◌, ◌++◌, map, Option, Some, None}
use Rattle.spark_base.specs.declared.position.Pos.{Pos}
use Rattle.place_names.specs.declared.act.Act.{Act}
use Rattle.place_names.specs.declared.act.Placed.{Placed}
use Rattle.place_names.specs.Rules.{Forbidden}
use Rattle.place_names.specs.Reports.{Report, report_at}
use Rattle.fact_questions.specs.declared.found.Found.{Found}
use Rattle.fact_questions.specs.Findings.{as_forbidden}
use Rattle.state_trees.specs.FactStates.{FactState, state_behind, IsKept}
use Rattle.move_rules.specs.MoveRules.{moves_found}
use Rattle.borrow_observe.specs.LoanRules.{loans_found}
use Rattle.flow_paths.specs.Paths.{PathPoint}
use Rattle.point_states.specs.PointTrees.{tree_at}

-- What the facts that may hold forbid at an act, by the rules of moves and by those of loans.
abbrev pub found_at : Act → FactState → List Forbidden
found_at a s = moves_found a s ++ loans_found a s

-- The reports of some acts, each with what may hold before it.
abbrev pub told_along : List Placed → FactState → List Report
told_along [] s = []
told_along (p ∷ acts) s = map (report_at p.pos) (found_at p.act s) ++ told_along acts (state_behind p.act s)

-- Where no path comes, there are none.
abbrev pub told_where : List Placed → Option FactState → List Report
told_where acts None = []
told_where acts (Some s) = told_along acts s

-- Those of all points.
abbrev pub told_all : List PathPoint → List (Option FactState) → List Report
told_all [] trees = []
told_all (p ∷ points) [] = []
told_all (p ∷ points) (t ∷ trees) = told_where p.acts t ++ told_all points trees

-- What was found, as a report.
abbrev pub report_found : Pos → Found → Report
report_found p y = report_at p (as_forbidden y)

-- The tree of each point, where it has one, has a mark for each fact.
abbrev pub IsKeptWhere : Option FactState → Type 0
IsKeptWhere None = Unit {0}
IsKeptWhere (Some s) = IsKept s

abbrev pub AreKept : List (Option FactState) → Type 0
AreKept trees = (p : ℕ) → IsKeptWhere (tree_at trees p)
