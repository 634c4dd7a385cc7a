-- Actuals and reports that code has, as those of the definitions.
use Rattle.std.specs.Prelude.{◌≡◌, ℕ, Bool, ◌&&◌, List, [], ◌∷◌, ◌++◌, map, flat_map, Option, Some, None}
use Rattle.spark_base.specs.Lists.{Has}
use Rattle.place_names.specs.Reports.{Report}
use Rattle.typed_tree.specs.Nodes.{TypedNodes, typed_at}
use Rattle.flow_paths.specs.declared.report.Report.{Report as Told}
use Rattle.flow_paths.specs.declared.report.Effects.{Effects}
use Rattle.flow_paths.specs.declared.point.Point.{Point}
use Rattle.flow_paths.specs.declared.point.LaidSub.{LaidSub}
use Rattle.flow_paths.specs.Objects.{Typing, sub_at, is_package_object}
use Rattle.flow_paths.specs.Laid.{flow_typing}
use Rattle.flow_paths.specs.Stands.{flow_point_of}
use Rattle.flow_paths.specs.Effects.{is_in, read_by, written_by}
use Rattle.flow_paths.specs.Aliases as aliases
use Rattle.flow_paths.specs.Aliases.{passed, meets_global, passed_reports, call_reports}
use Rattle.flow_paths.specs.Reports.{report_of}
use Rattle.laid_program.specs.declared.laid.Laid.{Laid}
use Rattle.laid_program.specs.Programs.{program_of}
use Rattle.alias_rules.specs.declared.actuals.Passed.{Passed}

abbrev pub passed_of : Passed → aliases.Passed
passed_of a = record { formal = a.formal; actual = record { pos = a.pos; name = a.name; of = a.of } }

abbrev pub found_of : Option Passed → List aliases.Passed
found_of None = []
found_of (Some a) = passed_of a ∷ []

-- What is known of the parts of a program that is laid out.
abbrev pub known : Laid → Typing
known laid = flow_typing (program_of laid)

-- The formals of a subprogram.
abbrev pub formals_of : Laid → ℕ → List ℕ
formals_of laid callee = (sub_at (known laid) callee).formals

-- These reports were added, and no others.
abbrev pub Adds : List Told → List Told → List Report → Type 0
Adds old new more = map report_of new ≡ map report_of old ++ more

-- What a point is reported for.
abbrev pub point_reports : Typing → Effects → TypedNodes → Point → List Report
point_reports s effects rows p = call_reports s effects (flow_point_of rows p).instr

-- A point of the text of a subprogram.
pub record IsPointOf (subs : List LaidSub) (p : Point) : Type 0 where
  pub sub : LaidSub
  pub there : Has subs sub
  pub point : Has sub.points p

abbrev pub ArePointsOf : List LaidSub → List Point → Type 0
ArePointsOf subs points = (p : Point) → Has points p → IsPointOf subs p

-- What the points of a subprogram are reported for.
abbrev pub sub_reports : Typing → Effects → TypedNodes → LaidSub → List Report
sub_reports s effects rows sub = flat_map (point_reports s effects rows) sub.points

-- An actual overlaps a package object that the callee uses, and may not.
abbrev pub is_met : Typing → Effects → ℕ → Passed → Bool
is_met s effects callee a =
    is_package_object s a.name.root
    && meets_global s (is_in a.name.root (read_by effects callee)) (is_in a.name.root (written_by effects callee)) a.formal

-- What a call with these actuals is reported for.
abbrev pub actuals_reports : Laid → Effects → ℕ → ℕ → List Report
actuals_reports laid effects callee actuals =
    passed_reports (known laid) effects callee (passed (formals_of laid callee) (typed_at laid.rows actuals))
