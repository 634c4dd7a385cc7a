-- What the facts that may hold are reported for at a call: each for the use of the object that it
-- is rooted in. The use of another one breaks no rule by it, as its place doesn't overlap that one.
use Rattle.std.specs.Prelude.{ℕ, Bool, true, false, ◌&&◌, ◌||◌, ◌==◌, List, [], ◌∷◌, ◌++◌, map, length, nat_le, Option, Some, None, if◌then◌else◌}
use Rattle.spark_base.specs.declared.position.Pos.{Pos}
use Rattle.place_names.specs.declared.fact.Fact.{Fact}
use Rattle.place_names.specs.declared.rule.Rule.TheVariants.{O11}
use Rattle.place_names.specs.Names.{object}
use Rattle.place_names.specs.Facts.{place}
use Rattle.place_names.specs.Rules.{Forbidden, forbidden_if, breaks_O11}
use Rattle.place_names.specs.Reports.{Report, report_at}
use Rattle.fact_questions.specs.Findings.{found_among}
use Rattle.typed_tree.specs.declared.object.Object.{Object}
use Rattle.flow_paths.specs.declared.instr.Instr.{Instr}
use Rattle.flow_paths.specs.declared.instr.Instr.TheVariants as instr
use Rattle.flow_paths.specs.declared.point.Point.{Point}
use Rattle.flow_paths.specs.declared.report.Effects.{Effects}
use Rattle.flow_paths.specs.Effects.{is_in, read_by, written_by}
use Rattle.state_trees.specs.FactStates.{FactState, may_hold}
use Rattle.point_states.specs.Carries.{state_along, acts_of}
use Rattle.path_reports.specs.Told.{told_along}

-- A fact breaks a rule at a call that uses an object. Object 0 is Ada.Text_IO, which has no act,
-- and the numbers from `count` on are of no object.
abbrev pub breaks_at : ℕ → List ℕ → List ℕ → ℕ → Fact → Bool
breaks_at count read written g f =
    if g == 0 || nat_le count g then false
    else (if is_in g written then breaks_O11 g true f else (breaks_O11 g false f && is_in g read))

-- It does so at the use of the object that it is rooted in.
abbrev pub breaks_call : ℕ → List ℕ → List ℕ → Fact → Bool
breaks_call count read written f = breaks_at count read written (place f).root f

-- What a fact forbids at the call.
abbrev pub use_forbids : ℕ → List ℕ → List ℕ → Fact → Option Forbidden
use_forbids count read written f = forbidden_if (breaks_call count read written f) O11 (object (place f).root) f

-- What some facts are reported for.
abbrev pub uses_told : ℕ → List ℕ → List ℕ → Pos → List Fact → List Report
uses_told count read written p facts = map (report_at p) (found_among (use_forbids count read written) facts)

-- What some facts are reported for at an instruction. Only a call uses objects in that way.
abbrev pub called_told : List Object → Effects → Pos → Instr → List Fact → List Report
called_told objects effects p (instr.Call sub actuals result) facts =
    uses_told (length objects) (read_by effects sub) (written_by effects sub) p facts
called_told objects effects p _ facts = []

-- The reports of a point: those of its own acts, and then those of its call.
abbrev pub point_told : List Object → Effects → Point → FactState → List Report
point_told objects effects p s =
    told_along p.acts s ++ called_told objects effects p.pos p.instr (may_hold (state_along (acts_of p.acts) s))

-- Where no path comes, there are none.
abbrev pub where_told : List Object → Effects → Point → Option FactState → List Report
where_told objects effects p None = []
where_told objects effects p (Some s) = point_told objects effects p s

-- Those of all points.
abbrev pub all_told : List Object → Effects → List Point → List (Option FactState) → List Report
all_told objects effects [] trees = []
all_told objects effects (p ∷ points) [] = []
all_told objects effects (p ∷ points) (t ∷ trees) = where_told objects effects p t ++ all_told objects effects points trees
