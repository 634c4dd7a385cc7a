-- The rules on the actuals of one call of a procedure, which look at the text without paths
-- (docs/FLOW.md, "Actuals that overlap"): A1 and A2.
use Rattle.std.specs.Prelude.{ℕ, Bool, not, ◌&&◌, ◌||◌, List, [], ◌∷◌, ◌++◌, flat_map, Option, Some, None, is_some, if◌then◌else◌}
use Rattle.typed_tree.specs.place_names.Names.{overlaps}
use Rattle.typed_tree.specs.place_names.declared.rule.Rule.TheVariants as rule
use Rattle.typed_tree.specs.place_names.Reports.{Report}
use Rattle.typed_tree.specs.type_definitions.Types.{is_scalar}
use Rattle.typed_tree.specs.Trees.{TypedTree, More}
use Rattle.flow_paths.specs.declared.report.Effects.{Effects}
use Rattle.flow_paths.specs.Instructions.{Instruction, Call}
use Rattle.flow_paths.specs.Objects.{Typing, sub_at, object_at, view_of, is_package_object, is_variable_access}
use Rattle.flow_paths.specs.Names.{Written, written}
use Rattle.flow_paths.specs.Points.{FlowPoint}
use Rattle.flow_paths.specs.Laid.{FlowSub, FlowProgram, flow_typing}
use Rattle.flow_paths.specs.Effects.{is_in, read_by, written_by}
use Rattle.flow_paths.specs.Views.{is_in_mode, text_report}

-- A formal is immutable where its mode is `in` and its type is no access-to-variable type.
abbrev pub is_immutable : Typing → ℕ → Bool
is_immutable s x = is_in_mode (object_at s x).mode && not (is_variable_access (view_of s x))

abbrev pub is_scalar_formal : Typing → ℕ → Bool
is_scalar_formal s x = is_scalar (view_of s x)

-- An actual that is a name of an object as a whole expression, and its formal.
pub record Passed : Type 0 where
  pub formal : ℕ
  pub actual : Written

abbrev pub passed_as : ℕ → Option Written → List Passed
passed_as x None = []
passed_as x (Some m) = record { formal = x; actual = m } ∷ []

-- Those of a call, in order of the formals.
abbrev pub passed : List ℕ → TypedTree → List Passed
passed (x ∷ formals) (More e rest) = passed_as x (written e) ++ passed formals rest
passed _ _ = []

-- ---- A1

-- Two actuals may overlap where both formals are immutable, or where one is and its type is scalar.
abbrev pub may_overlap : Typing → Passed → Passed → Bool
may_overlap s a b =
    (is_immutable s a.formal && is_immutable s b.formal)
    || ((is_immutable s a.formal && is_scalar_formal s a.formal) || (is_immutable s b.formal && is_scalar_formal s b.formal))

-- The report stands at the later one.
abbrev pub pair_reports : Typing → Passed → Passed → List Report
pair_reports s a b =
    if overlaps a.actual.name b.actual.name && not (may_overlap s a b)
    then text_report b.actual.pos rule.A1 b.actual.name ∷ [] else []

abbrev pub overlap_reports : Typing → List Passed → List Report
overlap_reports s [] = []
overlap_reports s (a ∷ rest) = flat_map (pair_reports s a) rest ++ overlap_reports s rest

-- ---- A2

-- An actual is rooted in a package object. The callee reads or writes that object, and the formal
-- isn't immutable; or the callee writes it, and the formal's type isn't scalar.
abbrev pub meets_global : Typing → Bool → Bool → ℕ → Bool
meets_global s read written x =
    ((read || written) && not (is_immutable s x)) || (written && not (is_scalar_formal s x))

abbrev pub global_reports : Typing → Effects → ℕ → Passed → List Report
global_reports s effects callee a =
    let g : ℕ = a.actual.name.root in
    if is_package_object s g && meets_global s (is_in g (read_by effects callee)) (is_in g (written_by effects callee)) a.formal
    then text_report a.actual.pos rule.A2 a.actual.name ∷ [] else []

-- ---- the reports

abbrev pub passed_reports : Typing → Effects → ℕ → List Passed → List Report
passed_reports s effects callee actuals = overlap_reports s actuals ++ flat_map (global_reports s effects callee) actuals

-- Calls of functions give none.
abbrev pub call_reports : Typing → Effects → Instruction → List Report
call_reports s effects (Call callee actuals None) =
    if is_some (sub_at s callee).result then [] else passed_reports s effects callee (passed (sub_at s callee).formals actuals)
call_reports s effects _ = []

-- What A1 and A2 report of a program.
abbrev pub alias_reports : FlowProgram → Effects → List Report
alias_reports program effects =
    flat_map (λ (sub : FlowSub). flat_map (λ (p : FlowPoint). call_reports (flow_typing program) effects p.instr) sub.points) program.subs
