-- The reports of V1 to V4 as lists, in the order of the text.
use Rattle.std.specs.Prelude.{ℕ, Bool, true, not, ◌&&◌, ◌==◌, List, [], ◌∷◌, ◌++◌, map, flat_map, Option, Some, None, if◌then◌else◌}
use Rattle.spark_base.specs.declared.position.Pos.{Pos}
use Rattle.place_names.specs.Names.{Name, object}
use Rattle.place_names.specs.declared.act.Mode.{Mode}
use Rattle.place_names.specs.declared.act.Mode.TheVariants as mode
use Rattle.place_names.specs.declared.act.Act.{Act}
use Rattle.place_names.specs.declared.act.Act.TheVariants as act
use Rattle.place_names.specs.declared.act.Placed.{Placed}
use Rattle.place_names.specs.declared.rule.Rule.TheVariants as rule
use Rattle.place_names.specs.Reports.{Report}
use Rattle.flow_paths.specs.declared.report.Effects.{Effects}
use Rattle.flow_paths.specs.Instructions.{Instruction}
use Rattle.flow_paths.specs.Objects.{is_observer}
use Rattle.flow_paths.specs.Points.{FlowPoint}
use Rattle.flow_paths.specs.Limits.{source_pos}
use Rattle.flow_paths.specs.Effects.{written_by, writes_text}
use Rattle.flow_paths.specs.Views.{text_report, has_selector, encloses, scope_of, is_assignment}
use Rattle.traversal_funcs.specs.declared.views.Views.{Views}
use Rattle.traversal_funcs.specs.Instructions.{procedure_of}
use Rattle.traversal_funcs.specs.Sights.{site, is_constant, may_borrow, is_given}

-- A report where there is one.
abbrev pub told : Bool → Report → List Report
told when r = if when then r ∷ [] else []

-- ---- acts

abbrev pub changed_reports : Views → Pos → Name → List Report
changed_reports v p m = told (is_constant v m.root (has_selector m)) (text_report p rule.V1 m)

abbrev pub actual_reports : Views → Pos → Name → Mode → Bool → List Report
actual_reports v p m mode.In access = told (access && is_constant v m.root true) (text_report p rule.V1 m)
actual_reports v p m mode.Out access = changed_reports v p m
actual_reports v p m mode.InOut access = changed_reports v p m

abbrev pub borrowed_reports : Views → Pos → Name → List Report
borrowed_reports v p m = told (is_constant v m.root true && not (may_borrow v m.root)) (text_report p rule.V1 m)

abbrev pub observed_reports : Views → Instruction → Pos → ℕ → Name → List Report
observed_reports v i p h m =
    told (is_assignment i && not (encloses v.scopes.now (scope_of (site v) m.root) (scope_of (site v) h))) (text_report p rule.V2 m)

abbrev pub given_reports : Views → Pos → Name → Bool → List Report
given_reports v p m borrows =
    told (borrows && is_observer (site v) m.root) (text_report p rule.V1 m)
    ++ told (not (is_given v m.root)) (text_report p rule.V3 m)

abbrev pub reborrowed_reports : Instruction → Pos → ℕ → Name → List Report
reborrowed_reports i p b m = told (not (m.root == b)) (text_report (source_pos i p) rule.V4 m)

abbrev pub act_reports : Views → Instruction → Pos → Act → List Report
act_reports v i p (act.Write m) = changed_reports v p m
act_reports v i p (act.Move m parts) = changed_reports v p m
act_reports v i p (act.Free m) = changed_reports v p m
act_reports v i p (act.Actual m how owning access) = actual_reports v p m how access
act_reports v i p (act.Borrow h m) = borrowed_reports v p m
act_reports v i p (act.Observe h m from_observer) = observed_reports v i p h m
act_reports v i p (act.Give m borrows) = given_reports v p m borrows
act_reports v i p (act.Reborrow b m) = reborrowed_reports i p b m
act_reports v i p _ = []

-- ---- points

abbrev pub acts_reports : Views → FlowPoint → List Report
acts_reports v p = flat_map (λ (a : Placed). act_reports v p.instr a.pos a.act) p.acts

abbrev pub called_by : Effects → Option ℕ → List ℕ
called_by effects None = []
called_by effects (Some callee) = written_by effects callee

abbrev pub written_reports : Pos → List ℕ → List Report
written_reports p written = map (λ g. text_report p rule.V1 (object g)) written

abbrev pub call_reports : Views → Effects → FlowPoint → List Report
call_reports v effects p = if v.function then written_reports p.pos (called_by effects (procedure_of p.instr)) else []

abbrev pub point_reports : Views → Effects → FlowPoint → List Report
point_reports v effects p =
    acts_reports v p ++ (call_reports v effects p ++ told (v.function && writes_text p.instr) (text_report p.pos rule.V1 (object 0)))

abbrev pub points_reports : Views → Effects → List FlowPoint → List Report
points_reports v effects points = flat_map (point_reports v effects) points
