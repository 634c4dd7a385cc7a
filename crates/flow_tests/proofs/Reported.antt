-- Reports on paths, and reports of rules on the text.
use Rattle.std.proofs.Common.{◌≡◌, ℕ, List, refl, [], ◌∷◌, ◌++◌, inl, inr, arith}
use Rattle.std.specs.Prelude.{false, Option, Some, None, flat_map, get_or}
use Rattle.place_names.specs.declared.selector.Sel.TheVariants.{Field, Deref}
use Rattle.place_names.specs.declared.rule.State.TheVariants as state
use Rattle.place_names.specs.declared.rule.Rule.{Rule}
use Rattle.place_names.specs.declared.rule.Rule.TheVariants.{O1, O3, O4, O7, O8, O11, V1, V2, V3}
use Rattle.place_names.specs.declared.rule.State.{State}
use Rattle.place_names.specs.declared.fact.Fact.{Fact}
use Rattle.place_names.specs.declared.fact.Fact.TheVariants.{Moved}
use Rattle.place_names.specs.declared.act.Act.TheVariants.{Read, Write}
use Rattle.place_names.specs.declared.act.Placed.{Placed}
use Rattle.place_names.specs.Names.{Name, object}
use Rattle.place_names.specs.Facts.{effect}
use Rattle.place_names.specs.Rules.{Forbidden, forbids}
use Rattle.place_names.specs.Reports.{Report, report_at}
use Rattle.resolved_tree.specs.Trees.{Program}
use Rattle.flow_paths.specs.declared.report.Effects.{Effects}
use Rattle.flow_paths.specs.Instructions.{Skip}
use Rattle.flow_paths.specs.Points.{FlowPoint}
use Rattle.flow_paths.specs.Laid.{FlowSub}
use Rattle.flow_paths.specs.Paths.{PathPoint, path_point, ControlPath, begins, goes_on, PathReport}
use Rattle.flow_paths.specs.Effects.{path_points, flow_sub_at}
use Rattle.flow_paths.specs.Views.{ViewReport, changed, shorter, elsewhere, of_observer, itself, text_report, encloses_within}
use Rattle.flow_tests.proofs.ResolvedTrees.{at}
use Rattle.flow_tests.proofs.Sources.{nine_lines, one_branch, two_exits, recursion, borrower, reborrow_past_hole, move_in_loop, views, other_root}
use Rattle.flow_tests.proofs.Flow.{flow, laying, part, does}

-- ---- along one path

abbrev pub told : Placed → Option Forbidden → List Report
told a None = []
told a (Some found) = report_at a.pos found ∷ []

abbrev pub act_reports : List Fact → Placed → List Report
act_reports facts a = flat_map (λ f. told a (forbids a.act f)) facts

-- What the acts of some points in order give, and what follows, from the facts that hold.
unfoldable pub reports_with : List Fact → List Placed → (List Fact → List Report) → List Report
reports_with facts [] then = then facts
reports_with facts (a ∷ rest) then = act_reports facts a ++ reports_with (effect a.act facts) rest then

unfoldable pub reports_along : List PathPoint → List ℕ → List Fact → List Report
reports_along points [] facts = []
reports_along points (p ∷ path) facts = reports_with facts (path_point points p).acts (reports_along points path)

abbrev pub on_path : Program → Effects → ℕ → List ℕ → List Report
on_path p effects n path = reports_along (path_points (flow p) effects (flow_sub_at (flow p) n)) path []

abbrev pub told_at : ℕ → ℕ → Rule → Name → State → Report
told_at line column r m w = record { pos = at line column; rule = r; name = m; word = Some w }

abbrev pub no_effects : Effects
no_effects = record { read = []; written = [] }

-- The one path of straight lines.
nine_reports : on_path nine_lines no_effects 1 (0 ∷ 1 ∷ 2 ∷ 3 ∷ 4 ∷ 5 ∷ 6 ∷ 7 ∷ 8 ∷ 9 ∷ [])
    ≡ told_at 8 36 O1 (part 1 (Deref ∷ [])) state.Moved ∷ []
unfolding laying reports_with reports_along
nine_reports = refl

-- X is moved on one branch; the other one gives no report.
branch_taken : on_path one_branch no_effects 1 (0 ∷ 1 ∷ 2 ∷ 3 ∷ 5 ∷ []) ≡ told_at 17 21 O1 (part 1 (Deref ∷ [])) state.Moved ∷ []
unfolding laying reports_with reports_along
branch_taken = refl

branch_not_taken : on_path one_branch no_effects 1 (0 ∷ 1 ∷ 2 ∷ 4 ∷ 5 ∷ []) ≡ []
unfolding laying reports_with reports_along
branch_not_taken = refl

-- The second iteration moves what the first one has moved.
second_turn : on_path move_in_loop no_effects 1 (0 ∷ 1 ∷ 2 ∷ 3 ∷ 2 ∷ 3 ∷ []) ≡ told_at 16 33 O4 (object 1) state.Moved ∷ []
unfolding laying reports_with reports_along
second_turn = refl

-- Each exit ends the loan.
exits_reports : on_path two_exits no_effects 1 (0 ∷ 1 ∷ 2 ∷ 4 ∷ 5 ∷ 6 ∷ 8 ∷ 9 ∷ 10 ∷ [])
    ≡ told_at 16 62 O3 (part 1 (Deref ∷ Field 0 ∷ [])) state.Borrowed ∷ []
unfolding laying reports_with reports_along
exits_reports = refl

first_exit : on_path two_exits no_effects 1 (0 ∷ 1 ∷ 2 ∷ 3 ∷ 8 ∷ 9 ∷ 10 ∷ []) ≡ []
unfolding laying reports_with reports_along
first_exit = refl

-- Declare L, Declare B, Test, Assign, Assign, Test, the end of B, Assign, the end of L, Finish.
borrower_reports : on_path borrower no_effects 1 (0 ∷ 1 ∷ 2 ∷ 3 ∷ 4 ∷ 2 ∷ 5 ∷ 6 ∷ 7 ∷ 8 ∷ [])
    ≡ told_at 17 33 O1 (part 1 (Deref ∷ Field 0 ∷ [])) state.Borrowed ∷ []
unfolding laying reports_with reports_along
borrower_reports = refl

-- Declare T, Declare U, Declare B, two assignments, the end of B.
hole_reports : on_path reborrow_past_hole no_effects 1 (0 ∷ 1 ∷ 2 ∷ 3 ∷ 4 ∷ 5 ∷ [])
    ≡ told_at 18 14 O7 (object 3) state.Moved ∷ told_at 18 28 O8 (part 3 (Deref ∷ Field 0 ∷ [])) state.Moved ∷ []
unfolding laying reports_with reports_along
hole_reports = refl

-- The call writes G, which is observed.
w_writes : Effects
w_writes = record { read = [] ∷ [] ∷ (1 ∷ []) ∷ []; written = [] ∷ (1 ∷ []) ∷ (1 ∷ []) ∷ [] }

recursion_reports : on_path recursion w_writes 2 (0 ∷ 1 ∷ []) ≡ told_at 12 1 O11 (object 1) state.Observed ∷ []
unfolding laying reports_with reports_along w_writes
recursion_reports = refl

-- ---- as the definition has it

abbrev pub nine_points : List PathPoint
nine_points = path_points (flow nine_lines) no_effects (flow_sub_at (flow nine_lines) 1)

nine_path : ControlPath nine_points (4 ∷ 3 ∷ 2 ∷ 1 ∷ 0 ∷ []) 5
unfolding laying
nine_path = goes_on _ 4 5 (goes_on _ 3 4 (goes_on _ 2 3 (goes_on _ 1 2 (goes_on _ 0 1 (begins tt) (inl refl)) (inl refl)) (inl refl)) (inl refl)) (inl refl)

nine_reported : PathReport nine_points (told_at 8 36 O1 (part 1 (Deref ∷ [])) state.Moved)
unfolding laying
nine_reported = record {
  before = 4 ∷ 3 ∷ 2 ∷ 1 ∷ 0 ∷ [];
  last = 5;
  path = nine_path;
  front = [];
  placed = does 8 36 (Read (part 1 (Deref ∷ [])));
  rest = does 8 31 (Write (object 3)) ∷ [];
  split = refl;
  fact = Moved (object 1);
  holds = inl refl;
  found = record { rule = O1; name = part 1 (Deref ∷ []); word = state.Moved };
  forbidden = refl;
  reported = refl;
}

-- ---- rules on the text

abbrev pub views_main : FlowSub
views_main = flow_sub_at (flow views) 1

abbrev pub point_in : FlowSub → ℕ → FlowPoint
point_in sub n = get_or sub.points n (record { pos = at 1 1; acts = []; leaks = []; instr = Skip; next = [] })

-- L is 1, M is 2; the observer C is 3, the borrower B is 4. C.Value is written.
constant_view : ViewReport (flow views) no_effects views_main (text_report (at 17 1) V1 (part 3 (Deref ∷ Field 0 ∷ [])))
unfolding laying
constant_view =
    changed (point_in views_main 3) (does 17 1 (Write (part 3 (Deref ∷ Field 0 ∷ [])))) (part 3 (Deref ∷ Field 0 ∷ []))
    (inr (inr (inr (inl refl))), inl refl) refl (of_observer refl)

-- The scope of B doesn't enclose that of C.
short_lived : ViewReport (flow views) no_effects views_main (text_report (at 18 42) V2 (part 4 (Deref ∷ Field 1 ∷ [])))
unfolding laying encloses_within
short_lived =
    shorter (point_in views_main 5) (at 18 42) 3 (part 4 (Deref ∷ Field 1 ∷ [])) false
    (inr (inr (inr (inr (inr (inl refl))))), inl refl) refl refl

-- G is 1 and has itself as its only root, and the traversed formal L is 2.
not_the_formal : (f : ℕ) → Some 2 ≡ Some f → 1 ≡ f → ⊥
not_the_formal f is other = grind arith

from_elsewhere : ViewReport (flow other_root) no_effects (flow_sub_at (flow other_root) 1) (text_report (at 9 8) V3 (object 1))
unfolding laying
from_elsewhere =
    elsewhere (point_in (flow_sub_at (flow other_root) 1) 0) (at 9 8) (object 1) false
    (inl refl, inl refl) (λ f is only. not_the_formal f is (only.1 1 (itself 1 refl)))
