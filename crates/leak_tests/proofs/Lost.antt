-- The plan of a program that loses a cell: no check is excused.
use Rattle.std.proofs.Common.{◌≡◌, refl, ap, inl, inr, zero, suc, false, List, [], ◌∷◌, length, arith}
use Rattle.std.specs.List.Sorted.{IsSorted}
use Rattle.place_names.specs.declared.selector.Sel.TheVariants.{Field, Deref}
use Rattle.place_names.specs.declared.fact.Fact.TheVariants.{Moved}
use Rattle.place_names.specs.Names.{object}
use Rattle.place_names.specs.Facts.{place}
use Rattle.flow_paths.specs.declared.report.LeakLine.{LeakLine}
use Rattle.flow_paths.specs.Paths.{PathPoint, ControlPath, begins, goes_on}
use Rattle.flow_paths.specs.Effects.{path_points, flow_sub_at}
use Rattle.flow_paths.specs.Printing.{printed_name}
use Rattle.flow_paths.specs.LeakPlan.{IsExcused}
use Rattle.flow_tests.proofs.ResolvedTrees.{at}
use Rattle.flow_tests.proofs.Flow.{flow, laying, spot, part}
use Rattle.flow_tests.proofs.Reported.{no_effects}
use Rattle.leak_checks.specs.Plan.{checks_of, TellAll, line_cmp, LeakPlan}
use Rattle.leak_tests.proofs.Sources.{lost}
use Rattle.leak_tests.proofs.Straight.{down}

-- X is 1. Point 0 declares it, 1 is `X := X.Next;`, and 2 ends its scope.
abbrev points : List PathPoint
points = path_points (flow lost) no_effects (flow_sub_at (flow lost) 1)

to_1 : ControlPath points (down 1) 1
unfolding laying
to_1 = goes_on [] 0 1 (begins tt) (inl refl)

to_2 : ControlPath points (down 2) 2
unfolding laying
to_2 = goes_on (down 1) 1 2 to_1 (inl refl)

part_only : Moved (part 1 (Deref ∷ Field 1 ∷ [])) ≡ Moved (object 1) → ⊥
part_only e = (let sels : 2 ≡ 0 = ap (λ f. length (place f).sels) e in absurd (omega (arith, sels)))

-- What X designates has moved its component, and X itself is there.
x_kept : IsExcused points 1 (spot 16 1 (object 1) 1) → ⊥
unfolding laying
x_kept x = elim (x.moved (down 1) to_1) [ inl e ↦ part_only e | inr none ↦ none ]

x_ends : IsExcused points 2 (spot 17 1 (object 1) 0) → ⊥
unfolding laying
x_ends x = x.moved (down 2) to_2

abbrev plan : List LeakLine
plan = record { pos = at 16 1; name = object 1; excused = false } ∷ record { pos = at 17 1; name = object 1; excused = false } ∷ []

all_told : TellAll (flow lost) no_effects (checks_of (flow lost).subs) plan
unfolding laying
all_told = (
  record { pos = refl; name = refl; excused = (λ e. cc, λ x. absurd (x_kept x)) },
  (record { pos = refl; name = refl; excused = (λ e. cc, λ x. absurd (x_ends x)) }, tt),
)

in_order : IsSorted (line_cmp (printed_name (flow lost).table (flow lost).objects)) plan
unfolding laying
in_order zero d low high = refl
in_order (suc k) d low high = absurd (omega arith)

plan_of_lost : LeakPlan (flow lost) no_effects plan
plan_of_lost = record { told = plan; all = all_told; sorted = record { same = record { moves = []; below = tt; is = refl }; ordered = in_order } }
