-- The plan of a program that moves what it then overwrites.
use Rattle.std.proofs.Common.{◌≡◌, refl, sym, ap, subst, inl, inr, ℕ, zero, suc, Bool, true, false, List, [], ◌∷◌, take, arith}
use Rattle.std.specs.List.Sorted.{IsSorted}
use Rattle.spark_base.specs.Lists.{Has}
use Rattle.place_names.specs.declared.fact.Fact.TheVariants.{Moved}
use Rattle.place_names.specs.Names.{object}
use Rattle.place_names.specs.Facts.{place}
use Rattle.flow_paths.specs.declared.report.LeakLine.{LeakLine}
use Rattle.flow_paths.specs.Paths.{PathPoint, path_point, ControlPath, begins, goes_on, facts_within}
use Rattle.flow_paths.specs.Effects.{path_points, flow_sub_at}
use Rattle.flow_paths.specs.Printing.{printed_name}
use Rattle.flow_paths.specs.LeakPlan.{IsExcused}
use Rattle.flow_tests.proofs.ResolvedTrees.{at}
use Rattle.flow_tests.proofs.Sources.{excused}
use Rattle.flow_tests.proofs.Flow.{flow, laying, spot}
use Rattle.flow_tests.proofs.Reported.{no_effects}
use Rattle.leak_checks.specs.Plan.{checks_of, TellAll, line_cmp, LeakPlan}
use Rattle.leak_tests.proofs.Straight.{down, straight}

-- X is 1, Y is 2. Points 0 and 1 declare them, 2 is `Y := X;`, 3 is `X := null;`, and 4 and 5 end
-- the scopes of Y and X.
abbrev points : List PathPoint
points = path_points (flow excused) no_effects (flow_sub_at (flow excused) 1)

abbrev line : ℕ → ℕ → ℕ → Bool → LeakLine
line row column x is = record { pos = at row column; name = object x; excused = is }

to_2 : ControlPath points (down 2) 2
unfolding laying
to_2 = goes_on (0 ∷ []) 1 2 (goes_on [] 0 1 (begins tt) (inl refl)) (inl refl)

to_3 : ControlPath points (down 3) 3
unfolding laying
to_3 = goes_on (down 2) 2 3 to_2 (inl refl)

to_4 : ControlPath points (down 4) 4
unfolding laying
to_4 = goes_on (down 3) 3 4 to_3 (inl refl)

to_5 : ControlPath points (down 5) 5
unfolding laying
to_5 = goes_on (down 4) 4 5 to_4 (inl refl)

another : Moved (object 1) ≡ Moved (object 2) → ⊥
another e = (let roots : 1 ≡ 2 = ap (λ f. (place f).root) e in absurd (omega (arith, roots)))

-- At `Y := X;` X is moved, and Y isn't.
y_kept : IsExcused points 2 (spot 16 1 (object 2) 1) → ⊥
unfolding laying
y_kept x = elim (x.moved (down 2) to_2) [ inl e ↦ another e | inr none ↦ none ]

-- At `X := null;` X is moved on the one path.
x_excused : IsExcused points 3 (spot 16 9 (object 1) 0)
unfolding laying
x_excused = record {
  definite = refl;
  reached = record { before = down 3; path = to_3 };
  moved = λ before path. subst (λ l. Has (facts_within points l (take 0 (path_point points 3).acts)) (Moved (object 1)))
      (sym (straight points before 3 refl path)) (inl refl);
}

-- At the end neither is.
y_ends : IsExcused points 4 (spot 17 1 (object 2) 0) → ⊥
unfolding laying
y_ends x = x.moved (down 4) to_4

x_ends : IsExcused points 5 (spot 17 1 (object 1) 0) → ⊥
unfolding laying
x_ends x = x.moved (down 5) to_5

abbrev told : List LeakLine
told = line 16 1 2 false ∷ line 16 9 1 true ∷ line 17 1 2 false ∷ line 17 1 1 false ∷ []

abbrev plan : List LeakLine
plan = line 16 1 2 false ∷ line 16 9 1 true ∷ line 17 1 1 false ∷ line 17 1 2 false ∷ []

all_told : TellAll (flow excused) no_effects (checks_of (flow excused).subs) told
unfolding laying
all_told = (
  record { pos = refl; name = refl; excused = (λ e. cc, λ x. absurd (y_kept x)) },
  (
    record { pos = refl; name = refl; excused = (λ e. x_excused, λ x. refl) },
    (
      record { pos = refl; name = refl; excused = (λ e. cc, λ x. absurd (y_ends x)) },
      (record { pos = refl; name = refl; excused = (λ e. cc, λ x. absurd (x_ends x)) }, tt),
    ),
  ),
)

-- Of the two that stand at one position, X comes before Y.
in_order : IsSorted (line_cmp (printed_name (flow excused).table (flow excused).objects)) plan
unfolding laying
in_order zero d low high = refl
in_order (suc zero) d low high = refl
in_order (suc (suc zero)) d low high = refl
in_order (suc (suc (suc k))) d low high = absurd (omega arith)

plan_of_excused : LeakPlan (flow excused) no_effects plan
plan_of_excused = record {
  told = told;
  all = all_told;
  sorted = record {
    same = record { moves = (2, 3) ∷ []; below = (omega arith, omega arith, tt); is = refl };
    ordered = in_order;
  };
}
