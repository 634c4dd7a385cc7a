-- The leak plan of a program: a line for each leak check, in order (docs/FLOW.md, "Leak checks").
use Rattle.std.specs.Prelude.{◌≡◌, ℕ, suc, List, [], ◌∷◌, ◌++◌, map, flat_map, ◌↔◌, IsTrue}
use Rattle.std.specs.declared.cmp.Ordering.{Ordering}
use Rattle.std.specs.Ordering.{ordering_then, bool_cmp}
use Rattle.std.specs.List.Sorted.{IsPermutation, IsSorted}
use Rattle.place_names.specs.Names.{Name}
use Rattle.flow_paths.specs.declared.report.Effects.{Effects}
use Rattle.flow_paths.specs.declared.report.LeakLine.{LeakLine}
use Rattle.flow_paths.specs.declared.point.LeakSpot.{LeakSpot}
use Rattle.flow_paths.specs.Points.{FlowPoint}
use Rattle.flow_paths.specs.Laid.{FlowSub, FlowProgram}
use Rattle.flow_paths.specs.Effects.{path_points}
use Rattle.flow_paths.specs.Printing.{printed_name}
use Rattle.flow_paths.specs.LeakPlan.{IsExcused, leak_cmp}

-- A leak check of a program: its subprogram, the number of its point there, and what it looks at.
pub record Check : Type 0 where
  pub sub : FlowSub
  pub point : ℕ
  pub spot : LeakSpot

abbrev pub checks_at : FlowSub → ℕ → List LeakSpot → List Check
checks_at sub n spots = map (λ spot. record { sub = sub; point = n; spot = spot }) spots

-- Those of some points of a subprogram, of which the first has number n.
abbrev pub checks_from : FlowSub → ℕ → List FlowPoint → List Check
checks_from sub n [] = []
checks_from sub n (p ∷ points) = checks_at sub n p.leaks ++ checks_from sub (suc n) points

-- Those of some subprograms, in the order of the text.
abbrev pub checks_of : List FlowSub → List Check
checks_of subs = flat_map (λ (sub : FlowSub). checks_from sub 0 sub.points) subs

-- A line tells of a leak check where it stands, what it looks at, and whether it is excused.
pub record Tells (program : FlowProgram) (effects : Effects) (check : Check) (line : LeakLine) : Type 0 where
  pub pos : line.pos ≡ check.spot.pos
  pub name : line.name ≡ check.spot.name
  pub excused : IsTrue line.excused ↔ IsExcused (path_points program effects check.sub) check.point check.spot

-- A line for each of some leak checks, in their order.
abbrev pub TellAll : FlowProgram → Effects → List Check → List LeakLine → Type 0
TellAll program effects [] [] = Unit {0}
TellAll program effects [] (line ∷ lines) = ⊥
TellAll program effects (check ∷ checks) [] = ⊥
TellAll program effects (check ∷ checks) (line ∷ lines) = Tells program effects check line × TellAll program effects checks lines

-- By position and printed name. Where both are equal and the roots differ, the root that is
-- declared later stands first. Selectors and then the word only make the order one of all lines.
abbrev pub line_cmp : (Name → List ℕ) → LeakLine → LeakLine → Ordering
line_cmp printed a b = ordering_then (leak_cmp printed a b) (bool_cmp a.excused b.excused)

-- The same lines, in order.
pub record AreSorted (printed : Name → List ℕ) (lines sorted : List LeakLine) : Type 0 where
  pub same : IsPermutation lines sorted
  pub ordered : IsSorted (line_cmp printed) sorted

-- A line for each leak check of a program, in order.
pub record LeakPlan (program : FlowProgram) (effects : Effects) (lines : List LeakLine) : Type 0 where
  pub told : List LeakLine
  pub all : TellAll program effects (checks_of program.subs) told
  pub sorted : AreSorted (printed_name program.table program.objects) told lines
