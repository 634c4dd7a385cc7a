-- Acts that no fact before them forbids.
use Rattle.std.specs.Prelude.{◌≡◌, ℕ, List, ◌∷◌, ◌++◌, None}
use Rattle.machine.specs.spark_base.Lists.{Has}
use Rattle.machine.specs.place_names.declared.act.Act.{Act}
use Rattle.machine.specs.place_names.declared.act.Placed.{Placed}
use Rattle.machine.specs.place_names.declared.fact.Fact.{Fact}
use Rattle.machine.specs.place_names.Facts.{facts_after}
use Rattle.machine.specs.place_names.Rules.{forbids}
use Rattle.machine.specs.flow_paths.Paths.{PathPoint, path_point, ControlPath, facts_within}

-- Each act of a list is allowed by each fact that the acts before it leave.
abbrev pub AreAllowed : List Act → Type 0
AreAllowed acts =
    (front : List Act) (a : Act) (rest : List Act) → acts ≡ front ++ a ∷ rest
    → (fact : Fact) → Has (facts_after front) fact → forbids a fact ≡ None

-- On each control path, each act is allowed by each fact before it.
abbrev pub ArePathsAllowed : List PathPoint → Type 0
ArePathsAllowed points =
    (before : List ℕ) (last : ℕ) → ControlPath points before last
    → (front : List Placed) (placed : Placed) (rest : List Placed)
    → (path_point points last).acts ≡ front ++ placed ∷ rest
    → (fact : Fact) → Has (facts_within points before front) fact → forbids placed.act fact ≡ None
