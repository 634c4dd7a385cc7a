-- How many carries are still to come at most.
use Rattle.std.specs.Prelude.{◌≡◌, ℕ, ◌+◌, ◌*◌, ◌≤◌, List, [], ◌∷◌, map, length, get_or, Option, Some, None}
use Rattle.flow_paths.specs.Paths.{PathPoint}
use Rattle.state_trees.specs.FactStates.{FactState, missing}

-- How often a tree can still change: each time it gets a mark that it lacks, and where there is
-- none yet, so often in all.
abbrev pub room : ℕ → Option FactState → ℕ
room full None = full
room full (Some s) = missing s

-- With n facts a tree has 2n marks, and comes once before; one more is never used.
abbrev pub most : ℕ → ℕ
most n = 2 * n + 2

-- What each point costs in one iteration: its successors.
abbrev pub costs_of : List PathPoint → List ℕ
costs_of points = map (λ (p : PathPoint). length p.next) points

-- What one iteration for each point costs, all together.
abbrev pub total : List ℕ → ℕ
total [] = 0
total (n ∷ costs) = n + total costs

-- What the points can still cost: each its cost for each change of its tree.
abbrev pub debt : ℕ → List ℕ → List (Option FactState) → ℕ
debt full [] trees = 0
debt full (n ∷ costs) [] = 0
debt full (n ∷ costs) (t ∷ trees) = n * room full t + debt full costs trees

-- What the points in the work cost.
abbrev pub owed : List ℕ → List ℕ → ℕ
owed costs [] = 0
owed costs (a ∷ work) = get_or costs a 0 + owed costs work

-- Whatever each of the points costs, both together never rise.
abbrev pub Pays : ℕ → ℕ → List (Option FactState) → List ℕ → List (Option FactState) → List ℕ → Type 0
Pays full count old work new work' =
    (costs : List ℕ) → length costs ≡ count → debt full costs new + owed costs work' ≤ debt full costs old + owed costs work
