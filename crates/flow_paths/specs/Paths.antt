-- Control paths, and what holds along them (docs/RULES.md, "Facts" and "Reports").
--
-- A path goes from the first point of a subprogram from point to successor. Conditions play no
-- part.
use Rattle.std.specs.Prelude.{◌≡◌, zero, suc, ℕ, List, [], ◌∷◌, ◌++◌, map, Some}
use Rattle.typed_tree.specs.spark_base.Lists.{Has}
use Rattle.typed_tree.specs.place_names.declared.act.Act.{Act}
use Rattle.typed_tree.specs.place_names.declared.act.Placed.{Placed}
use Rattle.typed_tree.specs.place_names.declared.fact.Fact.{Fact}
use Rattle.typed_tree.specs.place_names.Facts.{facts_after}
use Rattle.typed_tree.specs.place_names.Rules.{Forbidden, forbids}
use Rattle.typed_tree.specs.place_names.Reports.{Report, report_at}

-- A point, as far as paths go: its acts, and the numbers of its successors.
pub record PathPoint : Type 0 where
  pub acts : List Placed
  pub next : List ℕ

abbrev pub path_point : List PathPoint → ℕ → PathPoint
path_point [] n = record { acts = []; next = [] }
path_point (p ∷ rest) zero = p
path_point (p ∷ rest) (suc n) = path_point rest n

abbrev pub is_some_point : {A : Type 0} → List A → Type 0
is_some_point [] = ⊥
is_some_point (p ∷ rest) = Unit {0}

-- A control path: the points before the last one, the latest first, and the last one.
pub data ControlPath (points : List PathPoint) : List ℕ → ℕ → Type 0 where
  begins : is_some_point points → ControlPath points [] 0
  goes_on : (before : List ℕ) (a b : ℕ) → ControlPath points before a → Has (path_point points a).next b
      → ControlPath points (a ∷ before) b

abbrev pub acts_at : List PathPoint → ℕ → List Act
acts_at points p = map (λ (placed : Placed). placed.act) (path_point points p).acts

-- The acts of some points, the latest of which stands first.
abbrev pub acts_along : List PathPoint → List ℕ → List Act
acts_along points [] = []
acts_along points (a ∷ before) = acts_along points before ++ acts_at points a

-- The facts before the acts of a point, and before one of its acts, on a path to it.
abbrev pub facts_before : List PathPoint → List ℕ → List Fact
facts_before points before = facts_after (acts_along points before)

abbrev pub facts_within : List PathPoint → List ℕ → List Placed → List Fact
facts_within points before front =
    facts_after (acts_along points before ++ map (λ (placed : Placed). placed.act) front)

-- Some control path ends at a point.
pub record IsReached (points : List PathPoint) (p : ℕ) : Type 0 where
  pub before : List ℕ
  pub path : ControlPath points before p

-- Some control path to a point has a fact before the point's acts; some control path lacks it.
pub record MayHold (points : List PathPoint) (p : ℕ) (f : Fact) : Type 0 where
  pub before : List ℕ
  pub path : ControlPath points before p
  pub holds : Has (facts_before points before) f

pub record MayLack (points : List PathPoint) (p : ℕ) (f : Fact) : Type 0 where
  pub before : List ℕ
  pub path : ControlPath points before p
  pub lacks : Has (facts_before points before) f → ⊥

-- Some control path reaches an act with a fact that forbids it, and a report says so.
pub record PathReport (points : List PathPoint) (report : Report) : Type 0 where
  pub before : List ℕ
  pub last : ℕ
  pub path : ControlPath points before last
  pub front : List Placed
  pub placed : Placed
  pub rest : List Placed
  pub split : (path_point points last).acts ≡ front ++ placed ∷ rest
  pub fact : Fact
  pub holds : Has (facts_within points before front) fact
  pub found : Forbidden
  pub forbidden : forbids placed.act fact ≡ Some found
  pub reported : report ≡ report_at placed.pos found
