-- Labels carried along the edges of a graph, whose nodes are numbers.
use Rattle.std.specs.Prelude.{◌≡◌, ℕ, Bool, true, List, [], ◌∷◌}
use Rattle.spark_base.specs.Lists.{Has}

-- A graph whose nodes change the labels that leave them.
pub record Flow (Label : Type 0) : Type 0 where
  -- the successors of a node
  pub next : ℕ → List ℕ
  -- what a node makes of a label
  pub move : ℕ → Label → Label
  -- the labels that are at a node from the start
  pub first : ℕ → Label → Bool

-- A label is at a node from the start, or some edge carries it there.
pub data Reaches {Label : Type 0} (flow : Flow Label) : ℕ → Label → Type 0 where
  starts : (a : ℕ) (k : Label) → flow.first a k ≡ true → Reaches flow a k
  moves : (a b : ℕ) (k : Label) → Reaches flow a k → Has (flow.next a) b → Reaches flow b (flow.move a k)

-- A path from a node: the nodes before the last one, the latest first, and the last one. Each
-- further node is a successor of the one before.
pub data IsPath (next : ℕ → List ℕ) (from : ℕ) : List ℕ → ℕ → Type 0 where
  begins : IsPath next from [] from
  goes_on : (before : List ℕ) (a b : ℕ) → IsPath next from before a → Has (next a) b → IsPath next from (a ∷ before) b

-- What some nodes, the latest first, make of a label.
abbrev pub moved_along : {Label : Type 0} → Flow Label → List ℕ → Label → Label
moved_along flow [] k = k
moved_along flow (a ∷ before) k = flow.move a (moved_along flow before k)

-- Some path brings a label to a node: one that is at its first node from the start becomes it.
pub record Brings {Label : Type 0} (flow : Flow Label) (a : ℕ) (k : Label) : Type 0 where
  pub from : ℕ
  pub before : List ℕ
  pub path : IsPath flow.next from before a
  pub label : Label
  pub first : flow.first from label ≡ true
  pub becomes : moved_along flow before label ≡ k
