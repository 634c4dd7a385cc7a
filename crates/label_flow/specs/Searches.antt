-- What a worklist over the nodes of a graph keeps: between two iterations, within an iteration, and
-- in one carry. `labels a k` says that the label k was found at node a.
use Rattle.std.specs.Prelude.{◌≡◌, ◌⊎◌, ℕ, true, List}
use Rattle.spark_base.specs.Lists.{Has}
use Rattle.label_flow.specs.Flows.{Flow, Reaches}

-- Between two iterations. What was found reaches its node, and a node that isn't in the work has
-- carried all its labels along all its edges.
pub record Searched {Label : Type 0} (flow : Flow Label) (labels : ℕ → Label → Type 0) (work : List ℕ) : Type 0 where
  pub sound : (a : ℕ) (k : Label) → labels a k → Reaches flow a k
  pub start : (a : ℕ) (k : Label) → flow.first a k ≡ true → labels a k
  pub closed : (a b : ℕ) (k : Label) → labels a k → Has (flow.next a) b → Has work a ⊎ labels b (flow.move a k)

-- Within the iteration for node p, which had the labels `now` when it was taken from the work.
-- `rest` are the successors that are still to come.
pub record Turning {Label : Type 0} (flow : Flow Label) (p : ℕ) (now : Label → Type 0) (rest : List ℕ)
    (labels : ℕ → Label → Type 0) (work : List ℕ) : Type 0 where
  pub sound : (a : ℕ) (k : Label) → labels a k → Reaches flow a k
  pub start : (a : ℕ) (k : Label) → flow.first a k ≡ true → labels a k
  pub taken : (k : Label) → now k → Reaches flow p k
  -- a label that came to p since then, along an edge from p to itself, has put p into the work
  pub known : (k : Label) → labels p k → now k ⊎ Has work p
  pub edges : (b : ℕ) → Has rest b → Has (flow.next p) b
  pub closed : (a b : ℕ) (k : Label) → labels a k → Has (flow.next a) b
      → Has work a ⊎ (((a ≡ p) × Has rest b) ⊎ labels b (flow.move a k))

-- One carry of the labels `now` along an edge from p to q.
pub record Carried {Label : Type 0} (flow : Flow Label) (p q : ℕ) (now : Label → Type 0)
    (old new : ℕ → Label → Type 0) (work work' : List ℕ) : Type 0 where
  pub keeps : (a : ℕ) (k : Label) → old a k → new a k
  pub comes : (k : Label) → now k → new q (flow.move p k)
  pub only : (a : ℕ) (k : Label) → new a k → old a k ⊎ ((a ≡ q) × ((k0 : Label) × now k0 × (flow.move p k0 ≡ k)))
  pub works : (a : ℕ) → Has work a → Has work' a
  -- a node with a new label is in the work
  pub pushed : (a : ℕ) (k : Label) → new a k → old a k ⊎ Has work' a
