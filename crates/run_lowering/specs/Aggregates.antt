-- The parts of an aggregate, of which the first ones are there.
use Rattle.std.specs.Prelude.{◌≡◌, ◌+◌, ◌<◌, ℕ, List, [], ◌∷◌, length, Option, Some}
use Rattle.typed_tree.specs.Trees.{TypedTree}
use Rattle.flow_paths.specs.Names.{waiting}
use Rattle.machine.specs.Typed.{tree_count}
use Rattle.run_codes.specs.Codes.{Fill}
use Rattle.run_codes.specs.Lowered.{Site, both, parts}
use Rattle.code_rows.specs.declared.node.Node.{Node}
use Rattle.code_rows.specs.declared.fill.Fill.{Fill as Row}
use Rattle.code_rows.specs.Values.{fill_at}

abbrev pub AllBelow : ℕ → List ℕ → Type 0
AllBelow n [] = Unit {0}
AllBelow n (v ∷ rest) = (v < n) × AllBelow n rest

-- Values with these numbers, and then others.
abbrev pub prepended : (ℕ → Fill) → List ℕ → Option Fill → Option Fill
prepended at [] o = o
prepended at (v ∷ rest) o = both (Some (at v)) (prepended at rest o)

-- The values of the parts of an aggregate up to some others, before which so many values are taken.
pub record Gathers (c : Site) (nodes : List Node) (fills : List Row) (k of : ℕ) (list : TypedTree) (values : List ℕ) (j : ℕ) (rest : TypedTree)
    : Type 0 where
  pub is : parts c k of 0 list ≡ prepended (fill_at nodes fills) values (parts c j of (length values) rest)
  pub there : AllBelow (length fills) values
  pub count : tree_count list ≡ length values + tree_count rest
  pub taken : k + waiting list ≡ j + waiting rest
