-- What follows a name, one suffix after the other.
use Rattle.std.specs.Prelude.{◌≡◌, ℕ, ◌<◌, List, [], ◌∷◌, map}
use Rattle.std.specs.List.{All as Each}
use Rattle.resolved_tree.specs.Trees.{Tree, More}
use Rattle.resolved_tree.specs.Nodes.{Rows, tree_at}
use Rattle.type_definitions.specs.Names.{Context, step}
use Rattle.type_definitions.specs.Expressions.{next_type}
use Rattle.typed_tree.specs.Trees.{TypedTree, NoMore}
use Rattle.typed_tree.specs.Expressions.{Site, typed_step}
use Rattle.typed_expressions.specs.declared.names.Station.{Station}

-- Each suffix, with the type that it starts from.
unfoldable pub stations : Context → ℕ → Tree → List (Tree × ℕ)
stations c t (More a rest) = (a, t) ∷ stations c (next_type (step c a t)) rest
stations c t _ = []

-- The steps of all of them.
abbrev pub steps_of : Site → List (Tree × ℕ) → TypedTree
steps_of s [] = NoMore
steps_of s (a ∷ rest) = typed_step s a.1 a.0 (steps_of s rest)

abbrev pub station_at : Rows → Station → Tree × ℕ
station_at rows f = (tree_at rows f.suffix, f.of)

-- Suffixes with numbers below n are these.
abbrev pub Stand : Rows → ℕ → List Station → List (Tree × ℕ) → Type 0
Stand rows n found all = Each (λ f. f.suffix < n) found × (map (station_at rows) found ≡ all)
