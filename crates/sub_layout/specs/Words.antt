-- The words of the objects that code declares (docs/FLOW.md, "Points").
use Rattle.std.specs.Prelude.{◌≡◌, ◌<◌, ℕ, List, map, sum, get_or}
use Rattle.typed_tree.specs.Trees.{TypedCode}
use Rattle.typed_tree.specs.Nodes.{TypedNodes, typed_code_at}
use Rattle.flow_paths.specs.Objects.{Typing}
use Rattle.flow_paths.specs.Laid.{declared_within, object_words}

abbrev pub words_within : Typing → TypedCode → ℕ
words_within s c = sum (map (object_words s) (declared_within c))

-- The first n nodes of code have these.
abbrev pub AreWords : Typing → TypedNodes → ℕ → List ℕ → Type 0
AreWords s rows n words = (i : ℕ) → i < n → get_or words i 0 ≡ words_within s (typed_code_at rows i)
