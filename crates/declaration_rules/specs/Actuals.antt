-- Which actual of an instance is for a formal.
use Rattle.std.specs.Prelude.{ℕ, ◌+◌, Bool, List, Some, None, nat_eq, if◌then◌else◌}
use Rattle.resolved_tree.specs.Trees.{Tree, Argument}
use Rattle.type_definitions.specs.Entries.{integer, same_word}
use Rattle.type_definitions.specs.Expressions.{Given}
use Rattle.type_definitions.specs.Gathered.{actual_type}

-- The formal with this position and identifier.
abbrev pub is_for : ℕ → List ℕ → ℕ → Given → Bool
is_for position text i None = nat_eq i position
is_for position text i (Some w) = same_word w text

abbrev pub actual_for : ℕ → List ℕ → ℕ → Tree → ℕ
actual_for position text i (Argument w e rest) =
    if is_for position text i w then actual_type e else actual_for position text (i + 1) rest
actual_for position text i _ = integer
