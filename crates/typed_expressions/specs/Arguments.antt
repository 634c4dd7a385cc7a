-- Arguments by name, as numbers of their values.
use Rattle.std.specs.Prelude.{ℕ, List, ◌∷◌, Option, Some, None, get_or, if◌then◌else◌}
use Rattle.type_definitions.specs.Expressions.{Given}
use Rattle.expression_types.specs.declared.word_index.Occurrence.{Occurrence}
use Rattle.typed_tree.specs.Expressions.{has_name}

-- The number of the value of the argument with a name, or another number.
abbrev pub named_number : ℕ → List ℕ → List Given → List ℕ → ℕ
named_number other w (g ∷ given) (k ∷ numbers) = if has_name w g then k else named_number other w given numbers
named_number other w _ _ = other

-- The number of the value of the argument where a word occurs first, or another number.
abbrev pub number_at : ℕ → List ℕ → Option Occurrence → ℕ
number_at other numbers None = other
number_at other numbers (Some o) = get_or numbers o.first other
