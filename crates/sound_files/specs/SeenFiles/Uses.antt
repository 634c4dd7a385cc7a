-- What the names in an expression denote.
use Rattle.std.specs.Prelude.{ℕ, List, [], ◌∷◌, unwrap_or}
use Rattle.name_events.specs.declared.event.FoldedIdentifier.{FoldedIdentifier}
use Rattle.name_events.specs.declared.event.FoldedName.{FoldedName}
use Rattle.name_events.specs.declared.event.Event.{Event}
use Rattle.name_events.specs.declared.event.Event.TheVariants as e
use Rattle.name_events.specs.Identified.{number_at}
use Rattle.machine.specs.resolved_tree.Trees.{Tree, Named, Parens, Unary, Binary, Aggregate, Others, New, Applied, Argument, More}
use Rattle.expression_lowering.specs.LoweredExpressions.{Numbers, before_others, last_of}

-- Each declaration that a name in the expression denotes is as asked.
unfoldable pub Uses : (ℕ → Type 0) → Tree → Type 0
Uses asked (Named p d rest) = asked d × Uses asked rest
Uses asked (Parens p e) = Uses asked e
Uses asked (Unary p op e) = Uses asked e
Uses asked (Binary p op a b) = Uses asked a × Uses asked b
Uses asked (Aggregate p args) = Uses asked args
Uses asked (Others p e) = Uses asked e
Uses asked (New p m v) = Uses asked v
Uses asked (Applied args) = Uses asked args
Uses asked (Argument w e rest) = Uses asked e × Uses asked rest
Uses asked (More a rest) = Uses asked a × Uses asked rest
Uses asked _ = Unit {0}

-- ---- in the text

-- The declarations of the identifiers after the first one of a name, up to one that has none.
abbrev pub numbers_along : Numbers → List FoldedIdentifier → List ℕ
numbers_along numbers [] = []
numbers_along numbers (id ∷ rest) = before_others (number_at numbers id.pos) (numbers_along numbers rest)

-- The declaration that a name denotes by the positions of its identifiers.
abbrev pub name_number : Numbers → FoldedName → ℕ
name_number numbers name = last_of (unwrap_or (number_at numbers name.first.pos) 0) (numbers_along numbers name.rest)

-- Each declaration that these events mention is as asked.
unfoldable pub AreAllowed : Numbers → (ℕ → Type 0) → List Event → Type 0
AreAllowed numbers asked [] = Unit {0}
AreAllowed numbers asked (e.Mentions c name ∷ rest) = asked (name_number numbers name) × AreAllowed numbers asked rest
AreAllowed numbers asked (event ∷ rest) = AreAllowed numbers asked rest
