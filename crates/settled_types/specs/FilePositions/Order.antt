-- Positions in the order of the tokens of a text.
use Rattle.std.specs.Prelude.{◌≡◌, ◌⊎◌, List, [], ◌∷◌, map}
use Rattle.std.specs.List.{flat_map}
use Rattle.machine.specs.spark_base.declared.position.Pos.{Pos}
use Rattle.machine.specs.spark_base.Positions.{Precedes}
use Rattle.machine.specs.spark_base.Lists.{Has}
use Rattle.token_reading.specs.Spelled.{Spelled, Word, Ident, Number, Str, Delimiter, EndOfFile}
use Rattle.token_reading.specs.Weights.{WeighedToken}
use Rattle.name_events.specs.declared.event.FoldedName.{FoldedName}
use Rattle.name_events.specs.declared.event.Event.{Event}
use Rattle.name_events.specs.declared.event.Event.TheVariants as e

-- Each stands before those after it.
abbrev pub Ascends : List Pos → Type 0
Ascends [] = Unit {0}
Ascends (p ∷ rest) = ((q : Pos) → Has rest q → Precedes p q) × Ascends rest

-- The first list is what is left of the second one when some are left out.
abbrev pub IsLeftOf : List Pos → List Pos → Type 0
IsLeftOf [] qs = Unit {0}
IsLeftOf (p ∷ ps) [] = ⊥
IsLeftOf (p ∷ ps) (q ∷ qs) = ((q ≡ p) × IsLeftOf ps qs) ⊎ IsLeftOf (p ∷ ps) qs

-- ---- of tokens

-- The end of the file keeps no position.
abbrev pub token_position : Spelled → List Pos
token_position (Word word pos) = pos ∷ []
token_position (Ident pos text) = pos ∷ []
token_position (Number number pos) = pos ∷ []
token_position (Str pos text) = pos ∷ []
token_position (Delimiter symbol pos) = pos ∷ []
token_position EndOfFile = []

abbrev pub token_positions : List Spelled → List Pos
token_positions ts = flat_map token_position ts

abbrev pub spelled_positions : List WeighedToken → List Pos
spelled_positions ms = flat_map (λ m. token_position m.token) ms

-- ---- of events

abbrev pub name_positions : FoldedName → List Pos
name_positions name = name.first.pos ∷ map (λ id. id.pos) name.rest

-- Those of the identifiers that may use, make or complete a declaration.
abbrev pub event_position : Event → List Pos
event_position (e.Mentions c name) = name_positions name
event_position (e.Declares form id) = id.pos ∷ []
event_position (e.PackageBodyOpens id) = id.pos ∷ []
event_position _ = []

abbrev pub event_positions : List Event → List Pos
event_positions events = flat_map event_position events

-- The positions of these events are those of tokens of the spelling, in its order.
pub record Follows (events : List Event) (spelling : List WeighedToken) : Type 0 where
  pub in_order : IsLeftOf (event_positions events) (spelled_positions spelling)
