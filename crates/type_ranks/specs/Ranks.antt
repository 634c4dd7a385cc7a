-- Ranks of types: each has a higher rank than what it is made of.
use Rattle.std.specs.Prelude.{◌<◌, ℕ, List, [], ◌∷◌, ◌++◌, map, get_or, Option, Some, None}
use Rattle.spark_base.specs.Lists.{Has}
use Rattle.type_definitions.specs.declared.table.Component.{Component}
use Rattle.type_definitions.specs.declared.table.Info.{Info}
use Rattle.type_definitions.specs.declared.table.Shape.{Shape}
use Rattle.type_definitions.specs.declared.table.Shape.TheVariants as shape
use Rattle.type_definitions.specs.Types.{Table, info}

-- ---- what a type is made of

abbrev pub component_parts : List Component → List ℕ
component_parts components = map (λ (c : Component). c.of) components

abbrev pub shape_parts : Shape → List ℕ
shape_parts (shape.Fields components) = component_parts components
shape_parts (shape.Elements low high element) = element ∷ []
shape_parts (shape.Same of) = of ∷ []
shape_parts _ = []

-- the type in a mark
abbrev pub parent_parts : Option ℕ → List ℕ
parent_parts None = []
parent_parts (Some t) = t ∷ []

abbrev pub parts : Info → List ℕ
parts i = shape_parts i.shape ++ parent_parts i.parent

-- ---- ranks

abbrev pub rank : List ℕ → ℕ → ℕ
rank ranks t = get_or ranks t 0

-- Each type has a higher one than what it is made of.
abbrev pub AreRanks : Table → (ℕ → ℕ) → Type 0
AreRanks table rank = (t part : ℕ) → Has (parts (info table t)) part → rank part < rank t
