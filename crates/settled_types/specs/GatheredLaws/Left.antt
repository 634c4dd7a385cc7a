-- What typed expressions ask of the table of types, as far as it isn't proved of gathered programs.
use Rattle.std.specs.Prelude.{◌≡◌, ◌<◌, ℕ, true, List, length, get_or}
use Rattle.machine.specs.type_definitions.declared.table.Component.{Component}
use Rattle.machine.specs.type_definitions.declared.table.Known.{Known}
use Rattle.machine.specs.type_definitions.Types.{fields}
use Rattle.machine.specs.type_definitions.Entries.{same_word}
use Rattle.machine.specs.type_definitions.Expressions.{by_name, no_component}

-- No two components of a record have one name, in any case of letters.
pub record Left (known : Known) : Type 0 where
  pub names : (t k : ℕ) (v : List ℕ) → k < length (fields known.table t) → same_word (get_or (fields known.table t) k no_component).name v ≡ true
      → by_name (λ (c : Component). c.name) no_component v (fields known.table t) ≡ get_or (fields known.table t) k no_component
