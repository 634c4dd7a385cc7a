use Rattle.std.proofs.Common.{◌≡◌, drop}
use Rattle.type_definitions.specs.Expressions.{by_name, no_component}
use Rattle.expression_types.proofs.arguments.component_type.Given as goal

abbrev pub invariant-components : goal.invariant-components
invariant-components l =
    by_name (λ f. f.name) no_component l.word (drop l.component-index l.components) ≡ by_name (λ f. f.name) no_component l.word l.components
