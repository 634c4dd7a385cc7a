use Rattle.std.proofs.Common.{◌≡◌, drop}
use Rattle.type_definitions.specs.Expressions.{by_name, no_formal}
use Rattle.expression_types.proofs.arguments.formal_for.Given as goal

abbrev pub invariant-formals : goal.invariant-formals
invariant-formals l =
    by_name (λ f. f.name) no_formal l.word (drop l.formal-index l.formals) ≡ by_name (λ f. f.name) no_formal l.word l.formals
