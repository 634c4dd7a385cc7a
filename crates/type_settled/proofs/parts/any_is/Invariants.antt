use Rattle.std.proofs.Common.{◌≡◌, drop, nat_eq}
use Rattle.type_definitions.specs.Declarations.{any_of}
use Rattle.type_settled.proofs.parts.any_is.Given as goal

abbrev pub invariant-components : goal.invariant-components
invariant-components l =
    any_of (λ u. nat_eq u l.part) (drop l.component-index l.components) ≡ any_of (λ u. nat_eq u l.part) l.components
