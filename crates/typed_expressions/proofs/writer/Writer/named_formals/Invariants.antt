use Rattle.std.proofs.Common.{◌≡◌, ◌++◌, drop, map}
use Rattle.expression_types.specs.Occurrences.{occurs}
use Rattle.typed_expressions.specs.Arguments.{number_at}
use Rattle.typed_expressions.proofs.writer.Writer.named_formals.Given as goal

abbrev pub invariant-formals : goal.invariant-formals
invariant-formals l =
    l.made.items ++ map (λ w. number_at l.other l.numbers (occurs l.index w)) (map (λ k. k.name) (drop l.formal-index l.formals))
    ≡ map (λ w. number_at l.other l.numbers (occurs l.index w)) (map (λ k. k.name) l.formals)
