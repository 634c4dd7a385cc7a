use Rattle.std.proofs.Common.{◌≡◌, drop, map}
use Rattle.expression_types.specs.Occurrences.{each_single}
use Rattle.expression_types.proofs.arguments.each_formal.Given as goal

abbrev pub invariant-formals : goal.invariant-formals
invariant-formals l =
    each_single l.index (map (λ k. k.name) (drop l.formal-index l.formals)) ≡ each_single l.index (map (λ k. k.name) l.formals)
