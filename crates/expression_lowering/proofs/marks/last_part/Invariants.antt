use Rattle.std.proofs.Common.{◌≡◌, Some, drop}
use Rattle.expression_lowering.specs.LoweredExpressions.{last_part}
use Rattle.expression_lowering.proofs.marks.last_part.Given as goal

abbrev pub invariant-parts : goal.invariant-parts
invariant-parts l = last_part l.numbers (Some l.decl) (drop l.part-index l.rest) ≡ last_part l.numbers (Some l.first) l.rest
