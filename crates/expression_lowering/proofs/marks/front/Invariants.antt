use Rattle.std.proofs.Common.{◌≡◌, ◌+◌, length, drop}
use Rattle.expression_lowering.specs.LoweredExpressions.{last_of, leading_numbers}
use Rattle.expression_lowering.proofs.marks.front.Given as goal

abbrev pub invariant-suffixes : goal.invariant-suffixes
invariant-suffixes l =
    (l.used ≡ l.suffix-index)
    × (l.used + length (leading_numbers l.numbers (drop l.suffix-index l.rest)) ≡ length (leading_numbers l.numbers l.rest))
    × (last_of l.decl (leading_numbers l.numbers (drop l.suffix-index l.rest)) ≡ last_of l.first (leading_numbers l.numbers l.rest))
