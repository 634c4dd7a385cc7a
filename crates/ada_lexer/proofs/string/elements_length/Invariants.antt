use Rattle.std.proofs.Common.{◌≡◌, ◌+◌, length, false}
use Rattle.ada_lexer.specs.Strings.{elements_length}
use Rattle.ada_lexer.proofs.string.elements_length.Given as goal

abbrev pub invariant-elements : goal.invariant-elements
invariant-elements l =
    (l.passed + elements_length l.is_second l.text ≡ elements_length false l.initial.text)
    × (l.passed + length l.text ≡ length l.initial.text)

abbrev pub decreases-elements : goal.decreases-elements
decreases-elements l = length l.text
