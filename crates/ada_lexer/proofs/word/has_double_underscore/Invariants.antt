use Rattle.std.proofs.Common.{◌≡◌, length}
use Rattle.ada_lexer.specs.Identifiers.{has_double_underscore}
use Rattle.ada_lexer.proofs.word.has_double_underscore.Given as goal

abbrev pub invariant-bytes : goal.invariant-bytes
invariant-bytes l = has_double_underscore l.word ≡ has_double_underscore l.initial.word

abbrev pub decreases-bytes : goal.decreases-bytes
decreases-bytes l = length l.word
