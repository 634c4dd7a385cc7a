use Rattle.std.proofs.Common.{◌≡◌, suc, [], ◌∷◌, length}
use Rattle.token_reading.specs.Reading.{at, many, of_word}
use Rattle.token_reading.proofs.Loop.{with_front}
use Rattle.ada_grammar.specs.Expressions.{next_operand_in, expr}
use Rattle.expression_parser.proofs.parser.ExpressionParser.next_operands.Given as goal

abbrev pub invariant-turns : goal.invariant-turns
invariant-turns g l =
    with_front l.all (at (many (of_word l.word ∷ []) (next_operand_in l.self.depth (expr (suc l.self.depth)) l.word)) l.tokens)
    ≡ at (many (of_word l.word ∷ []) (next_operand_in l.self.depth (expr (suc l.self.depth)) l.word)) l.initial.tokens

abbrev pub decreases-turns : goal.decreases-turns
decreases-turns g l = length l.tokens.tokens
