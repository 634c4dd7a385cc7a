use Rattle.std.proofs.Common.{◌≡◌, suc, [], ◌∷◌, length}
use Rattle.ada_lexer.specs.declared.token.Reserved.TheVariants as w
use Rattle.token_reading.specs.Reading.{at, many, of_word}
use Rattle.token_reading.proofs.Loop.{with_front}
use Rattle.ada_grammar.specs.Statements.{when_in, inner_stmts}
use Rattle.statement_parser.proofs.parser.StatementParser.next_whens.Given as goal

abbrev pub invariant-turns : goal.invariant-turns
invariant-turns g l = let d = l.self.depth in
    with_front l.all (at (many (of_word w.KwWhen ∷ []) (when_in (suc d) (inner_stmts d))) l.tokens) ≡ at (many (of_word w.KwWhen ∷ []) (when_in (suc d) (inner_stmts d))) l.initial.tokens

abbrev pub decreases-turns : goal.decreases-turns
decreases-turns g l = length l.tokens.tokens
