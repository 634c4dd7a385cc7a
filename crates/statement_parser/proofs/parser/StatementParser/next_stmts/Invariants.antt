use Rattle.std.proofs.Common.{◌≡◌, length}
use Rattle.token_reading.specs.Reading.{at, many}
use Rattle.token_reading.proofs.Loop.{with_front}
use Rattle.ada_grammar.specs.Statements.{stmt_in, inner_stmts, stmt_first}
use Rattle.statement_parser.proofs.parser.StatementParser.next_stmts.Given as goal

abbrev pub invariant-turns : goal.invariant-turns
invariant-turns g l = let d = l.self.depth in
    with_front l.all (at (many (stmt_first) (stmt_in d (inner_stmts d))) l.tokens) ≡ at (many (stmt_first) (stmt_in d (inner_stmts d))) l.initial.tokens

abbrev pub decreases-turns : goal.decreases-turns
decreases-turns g l = length l.tokens.tokens
