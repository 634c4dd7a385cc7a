use Rattle.ada_grammar.proofs.StatementParts.{opened}
use Rattle.statement_parser.proofs.simple_statement.opens.Goals as goal

pub returns-clause-room : goal.returns-clause-room
returns-clause-room c =
    opened c.args.word c.args.depth c.args.tokens.now.operators c.args.tokens.now.tokens _ _ _ c.in_ok-pos.ensures
