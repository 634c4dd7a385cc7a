use Rattle.ada_grammar.proofs.StatementLoops.{stmts_are}
use Rattle.statement_parser.proofs.statement.+stmts.Goals as goal

pub returns : goal.returns
returns t c = rw (stmts_are c.args.depth) c.stmts.ensures
