use Rattle.ada_grammar.proofs.StatementLoops.{inner_is}
use Rattle.statement_parser.proofs.parser.StatementParser.inner_stmts.Goals as goal

pub returns : goal.returns
returns g c =
    rw (inner_is c.args.self.now.depth c.requires.room) (c.requires.inner.reads _ _ _ _ (rw c.inside.ensures at c.inner.ensures))
