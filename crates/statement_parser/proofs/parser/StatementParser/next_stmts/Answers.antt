use Rattle.std.proofs.Common.{sym, ℕ}
use Rattle.token_reading.specs.Reading.{Reader}
use Rattle.token_reading.proofs.Loop.{goes_on, ends, breaks_off, handed_on}
use Rattle.ada_tree.specs.declared.statement.Stmt.{Stmt}
use Rattle.ada_grammar.specs.Statements.{stmt_in, inner_stmts, stmt_first, next_stmts_in}
use Rattle.ada_grammar.proofs.StatementLoops.{stmt_shortens}
use Rattle.statement_parser.proofs.parser.StatementParser.next_stmts.Goals as goal

abbrev part : ℕ → Reader Stmt
part d = stmt_in d (inner_stmts d)

pub returns-in_err-stmt : goal.returns-in_err-stmt
unfolding next_stmts_in
returns-in_err-stmt g c =
    let read = breaks_off (stmt_first) (part c.args.self.now.depth) (stmt_shortens c.args.self.now.depth c.requires.within) _
    c.turns.all c.turns.tokens c.stmt.new.tokens _ (sym c.turns-test.ensures) c.in_err-stmt.ensures c.turns.invariant in
    handed_on _ _ c.from_residual.result c.stmt.new.tokens read c.from_residual.ensures.1

pub turns-smaller : goal.turns-smaller
turns-smaller g c = stmt_shortens c.args.self.now.depth c.requires.within _ _ _ _ _ c.in_ok-stmt.ensures

pub turns-preserved : goal.turns-preserved
turns-preserved g c =
    rw c.in_ok-push.ensures.ok
    (goes_on (stmt_first) (part c.args.self.now.depth) (stmt_shortens c.args.self.now.depth c.requires.within)
    c.turns.all c.turns.tokens c.stmt.new.tokens _ _ (sym c.turns-test.ensures) c.in_ok-stmt.ensures c.turns.invariant)

pub returns : goal.returns
unfolding next_stmts_in
returns g c =
    ends (stmt_first) (part c.args.self.now.depth) (stmt_shortens c.args.self.now.depth c.requires.within)
    c.turns.all c.turns.tokens _ (sym c.turns-test.ensures) c.turns.invariant
