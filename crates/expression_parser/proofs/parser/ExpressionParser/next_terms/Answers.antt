use Rattle.std.proofs.Common.{sym, suc}
use Rattle.token_reading.proofs.Loop.{goes_on, ends, breaks_off, handed_on}
use Rattle.ada_grammar.specs.Expressions.{adding_first, next_term_in, expr}
use Rattle.ada_grammar.proofs.ExpressionEnds.{next_term_shortens}
use Rattle.expression_parser.proofs.parser.ExpressionParser.next_terms.Goals as goal

pub returns-in_err-next_term : goal.returns-in_err-next_term
returns-in_err-next_term g c =
    let read =
    breaks_off adding_first (next_term_in c.args.self.now.depth (expr (suc c.args.self.now.depth)))
    (next_term_shortens c.args.self.now.depth (suc c.args.self.now.depth)) _ c.turns.all c.turns.tokens c.next_term.new.tokens _
    (sym c.turns-test.ensures) c.in_err-next_term.ensures c.turns.invariant
    in
    handed_on _ _ c.from_residual.result c.next_term.new.tokens read c.from_residual.ensures.1

pub turns-smaller : goal.turns-smaller
turns-smaller g c =
    (next_term_shortens c.args.self.now.depth (suc c.args.self.now.depth)) _ _ _ _ _ c.in_ok-next_term.ensures

pub turns-preserved : goal.turns-preserved
turns-preserved g c =
    rw c.in_ok-push.ensures.ok
    (goes_on adding_first (next_term_in c.args.self.now.depth (expr (suc c.args.self.now.depth)))
    (next_term_shortens c.args.self.now.depth (suc c.args.self.now.depth)) c.turns.all c.turns.tokens c.next_term.new.tokens _ _
    (sym c.turns-test.ensures) c.in_ok-next_term.ensures c.turns.invariant)

pub returns : goal.returns
returns g c =
    ends adding_first (next_term_in c.args.self.now.depth (expr (suc c.args.self.now.depth)))
    (next_term_shortens c.args.self.now.depth (suc c.args.self.now.depth)) c.turns.all c.turns.tokens _
    (sym c.turns-test.ensures) c.turns.invariant
