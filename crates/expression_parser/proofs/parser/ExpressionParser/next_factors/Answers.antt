use Rattle.std.proofs.Common.{sym, suc}
use Rattle.token_reading.proofs.Loop.{goes_on, ends, breaks_off, handed_on}
use Rattle.ada_grammar.specs.Expressions.{multiplying_first, next_factor_in, expr}
use Rattle.ada_grammar.proofs.ExpressionEnds.{next_factor_shortens}
use Rattle.expression_parser.proofs.parser.ExpressionParser.next_factors.Goals as goal

pub returns-in_err-next_factor : goal.returns-in_err-next_factor
returns-in_err-next_factor g c =
    let read =
    breaks_off multiplying_first (next_factor_in c.args.self.now.depth (expr (suc c.args.self.now.depth)))
    (next_factor_shortens c.args.self.now.depth (suc c.args.self.now.depth)) _ c.turns.all c.turns.tokens c.next_factor.new.tokens _
    (sym c.turns-test.ensures) c.in_err-next_factor.ensures c.turns.invariant
    in
    handed_on _ _ c.from_residual.result c.next_factor.new.tokens read c.from_residual.ensures.1

pub turns-smaller : goal.turns-smaller
turns-smaller g c =
    (next_factor_shortens c.args.self.now.depth (suc c.args.self.now.depth)) _ _ _ _ _ c.in_ok-next_factor.ensures

pub turns-preserved : goal.turns-preserved
turns-preserved g c =
    rw c.in_ok-push.ensures.ok
    (goes_on multiplying_first (next_factor_in c.args.self.now.depth (expr (suc c.args.self.now.depth)))
    (next_factor_shortens c.args.self.now.depth (suc c.args.self.now.depth)) c.turns.all c.turns.tokens c.next_factor.new.tokens _ _
    (sym c.turns-test.ensures) c.in_ok-next_factor.ensures c.turns.invariant)

pub returns : goal.returns
returns g c =
    ends multiplying_first (next_factor_in c.args.self.now.depth (expr (suc c.args.self.now.depth)))
    (next_factor_shortens c.args.self.now.depth (suc c.args.self.now.depth)) c.turns.all c.turns.tokens _
    (sym c.turns-test.ensures) c.turns.invariant
