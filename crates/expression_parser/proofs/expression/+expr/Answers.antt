use Rattle.std.proofs.Common.{arith}
use Rattle.ada_grammar.proofs.ExpressionLevels.{expr_level, expr_too_deep}
use Rattle.expression_parser.proofs.expression.+expr.Goals as goal

pub returns-then-depth-gt-NESTING : goal.returns-then-depth-gt-NESTING
returns-then-depth-gt-NESTING t c =
    expr_too_deep c.args.depth (omega (arith, c.if-depth-gt-NESTING.true)) c.args.tokens.now.operators c.args.tokens.now.tokens

pub returns : goal.returns
returns t c = rw (expr_level c.args.depth (omega (arith, c.if-depth-gt-NESTING.false))) c.expr.ensures
