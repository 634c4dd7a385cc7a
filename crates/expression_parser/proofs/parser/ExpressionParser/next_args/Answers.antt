use Rattle.std.proofs.Common.{sym, suc, [], ◌∷◌}
use Rattle.ada_lexer.specs.declared.token.Symbol.TheVariants as s
use Rattle.token_reading.specs.Reading.{of_symbol}
use Rattle.token_reading.proofs.Loop.{goes_on, ends, breaks_off, handed_on}
use Rattle.ada_grammar.specs.Expressions.{next_arg_in, expr}
use Rattle.ada_grammar.proofs.ExpressionEnds.{next_arg_shortens}
use Rattle.expression_parser.proofs.parser.ExpressionParser.next_args.Goals as goal

pub returns-in_err-next_arg : goal.returns-in_err-next_arg
returns-in_err-next_arg g c =
    let read =
    breaks_off (of_symbol s.Comma ∷ []) (next_arg_in c.args.side (expr (suc c.args.self.now.depth)))
    (next_arg_shortens c.args.side (suc c.args.self.now.depth)) _ c.turns.all c.turns.tokens c.next_arg.new.tokens _
    (sym c.turns-test.ensures) c.in_err-next_arg.ensures c.turns.invariant
    in
    handed_on _ _ c.from_residual.result c.next_arg.new.tokens read c.from_residual.ensures.1

pub turns-smaller : goal.turns-smaller
turns-smaller g c =
    (next_arg_shortens c.args.side (suc c.args.self.now.depth)) _ _ _ _ _ c.in_ok-next_arg.ensures

pub turns-preserved : goal.turns-preserved
turns-preserved g c =
    rw c.in_ok-push.ensures.ok
    (goes_on (of_symbol s.Comma ∷ []) (next_arg_in c.args.side (expr (suc c.args.self.now.depth)))
    (next_arg_shortens c.args.side (suc c.args.self.now.depth)) c.turns.all c.turns.tokens c.next_arg.new.tokens _ _
    (sym c.turns-test.ensures) c.in_ok-next_arg.ensures c.turns.invariant)

pub returns : goal.returns
returns g c =
    ends (of_symbol s.Comma ∷ []) (next_arg_in c.args.side (expr (suc c.args.self.now.depth)))
    (next_arg_shortens c.args.side (suc c.args.self.now.depth)) c.turns.all c.turns.tokens _
    (sym c.turns-test.ensures) c.turns.invariant
