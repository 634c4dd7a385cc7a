use Rattle.std.proofs.Common.{sym, suc}
use Rattle.token_reading.proofs.Loop.{goes_on, ends, breaks_off, handed_on}
use Rattle.ada_grammar.specs.Expressions.{suffix_first, suffix_in, expr}
use Rattle.ada_grammar.proofs.ExpressionEnds.{suffix_shortens}
use Rattle.expression_parser.proofs.parser.ExpressionParser.suffixes.Goals as goal

pub returns-in_err-suffix : goal.returns-in_err-suffix
returns-in_err-suffix g c =
    let read =
    breaks_off suffix_first (suffix_in c.args.side c.args.self.now.depth (expr (suc c.args.self.now.depth)))
    (suffix_shortens c.args.side c.args.self.now.depth (suc c.args.self.now.depth)) _ c.turns.all c.turns.tokens c.suffix.new.tokens _
    (sym c.turns-test.ensures) c.in_err-suffix.ensures c.turns.invariant
    in
    handed_on _ _ c.from_residual.result c.suffix.new.tokens read c.from_residual.ensures.1

pub turns-smaller : goal.turns-smaller
turns-smaller g c =
    (suffix_shortens c.args.side c.args.self.now.depth (suc c.args.self.now.depth)) _ _ _ _ _ c.in_ok-suffix.ensures

pub turns-preserved : goal.turns-preserved
turns-preserved g c =
    rw c.in_ok-push.ensures.ok
    (goes_on suffix_first (suffix_in c.args.side c.args.self.now.depth (expr (suc c.args.self.now.depth)))
    (suffix_shortens c.args.side c.args.self.now.depth (suc c.args.self.now.depth)) c.turns.all c.turns.tokens c.suffix.new.tokens _ _
    (sym c.turns-test.ensures) c.in_ok-suffix.ensures c.turns.invariant)

pub returns : goal.returns
returns g c =
    ends suffix_first (suffix_in c.args.side c.args.self.now.depth (expr (suc c.args.self.now.depth)))
    (suffix_shortens c.args.side c.args.self.now.depth (suc c.args.self.now.depth)) c.turns.all c.turns.tokens _
    (sym c.turns-test.ensures) c.turns.invariant
