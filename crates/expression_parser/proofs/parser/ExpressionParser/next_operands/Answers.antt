use Rattle.std.proofs.Common.{sym, suc, [], ◌∷◌}
use Rattle.token_reading.specs.Reading.{of_word}
use Rattle.token_reading.proofs.Loop.{goes_on, ends, breaks_off, handed_on}
use Rattle.ada_grammar.specs.Expressions.{next_operand_in, expr}
use Rattle.ada_grammar.proofs.ExpressionEnds.{next_operand_shortens}
use Rattle.expression_parser.proofs.parser.ExpressionParser.next_operands.Goals as goal

pub returns-in_err-next_operand : goal.returns-in_err-next_operand
returns-in_err-next_operand g c =
    let read =
    breaks_off (of_word c.args.word ∷ []) (next_operand_in c.args.self.now.depth (expr (suc c.args.self.now.depth)) c.args.word)
    (next_operand_shortens c.args.self.now.depth (suc c.args.self.now.depth) c.args.word) _ c.turns.all c.turns.tokens c.next_operand.new.tokens _
    (sym c.turns-test.ensures) c.in_err-next_operand.ensures c.turns.invariant
    in
    handed_on _ _ c.from_residual.result c.next_operand.new.tokens read c.from_residual.ensures.1

pub turns-smaller : goal.turns-smaller
turns-smaller g c =
    (next_operand_shortens c.args.self.now.depth (suc c.args.self.now.depth) c.args.word) _ _ _ _ _ c.in_ok-next_operand.ensures

pub turns-preserved : goal.turns-preserved
turns-preserved g c =
    rw c.in_ok-push.ensures.ok
    (goes_on (of_word c.args.word ∷ []) (next_operand_in c.args.self.now.depth (expr (suc c.args.self.now.depth)) c.args.word)
    (next_operand_shortens c.args.self.now.depth (suc c.args.self.now.depth) c.args.word) c.turns.all c.turns.tokens c.next_operand.new.tokens _ _
    (sym c.turns-test.ensures) c.in_ok-next_operand.ensures c.turns.invariant)

pub returns : goal.returns
returns g c =
    ends (of_word c.args.word ∷ []) (next_operand_in c.args.self.now.depth (expr (suc c.args.self.now.depth)) c.args.word)
    (next_operand_shortens c.args.self.now.depth (suc c.args.self.now.depth) c.args.word) c.turns.all c.turns.tokens _
    (sym c.turns-test.ensures) c.turns.invariant
