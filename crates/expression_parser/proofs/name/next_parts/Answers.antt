use Rattle.std.proofs.Common.{sym, [], ◌∷◌}
use Rattle.ada_lexer.specs.declared.token.Symbol.TheVariants as s
use Rattle.token_reading.specs.Reading.{of_symbol}
use Rattle.token_reading.proofs.Loop.{goes_on, ends, breaks_off, handed_on}
use Rattle.ada_grammar.specs.Expressions.{next_part}
use Rattle.ada_grammar.proofs.ExpressionEnds.{next_part_shortens}
use Rattle.expression_parser.proofs.name.next_parts.Goals as goal

pub returns-in_err-next_part : goal.returns-in_err-next_part
returns-in_err-next_part c =
    let read =
    breaks_off (of_symbol s.Dot ∷ []) (next_part c.args.side)
    (next_part_shortens c.args.side) _ c.turns.all c.turns.tokens c.next_part.new.tokens _
    (sym c.turns-test.ensures) c.in_err-next_part.ensures c.turns.invariant
    in
    handed_on _ _ c.from_residual.result c.next_part.new.tokens read c.from_residual.ensures.1

pub turns-smaller : goal.turns-smaller
turns-smaller c =
    (next_part_shortens c.args.side) _ _ _ _ _ c.in_ok-next_part.ensures

pub turns-preserved : goal.turns-preserved
turns-preserved c =
    rw c.in_ok-push.ensures.ok
    (goes_on (of_symbol s.Dot ∷ []) (next_part c.args.side)
    (next_part_shortens c.args.side) c.turns.all c.turns.tokens c.next_part.new.tokens _ _
    (sym c.turns-test.ensures) c.in_ok-next_part.ensures c.turns.invariant)

pub returns : goal.returns
returns c =
    ends (of_symbol s.Dot ∷ []) (next_part c.args.side)
    (next_part_shortens c.args.side) c.turns.all c.turns.tokens _
    (sym c.turns-test.ensures) c.turns.invariant
