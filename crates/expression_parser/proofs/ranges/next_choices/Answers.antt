use Rattle.std.proofs.Common.{refl, sym, [], ◌∷◌, ℕ, ◌≤◌}
use Rattle.spark_base.specs.declared.limits.TheConstants.{NESTING}
use Rattle.ada_lexer.specs.declared.token.Symbol.TheVariants.{Bar}
use Rattle.token_reading.specs.Reading.{of_symbol}
use Rattle.ada_grammar.specs.Items.{next_choice}
use Rattle.ada_grammar.proofs.Range.{law_next_choice}
use Rattle.token_reading.proofs.Many.{shorter}
use Rattle.token_reading.proofs.Loop.{Shortens, goes_on, ends, breaks_off, handed_on}
use Rattle.expression_parser.proofs.ranges.next_choices.Goals as goal

part_shortens : (d : ℕ) → d ≤ NESTING → Shortens (next_choice d)
part_shortens d h = shorter (of_symbol Bar ∷ []) (law_next_choice d h) refl refl

pub returns-in_err-next_choice : goal.returns-in_err-next_choice
returns-in_err-next_choice c =
    let read = breaks_off (of_symbol Bar ∷ []) (next_choice c.args.depth) (part_shortens c.args.depth c.requires) _ c.turns.all c.turns.tokens c.next_choice.new.tokens _
    (sym c.turns-test.ensures) c.in_err-next_choice.ensures c.turns.invariant in
    handed_on _ _ c.from_residual.result c.next_choice.new.tokens read c.from_residual.ensures.1

pub turns-smaller : goal.turns-smaller
turns-smaller c = (part_shortens c.args.depth c.requires) _ _ _ _ _ c.in_ok-next_choice.ensures

pub turns-preserved : goal.turns-preserved
turns-preserved c =
    rw c.in_ok-push.ensures.ok
    (goes_on (of_symbol Bar ∷ []) (next_choice c.args.depth) (part_shortens c.args.depth c.requires) c.turns.all c.turns.tokens c.next_choice.new.tokens _ _
    (sym c.turns-test.ensures) c.in_ok-next_choice.ensures c.turns.invariant)

pub returns : goal.returns
returns c = ends (of_symbol Bar ∷ []) (next_choice c.args.depth) (part_shortens c.args.depth c.requires) c.turns.all c.turns.tokens _ (sym c.turns-test.ensures) c.turns.invariant
