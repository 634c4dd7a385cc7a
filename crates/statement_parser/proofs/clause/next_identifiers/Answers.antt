use Rattle.std.proofs.Common.{refl, sym, [], ◌∷◌}
use Rattle.ada_lexer.specs.declared.token.Symbol.TheVariants.{Comma}
use Rattle.token_reading.specs.Reading.{of_symbol}
use Rattle.ada_grammar.specs.Items.{next_identifier}
use Rattle.ada_grammar.proofs.ItemParts.{law_next_identifier}
use Rattle.token_reading.proofs.Many.{shorter}
use Rattle.token_reading.proofs.Loop.{Shortens, goes_on, ends, breaks_off, handed_on}
use Rattle.statement_parser.proofs.clause.next_identifiers.Goals as goal

part_shortens : Shortens next_identifier
part_shortens = shorter (of_symbol Comma ∷ []) law_next_identifier refl refl

pub returns-in_err-next_identifier : goal.returns-in_err-next_identifier
returns-in_err-next_identifier c =
    let read = breaks_off (of_symbol Comma ∷ []) next_identifier part_shortens _ c.turns.all c.turns.tokens c.next_identifier.new.tokens _
    (sym c.turns-test.ensures) c.in_err-next_identifier.ensures c.turns.invariant in
    handed_on _ _ c.from_residual.result c.next_identifier.new.tokens read c.from_residual.ensures.1

pub turns-smaller : goal.turns-smaller
turns-smaller c = part_shortens _ _ _ _ _ c.in_ok-next_identifier.ensures

pub turns-preserved : goal.turns-preserved
turns-preserved c =
    rw c.in_ok-push.ensures.ok
    (goes_on (of_symbol Comma ∷ []) next_identifier part_shortens c.turns.all c.turns.tokens c.next_identifier.new.tokens _ _
    (sym c.turns-test.ensures) c.in_ok-next_identifier.ensures c.turns.invariant)

pub returns : goal.returns
returns c = ends (of_symbol Comma ∷ []) next_identifier part_shortens c.turns.all c.turns.tokens _ (sym c.turns-test.ensures) c.turns.invariant
