use Rattle.std.proofs.Common.{refl, sym, [], ◌∷◌}
use Rattle.token_reading.specs.Reading.{of_ident}
use Rattle.ada_grammar.specs.Items.{component}
use Rattle.ada_grammar.proofs.ItemParts.{law_component}
use Rattle.token_reading.proofs.Many.{shorter}
use Rattle.token_reading.proofs.Loop.{Shortens, goes_on, ends, breaks_off, handed_on}
use Rattle.statement_parser.proofs.type_item.next_components.Goals as goal

part_shortens : Shortens component
part_shortens = shorter (of_ident ∷ []) law_component refl refl

pub returns-in_err-component : goal.returns-in_err-component
returns-in_err-component c =
    let read = breaks_off (of_ident ∷ []) component part_shortens _ c.turns.all c.turns.tokens c.component.new.tokens _
    (sym c.turns-test.ensures) c.in_err-component.ensures c.turns.invariant in
    handed_on _ _ c.from_residual.result c.component.new.tokens read c.from_residual.ensures.1

pub turns-smaller : goal.turns-smaller
turns-smaller c = part_shortens _ _ _ _ _ c.in_ok-component.ensures

pub turns-preserved : goal.turns-preserved
turns-preserved c =
    rw c.in_ok-push.ensures.ok
    (goes_on (of_ident ∷ []) component part_shortens c.turns.all c.turns.tokens c.component.new.tokens _ _
    (sym c.turns-test.ensures) c.in_ok-component.ensures c.turns.invariant)

pub returns : goal.returns
returns c = ends (of_ident ∷ []) component part_shortens c.turns.all c.turns.tokens _ (sym c.turns-test.ensures) c.turns.invariant
