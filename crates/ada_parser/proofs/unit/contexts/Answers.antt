use Rattle.std.proofs.Common.{sym}
use Rattle.token_reading.proofs.Loop.{goes_on, ends, breaks_off, handed_on}
use Rattle.ada_grammar.specs.Units.{context, context_first}
use Rattle.ada_parser.proofs.UnitTurns.{context_shortens}
use Rattle.ada_parser.proofs.unit.contexts.Goals as goal

pub returns-in_err-context : goal.returns-in_err-context
returns-in_err-context c =
    let read = breaks_off context_first context context_shortens _ c.turns.all c.turns.tokens c.context.new.tokens _
    (sym c.turns-test.ensures) c.in_err-context.ensures c.turns.invariant in
    handed_on _ _ c.from_residual.result c.context.new.tokens read c.from_residual.ensures.1

pub turns-smaller : goal.turns-smaller
turns-smaller c = context_shortens _ _ _ _ _ c.in_ok-context.ensures

pub turns-preserved : goal.turns-preserved
turns-preserved c =
    rw c.in_ok-push.ensures.ok
    (goes_on context_first context context_shortens c.turns.all c.turns.tokens c.context.new.tokens _ _
    (sym c.turns-test.ensures) c.in_ok-context.ensures c.turns.invariant)

pub returns : goal.returns
returns c = ends context_first context context_shortens c.turns.all c.turns.tokens _ (sym c.turns-test.ensures) c.turns.invariant
