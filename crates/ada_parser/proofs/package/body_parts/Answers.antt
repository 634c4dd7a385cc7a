use Rattle.std.proofs.Common.{sym}
use Rattle.token_reading.proofs.Loop.{goes_on, ends, breaks_off, handed_on}
use Rattle.ada_grammar.specs.Units.{body_part, decl_first}
use Rattle.ada_parser.proofs.UnitTurns.{body_part_shortens}
use Rattle.ada_parser.proofs.package.body_parts.Goals as goal

pub returns-in_err-body_part : goal.returns-in_err-body_part
returns-in_err-body_part c =
    let read = breaks_off decl_first body_part body_part_shortens _ c.turns.all c.turns.tokens c.body_part.new.tokens _
    (sym c.turns-test.ensures) c.in_err-body_part.ensures c.turns.invariant in
    handed_on _ _ c.from_residual.result c.body_part.new.tokens read c.from_residual.ensures.1

pub turns-smaller : goal.turns-smaller
turns-smaller c = body_part_shortens _ _ _ _ _ c.in_ok-body_part.ensures

pub turns-preserved : goal.turns-preserved
turns-preserved c =
    rw c.in_ok-push.ensures.ok
    (goes_on decl_first body_part body_part_shortens c.turns.all c.turns.tokens c.body_part.new.tokens _ _
    (sym c.turns-test.ensures) c.in_ok-body_part.ensures c.turns.invariant)

pub returns : goal.returns
returns c = ends decl_first body_part body_part_shortens c.turns.all c.turns.tokens _ (sym c.turns-test.ensures) c.turns.invariant
