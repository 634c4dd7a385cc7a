use Rattle.std.proofs.Common.{sym}
use Rattle.token_reading.proofs.Loop.{goes_on, ends, breaks_off, handed_on}
use Rattle.ada_grammar.specs.Units.{unit, unit_first, source}
use Rattle.ada_parser.proofs.UnitTurns.{some_begins, some_breaks, unit_shortens}
use Rattle.ada_parser.proofs.unit.units.Goals as goal

pub returns-in_err-unit : goal.returns-in_err-unit
unfolding source
returns-in_err-unit c =
    handed_on _ _ c.from_residual.result c.unit.new.tokens (some_breaks unit_first unit _ c.args.tokens.now c.unit.new.tokens c.in_err-unit.ensures)
    c.from_residual.ensures.1

pub turns-init : goal.turns-init
unfolding source
turns-init c =
    rw c.in_ok-push.ensures.ok
    (rw c.new-all.ensures (sym (some_begins unit_first unit c.args.tokens.now c.unit.new.tokens _ c.in_ok-unit.ensures)))

pub returns-in_err-unit-2 : goal.returns-in_err-unit-2
returns-in_err-unit-2 c =
    let read = breaks_off unit_first unit unit_shortens _ c.turns.all c.turns.tokens c.unit-in-turns.new.tokens _
    (sym c.turns-test.ensures) c.in_err-unit-2.ensures c.turns.invariant in
    handed_on _ _ c.from_residual-in_err-unit-2.result c.unit-in-turns.new.tokens read c.from_residual-in_err-unit-2.ensures.1

pub turns-smaller : goal.turns-smaller
turns-smaller c = unit_shortens _ _ _ _ _ c.in_ok-unit-2.ensures

pub turns-preserved : goal.turns-preserved
turns-preserved c =
    rw c.in_ok-push-2.ensures.ok
    (goes_on unit_first unit unit_shortens c.turns.all c.turns.tokens c.unit-in-turns.new.tokens _ _
    (sym c.turns-test.ensures) c.in_ok-unit-2.ensures c.turns.invariant)

pub returns : goal.returns
returns c = ends unit_first unit unit_shortens c.turns.all c.turns.tokens _ (sym c.turns-test.ensures) c.turns.invariant
