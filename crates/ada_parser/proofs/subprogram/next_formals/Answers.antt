use Rattle.std.proofs.Common.{sym, [], ◌∷◌}
use Rattle.ada_lexer.specs.declared.token.Symbol.TheVariants as s
use Rattle.token_reading.specs.Reading.{of_symbol}
use Rattle.token_reading.proofs.Loop.{goes_on, ends, breaks_off, handed_on}
use Rattle.ada_grammar.specs.Units.{next_formal}
use Rattle.ada_parser.proofs.UnitTurns.{next_formal_shortens}
use Rattle.ada_parser.proofs.subprogram.next_formals.Goals as goal

pub returns-in_err-next_formal : goal.returns-in_err-next_formal
returns-in_err-next_formal c =
    let read = breaks_off (of_symbol s.Semicolon ∷ []) next_formal next_formal_shortens _ c.turns.all c.turns.tokens c.next_formal.new.tokens _
    (sym c.turns-test.ensures) c.in_err-next_formal.ensures c.turns.invariant in
    handed_on _ _ c.from_residual.result c.next_formal.new.tokens read c.from_residual.ensures.1

pub turns-smaller : goal.turns-smaller
turns-smaller c = next_formal_shortens _ _ _ _ _ c.in_ok-next_formal.ensures

pub turns-preserved : goal.turns-preserved
turns-preserved c =
    rw c.in_ok-push.ensures.ok
    (goes_on (of_symbol s.Semicolon ∷ []) next_formal next_formal_shortens c.turns.all c.turns.tokens c.next_formal.new.tokens _ _
    (sym c.turns-test.ensures) c.in_ok-next_formal.ensures c.turns.invariant)

pub returns : goal.returns
returns c = ends (of_symbol s.Semicolon ∷ []) next_formal next_formal_shortens c.turns.all c.turns.tokens _ (sym c.turns-test.ensures) c.turns.invariant
