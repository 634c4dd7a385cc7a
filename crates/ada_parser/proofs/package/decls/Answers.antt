use Rattle.std.proofs.Common.{sym}
use Rattle.token_reading.proofs.Loop.{goes_on, ends, breaks_off, handed_on}
use Rattle.ada_grammar.specs.Units.{decl, decl_first}
use Rattle.ada_parser.proofs.UnitTurns.{decl_shortens}
use Rattle.ada_parser.proofs.package.decls.Goals as goal

pub returns-in_err-decl : goal.returns-in_err-decl
returns-in_err-decl c =
    let read = breaks_off decl_first decl decl_shortens _ c.turns.all c.turns.tokens c.decl.new.tokens _
    (sym c.turns-test.ensures) c.in_err-decl.ensures c.turns.invariant in
    handed_on _ _ c.from_residual.result c.decl.new.tokens read c.from_residual.ensures.1

pub turns-smaller : goal.turns-smaller
turns-smaller c = decl_shortens _ _ _ _ _ c.in_ok-decl.ensures

pub turns-preserved : goal.turns-preserved
turns-preserved c =
    rw c.in_ok-push.ensures.ok
    (goes_on decl_first decl decl_shortens c.turns.all c.turns.tokens c.decl.new.tokens _ _
    (sym c.turns-test.ensures) c.in_ok-decl.ensures c.turns.invariant)

pub returns : goal.returns
returns c = ends decl_first decl decl_shortens c.turns.all c.turns.tokens _ (sym c.turns-test.ensures) c.turns.invariant
