use Rattle.std.specs.Int.RustNames.{int_div}
use Rattle.std.proofs.lemmas.Int.{to_z-of_z}
use mir.Syntax.{w32}
use Rattle.run_values.proofs.Division.{divides, not_zero}
use Rattle.run_values.proofs.arithmetic.remainder.Goals as goal

pub returns-else-b-eq0-clause-law : goal.returns-else-b-eq0-clause-law
returns-else-b-eq0-clause-law c =
    let a = c.args.a in
    let b = c.args.b in
    let r = to_z-of_z w32 c.wrapping_rem.result (record { sfits = c.wrapping_rem.type_inv }) in
    let x = to_z-of_z w32 a c.ranges.a in
    let y = to_z-of_z w32 b c.ranges.b in
    rw (r, c.wrapping_rem.ensures, x, y) (int_div a b, divides a b (not_zero b c.if-b-eq0.false))
