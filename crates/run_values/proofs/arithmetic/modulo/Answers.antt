use Rattle.std.proofs.Common.{sym}
use Rattle.std.proofs.lemmas.Int.{to_z-of_z}
use mir.Syntax.{w32}
use Rattle.run_values.proofs.Division.{not_zero, mod-law, modulus_is}
use Rattle.run_values.proofs.arithmetic.modulo.Goals as goal

pub returns-else-b-eq0 : goal.returns-else-b-eq0
returns-else-b-eq0 c =
    let a = c.args.a in
    let b = c.args.b in
    let m = to_z-of_z w32 c.with_sign_of.result (record { sfits = c.with_sign_of.type_inv }) in
    let r = to_z-of_z w32 c.wrapping_rem.result (record { sfits = c.wrapping_rem.type_inv }) in
    let x = to_z-of_z w32 a c.ranges.a in
    let y = to_z-of_z w32 b c.ranges.b in
    let some = not_zero b c.if-b-eq0.false in
    let is = sym (modulus_is a b c.ranges.b some) in
    record {
      value = rw (m, c.with_sign_of.ensures, r, c.wrapping_rem.ensures, x, y) is;
      law = rw (m, c.with_sign_of.ensures, r, c.wrapping_rem.ensures, x, y) (mod-law a b some);
    }
