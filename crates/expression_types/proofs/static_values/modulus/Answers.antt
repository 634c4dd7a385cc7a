use Rattle.std.proofs.Common.{◌∙◌, sym, ap}
use Rattle.std.proofs.lemmas.Int.{to_z-of_z}
use mir.Syntax.{w64}
use Rattle.type_definitions.specs.Statics.{as_integer}
use Rattle.expression_types.proofs.Wide.{widened, wider, remainder_is, nonzero_is}
use Rattle.expression_types.proofs.static_values.modulus.Goals as goal

pub returns : goal.returns
returns c =
    let a = widened c.args.a c.from.result c.ranges.a c.from.ensures in
    let b = widened c.args.b c.from-2.result c.ranges.b c.from-2.ensures in
    let d = widened c.args.b c.from-3.result c.ranges.b c.from-3.ensures in
    let r = remainder_is c.args.a c.args.b c.ranges.a c.ranges.b in
    let e = to_z-of_z w64 c.args.b (wider c.args.b c.ranges.b) in
    let f = to_z-of_z w64 c.with_sign_of.result (record { sfits = c.with_sign_of.type_inv }) in
    let g = rw (a, b, d, r, e) at c.with_sign_of.ensures in
    c.as_integer.ensures ∙ ap as_integer (f ∙ g) ∙ sym (nonzero_is c.args.b _ c.if-b-eq0.false)
