use Rattle.std.proofs.Common.{◌∙◌, sym, ap}
use Rattle.type_definitions.specs.Statics.{as_integer}
use Rattle.expression_types.proofs.Wide.{widened, remainder_is, nonzero_is}
use Rattle.expression_types.proofs.static_values.remainder.Goals as goal

pub returns : goal.returns
returns c =
    let a = widened c.args.a c.from.result c.ranges.a c.from.ensures in
    let b = widened c.args.b c.from-2.result c.ranges.b c.from-2.ensures in
    let h = rw (a, b) at c.as_integer.ensures in
    h ∙ ap as_integer (remainder_is c.args.a c.args.b c.ranges.a c.ranges.b) ∙ sym (nonzero_is c.args.b _ c.if-b-eq0.false)
