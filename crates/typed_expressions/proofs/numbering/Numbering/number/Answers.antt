use Rattle.std.proofs.Common.{arith}
use Rattle.std.proofs.lemmas.Grind.{common_steps}
use Rattle.typed_expressions.proofs.Numbers.{place_is}
use Rattle.typed_expressions.proofs.numbering.Numbering.number.Goals as goal

pub returns-in-Some : goal.returns-in-Some
returns-in-Some c =
    grind (arith, common_steps, place_is 1 c.self.inside.order.items c.args.d, c.self.invariant.0 c.args.d, c.get.ensures.value, c.self.view_is)

pub returns-in-None : goal.returns-in-None
returns-in-None c =
    grind (arith, common_steps, place_is 1 c.self.inside.order.items c.args.d, c.self.invariant.0 c.args.d, c.get.ensures.value, c.self.view_is)
