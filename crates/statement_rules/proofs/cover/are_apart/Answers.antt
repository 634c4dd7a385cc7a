use Rattle.std.proofs.Common.{◌≡◌, false, arith}
use Rattle.std.proofs.lemmas.Grind.{common_steps}
use Rattle.statement_rules.specs.Sweep.{overlap}
use Rattle.statement_rules.proofs.Apart.{apart}
use Rattle.statement_rules.proofs.cover.are_apart.Goals as goal

pub returns : goal.returns
returns c free =
    let none : overlap c.from.result c.in_ok-sorted.sorted.items ≡ false = grind (arith, common_steps, free) in
    apart c.args.covers.now c.in_ok-sorted.sorted.items c.from.result c.in_ok-sorted.ensures.permutation none
