use Rattle.std.proofs.Common.{ap, subst, sym, ◌∙◌, eqb-true}
use Rattle.std.specs.Option.{option_copied}
use Rattle.spark_base.specs.Lists.{Has}
use Rattle.call_effects.proofs.Filed.{last_there}
use Rattle.call_effects.proofs.Spreading.{last_decides}
use Rattle.call_effects.proofs.spread.ends_with.Goals as goal

pub returns-in-Some-clause-some : goal.returns-in-Some-clause-some
returns-in-Some-clause-some c e = subst (Has c.args.list.now) (eqb-true c.in-Some.last.now c.args.g e)
    (last_there c.args.list.now c.in-Some.last.now (sym c.last.ensures.value ∙ ap option_copied c.in-Some.is))

pub returns-in-Some-clause-none : goal.returns-in-Some-clause-none
returns-in-Some-clause-none c =
    let is = sym c.last.ensures.value ∙ ap option_copied c.in-Some.is in
    last_decides c.args.list.now c.in-Some.last.now c.args.g c.requires.order c.requires.upto is (last_there c.args.list.now c.in-Some.last.now is)
