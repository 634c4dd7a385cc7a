use Rattle.std.proofs.Common.{ap, subst, sym, ◌∙◌, eqb-true}
use Rattle.std.specs.Option.{option_copied}
use Rattle.spark_base.specs.Lists.{Has}
use Rattle.call_effects.proofs.Filed.{last_there}
use Rattle.call_effects.proofs.rows.ends_in.Goals as goal

pub returns-in-Some : goal.returns-in-Some
returns-in-Some c e = subst (Has c.args.row.now) (eqb-true c.in-Some.last.now c.args.p e)
    (last_there c.args.row.now c.in-Some.last.now (sym c.last.ensures.value ∙ ap option_copied c.in-Some.is))
