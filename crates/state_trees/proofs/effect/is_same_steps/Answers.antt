use Rattle.state_trees.proofs.Parts.{same_steps}
use Rattle.state_trees.proofs.effect.is_same_steps.Goals as goal

pub returns : goal.returns
returns c = same_steps c.args.a.now c.args.b.now c.eq.result c.eq.ensures
