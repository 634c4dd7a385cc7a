use Rattle.std.proofs.Common.{refl, sym, ◌∙◌, true}
use Rattle.state_trees.proofs.Numbered.{numbers_from-all}
use Rattle.state_trees.proofs.numbers.touched.Goals as goal

pub returns-in_default : goal.returns-in_default
returns-in_default c = (λ f. true, c.below.ensures ∙ sym (numbers_from-all 0 c.args.facts.now), λ f t. refl)
