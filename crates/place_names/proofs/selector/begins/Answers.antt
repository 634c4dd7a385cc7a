use Rattle.std.proofs.Common.{◌∙◌}
use Rattle.place_names.proofs.Selectors.{starts_with-begins}
use Rattle.place_names.proofs.selector.begins.Goals as goal

pub returns : goal.returns
returns c = c.starts_with.ensures.value ∙ starts_with-begins c.args.whole.now c.args.front.now
