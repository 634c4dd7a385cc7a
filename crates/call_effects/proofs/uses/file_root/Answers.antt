use Rattle.std.proofs.Common.{ap}
use Rattle.call_effects.specs.Uses.{is_root}
use Rattle.call_effects.proofs.Filed.{filed_nowhere}
use Rattle.call_effects.proofs.uses.file_root.Goals as goal

pub returns-in-None : goal.returns-in-None
returns-in-None c = filed_nowhere c.args.p (λ g. is_root g c.args.root) c.args.rows.now.items (λ g. ap (is_root g) c.in-None.is)
