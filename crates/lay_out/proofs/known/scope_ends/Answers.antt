use Rattle.program_typing.specs.Typings.{typing}
use Rattle.lay_out.proofs.Ends.{ends_tell}
use Rattle.lay_out.proofs.known.scope_ends.Goals as goal

pub returns : goal.returns
returns c = ends_tell (typing c.args.known.now) _ _ c.in_ok-own.ensures c.has_end-other.ensures
