use Rattle.std.proofs.Common.{ap, ◌∙◌, is_some}
use Rattle.name_events.specs.Declarations.{declared_in}
use Rattle.name_resolve.proofs.rules.is_declared_here.Goals as goal

pub returns : goal.returns
returns c n s =
    c.is_some.ensures
    ∙ ap is_some (c.declared_in.ensures n s.declarations
    ∙ ap (λ r. declared_in n.declared r c.args.word.now) (c.here-region.ensures.region _ _ _ _ s.regions))
