use Rattle.std.proofs.Common.{ap, ◌∙◌, not}
use Rattle.std.specs.Prelude.{◌||◌}
use Rattle.name_events.specs.declared.declaration.RegionPart.TheVariants as part
use Rattle.name_events.specs.Declarations.{same_part}
use Rattle.name_resolve.proofs.knowledge.Knowledge.may_complete.Goals as goal

pub returns : goal.returns
returns c now s =
    c.either.ensures
    ∙ (λ j. not ((c.same_part-in_body.ensures ∙ ap (λ p. same_part p part.Body) (c.here-part.ensures.part _ _ _ _ s.regions)) j) || s.in_own_body j)
