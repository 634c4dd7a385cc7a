use Rattle.std.proofs.Common.{ap, ◌∙◌, not, ◌&&◌}
use Rattle.name_events.specs.Completions.{completes_form}
use Rattle.name_resolve.proofs.knowledge.Knowledge.completes.Goals as goal

pub returns : goal.returns
returns c now s =
    c.both-2.ensures
    ∙ (λ j. c.may_complete.ensures now s j
    && ((c.both.ensures
    ∙ (λ j. (c.completes-fits.ensures ∙ ap (completes_form c.args.found.form c.args.found.part c.args.form) (c.here-part.ensures.part _ _ _ _ s.regions)) j
    && not (c.is_completed-is_completed.ensures now s.declarations j))) j))
