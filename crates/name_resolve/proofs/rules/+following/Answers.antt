use Rattle.std.proofs.Common.{ap, sym, ◌∙◌, subst}
use Rattle.name_events.specs.Denotes.{occurrences_from}
use Rattle.name_events.specs.Faults.{first_some, occurrence_fault}
use Rattle.name_resolve.specs.Judges.{Says}
use Rattle.name_resolve.proofs.Occurrences.{occurrence_fails, occurrence_lacks}
use Rattle.name_resolve.proofs.rules.+following.Goals as goal

pub follow-returns-in-Breaks-clause-fault : goal.follow-returns-in-Breaks-clause-fault
follow-returns-in-Breaks-clause-fault t c behind now sb s =
    subst (Says c.refused.result)
    (sym (ap (λ m. first_some (occurrence_fault now) (occurrences_from behind now c.args.id.now m c.args.rest.now)) c.in-Breaks.is
    ∙ occurrence_fails behind now c.args.id.now c.in-Breaks.rule c.args.rest.now))
    c.refused.ensures

pub go_on-returns-then-lacks_with-clause-fault : goal.go_on-returns-then-lacks_with-clause-fault
go_on-returns-then-lacks_with-clause-fault t c behind now sb s =
    occurrence_lacks behind now c.args.id.now c.args.declaration c.args.rest.now (sym (c.if-lacks_with.ensures now s))
