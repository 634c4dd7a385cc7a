use Rattle.std.proofs.Common.{sym, None, true, false}
use Rattle.name_resolve.proofs.Meanings.{completed_is, completes_nothing, completes_there}
use Rattle.name_resolve.proofs.knowledge.Knowledge.completed_by.Goals as goal

pub returns-then-not-is_completion : goal.returns-then-not-is_completion
returns-then-not-is_completion c now s = completes_nothing now c.args.form c.args.word.now (sym c.if-not-is_completion.ensures)

pub returns-in-None : goal.returns-in-None
returns-in-None c now s =
    completed_is now c.args.form c.args.word.now None c.here-region.result.region
    (c.here-region.ensures.region _ _ _ _ s.regions) (c.in-None.ensures now s.declarations)

pub returns-then-completes : goal.returns-then-completes
returns-then-completes c now s =
    completes_there now c.args.form c.args.word.now c.in-Some.found true c.here-region.result.region
    (c.here-region.ensures.region _ _ _ _ s.regions) (c.in-Some.ensures now s.declarations) (c.if-completes.ensures now s)

pub returns-else-completes : goal.returns-else-completes
returns-else-completes c now s =
    completes_there now c.args.form c.args.word.now c.in-Some.found false c.here-region.result.region
    (c.here-region.ensures.region _ _ _ _ s.regions) (c.in-Some.ensures now s.declarations) (c.if-completes.ensures now s)
