use Rattle.std.proofs.Common.{sym}
use Rattle.name_resolve.specs.Tables.{asks_completion}
use Rattle.name_resolve.proofs.Firsts.{first_answers_left, first_answers_noted}
use Rattle.name_resolve.proofs.declarations.note_awaiting.Goals as goal

pub returns-in_ok-note_first-clause-first : goal.returns-in_ok-note_first-clause-first
returns-in_ok-note_first-clause-first c words word entries has s =
    first_answers_noted asks_completion _ _ entries word c.args.declaration (sym c.if-awaits.ensures)
    (c.in_ok-note_first.ensures.searched words word has) s

pub returns-else-awaits-clause-first : goal.returns-else-awaits-clause-first
returns-else-awaits-clause-first c words word entries has s =
    first_answers_left asks_completion _ entries word c.args.declaration (sym c.if-awaits.ensures) s
