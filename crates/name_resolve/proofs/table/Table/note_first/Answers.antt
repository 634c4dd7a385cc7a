use Rattle.std.proofs.Common.{sym, ap, ◌∙◌, is_some}
use Rattle.name_resolve.specs.Tables.{searched}
use Rattle.name_resolve.proofs.Tables.{left_out, first_noted, searched_at}
use Rattle.name_resolve.proofs.table.Table.note_first.Goals as goal

pub returns-then-is_some-clause-searched : goal.returns-then-is_some-clause-searched
returns-then-is_some-clause-searched c words word has r w =
    left_out (searched words c.args.self.now) word c.args.declaration r w
    (ap is_some (searched_at words c.args.self.now c.args.declaration.region word c.args.symbol has ∙ sym c.at.ensures) ∙ sym c.if-is_some.ensures)

pub returns-clause-searched : goal.returns-clause-searched
returns-clause-searched c words word has r w =
    c.in_ok-note.ensures.searched words word has r w
    ∙ first_noted (searched words c.args.self.now) word c.args.declaration r w
    (ap is_some (searched_at words c.args.self.now c.args.declaration.region word c.args.symbol has ∙ sym c.at.ensures) ∙ sym c.if-is_some.ensures)
