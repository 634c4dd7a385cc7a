use Rattle.std.proofs.Common.{sym, ◌∙◌, reverse}
use Rattle.name_resolve.proofs.Tables.{innermost_absent}
use Rattle.name_resolve.proofs.table.Table.innermost.Goals as goal

pub returns-in-None : goal.returns-in-None
returns-in-None c words word has =
    innermost_absent words c.args.self.now (reverse c.args.around.now) word (sym c.in-None.is ∙ has)

pub returns-in-Some : goal.returns-in-Some
returns-in-Some c words word has = c.innermost_at.ensures words word (sym has ∙ c.in-Some.is)
