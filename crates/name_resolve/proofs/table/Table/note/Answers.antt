use Rattle.std.proofs.Common.{◌≡◌, ap, ◌∙◌}
use Rattle.indexmap.specs.IndexMap.{insert_entry}
use Rattle.name_resolve.specs.Tables.{same_key}
use Rattle.name_resolve.proofs.Tables.{inserted_puts, searched_noted, only_noted, symbol_within}
use Rattle.name_resolve.proofs.table.Table.note.Goals as goal

pub returns-clause-searched : goal.returns-clause-searched
returns-clause-searched c words word has =
    let before : c.self.inside.entries.entries ≡ c.args.self.now = cc c.self.view_is in
    let d = c.args.declaration in
    searched_noted words c.args.self.now _ word c.args.symbol d
    (inserted_puts c.args.self.now _ c.args.symbol d
    (c.in_ok-insert.ensures.entries ∙ ap (λ table. insert_entry same_key table (d.region, c.args.symbol) d) before)) has

pub returns-clause-only : goal.returns-clause-only
returns-clause-only c words word has =
    let before : c.self.inside.entries.entries ≡ c.args.self.now = cc c.self.view_is in
    let d = c.args.declaration in
    only_noted words c.args.self.now _ c.args.symbol d
    (inserted_puts c.args.self.now _ c.args.symbol d
    (c.in_ok-insert.ensures.entries ∙ ap (λ table. insert_entry same_key table (d.region, c.args.symbol) d) before))
    (symbol_within words word c.args.symbol has)

pub returns-clause-entries : goal.returns-clause-entries
returns-clause-entries c =
    let before : c.self.inside.entries.entries ≡ c.args.self.now = cc c.self.view_is in
    let d = c.args.declaration in
    inserted_puts c.args.self.now _ c.args.symbol d
    (c.in_ok-insert.ensures.entries ∙ ap (λ table. insert_entry same_key table (d.region, c.args.symbol) d) before)
