use Rattle.std.proofs.Common.{◌∙◌, ap, suc, drop, get_or}
use Rattle.typed_tree.specs.Nodes.{typed_at}
use Rattle.flow_paths.specs.Aliases.{passed}
use Rattle.alias_rules.specs.Told.{passed_of}
use Rattle.alias_rules.specs.Steps.{passed_from}
use Rattle.alias_rules.proofs.Nodes.{no_cell}
use Rattle.alias_rules.proofs.actuals.named_actuals.Goals as goal

pub returns-in_default : goal.returns-in_default
returns-in_default c =
    let rows = c.args.rows.now in
    let formals = c.args.formals.now in
    let i = c.formals.formal-index in
    let none = c.first_cell.ensures (get_or formals i 0) (drop (suc i) formals)
    ∙ ap (passed_from rows (get_or formals i 0) (drop (suc i) formals)) c.in_default.is in
    no_cell c.formals.names.items passed_of rows formals i c.formals.at 0 (passed formals (typed_at rows c.args.actuals)) c.formals-test.true none c.formals.invariant.0
