use Rattle.std.proofs.Common.{sym, ap, ◌∙◌, false}
use Rattle.resolved_tree.specs.Nodes.{code_at, tree_at}
use Rattle.type_definitions.specs.Declarations.{same_formals}
use Rattle.type_definitions.specs.Gathered.{formal_infos}
use Rattle.expression_types.specs.Here.{here}
use Rattle.declaration_rules.proofs.BodyFormals.{no_infos, none_left}
use Rattle.declaration_rules.proofs.same_profile.same_formals.Goals as goal

pub returns : goal.returns
returns c =
    let rows = c.args.reader.now.rows.now in
    let known = (here c.args.reader.now).known in
    let none = ap (formal_infos known false) c.code.ensures.code
    ∙ no_infos known (tree_at rows) (code_at rows) _ c.in_default.not-More in
    c.is_empty.ensures ∙ none_left known.table c.items.left.now ∙ sym (ap (same_formals known.table c.items.left.now) none) ∙ c.items.invariant.1
