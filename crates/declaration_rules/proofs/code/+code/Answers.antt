use Rattle.std.proofs.Common.{◌≡◌, sym, ap, ◌∙◌, subst, List, IfOk}
use Rattle.resolved_tree.specs.Nodes.{code_at, code_of, tree_at}
use Rattle.type_definitions.specs.declared.judgement.Fault.{Fault}
use Rattle.type_definitions.specs.Faults.{noted}
use Rattle.type_definitions.specs.Declarations.{code_faults}
use Rattle.expression_rules.specs.Around.{context}
use Rattle.declaration_rules.proofs.Cases.{case_is}
use Rattle.declaration_rules.proofs.code.+code.Goals as goal

pub item_faults-returns-in-Case : goal.item_faults-returns-in-Case
item_faults-returns-in-Case t c =
    let rows = c.args.checker.now.rows.now in
    let here = context c.args.checker.now in
    let is = c.code.ensures.code ∙ ap (code_of (tree_at rows) (code_at rows)) c.in-Case.is in
    subst (λ (faults : List Fault). IfOk c.case_faults.result (λ first. first ≡ noted c.args.found faults))
    (sym (case_is here c.in-Case.pos (tree_at rows c.in-Case.selector) (code_at rows c.in-Case.alternatives)) ∙ ap (code_faults here) (sym is))
    c.case_faults.ensures
