use Rattle.resolved_tree.specs.Nodes.{code_at, tree_at}
use Rattle.type_definitions.specs.Declarations.{choices_of}
use Rattle.expression_rules.specs.Around.{context}
use Rattle.statement_rules.proofs.Whole.{taken_whole}
use Rattle.statement_rules.proofs.case_choices.coverage.Goals as goal

pub returns : goal.returns
returns c =
    let rows = c.args.checker.now.rows.now in
    taken_whole (context c.args.checker.now) c.args.pos (tree_at rows c.args.selector) (choices_of (code_at rows c.args.alternatives))
    c.args.found c.in_ok-taken_faults.field-0 c.new-choices.result c.add_alternatives.new.self c.type_or_integer-of.result (cc)
    c.new-choices.ensures.covers c.new-choices.ensures.others c.new-choices.ensures.sound (cc) c.in_ok-add_alternatives.ensures
    c.in_ok-taken_faults.ensures
