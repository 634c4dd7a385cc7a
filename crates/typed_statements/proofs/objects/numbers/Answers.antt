use Rattle.std.proofs.Common.{ap, ◌∙◌}
use Rattle.resolved_tree.specs.Nodes.{code_at}
use Rattle.typed_tree.specs.Trees.{More, NoMore}
use Rattle.typed_tree.proofs.Grown.{grew_on}
use Rattle.typed_expressions.specs.Sites.{site}
use Rattle.typed_statements.proofs.Forms.{objects_behind}
use Rattle.typed_statements.proofs.objects.numbers.Goals as goal

pub returns-clause-code : goal.returns-clause-code
returns-clause-code c =
    let rows = c.args.writer.now.reader.rows.now in
    objects_behind c.same_objects.result _ _ _ _ _ (site c.args.writer.now) (code_at rows c.args.names) _ _
    (grew_on _ _ _ c.expression.ensures.grew c.alone.ensures.grew) c.requires.made
    (c.in_ok-value.ensures.tree.1 ∙ ap (λ t. More t NoMore) c.in_ok-number.ensures.tree.1)
    c.same_objects.ensures.code
