use Rattle.std.proofs.Common.{ap, ◌∙◌}
use Rattle.resolved_tree.specs.Nodes.{code_at, code_of, tree_at}
use Rattle.typed_expressions.specs.Sites.{site}
use Rattle.typed_statements.proofs.Forms.{plain_objects}
use Rattle.typed_statements.proofs.plain.plain.Goals as goal

pub returns-in-Objects-clause-code : goal.returns-in-Objects-clause-code
returns-in-Objects-clause-code c =
    let rows = c.args.writer.now.reader.rows.now in
    plain_objects c.objects.result _ _ _ (site c.args.writer.now) _ _ _ _ _
    (c.code.ensures.code ∙ ap (code_of (tree_at rows) (code_at rows)) c.in-Objects.is) c.objects.ensures.code
