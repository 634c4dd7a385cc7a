use Rattle.resolved_tree.specs.Nodes.{code_at}
use Rattle.typed_tree.specs.Nodes.{typed_at}
use Rattle.typed_expressions.specs.Sites.{site}
use Rattle.typed_statements.proofs.Forms.{code_is, object_made}
use Rattle.typed_statements.proofs.objects.object.Goals as goal

pub returns-clause-code : goal.returns-clause-code
returns-clause-code c =
    code_is _ _ _ _
    (object_made (site c.args.writer.now) (typed_at c.args.to.now c.args.value) (code_at c.args.writer.now.reader.rows.now c.args.name)
    _ _ _ c.declared_pos.ensures c.declared_number.ensures c.object_number.ensures)
    c.push_code.ensures.code
