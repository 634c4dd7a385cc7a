use Rattle.std.proofs.Common.{ap, ◌∙◌}
use Rattle.resolved_tree.specs.Nodes.{code_at, tree_at}
use Rattle.type_definitions.specs.Gathered.{indicated}
use Rattle.typed_tree.specs.Expressions.{typed_optional}
use Rattle.typed_expressions.specs.Sites.{site}
use Rattle.typed_statements.proofs.Forms.{objects_behind}
use Rattle.typed_statements.proofs.objects.objects.Goals as goal

pub returns-clause-code : goal.returns-clause-code
returns-clause-code c =
    let rows = c.args.writer.now.reader.rows.now in
    let s = site c.args.writer.now in
    let of = code_at rows c.args.of in
    let v = tree_at rows c.args.value in
    objects_behind c.same_objects.result _ _ _ _ _ s (code_at rows c.args.names) _ _ c.optional.ensures.grew c.requires.made
    (c.in_ok-value.ensures.tree.1
    ∙ ap (λ t. typed_optional s t v) (c.indicated-want.ensures ∙ ap (λ d. indicated s.context.known d of) c.first_number.ensures))
    c.same_objects.ensures.code
