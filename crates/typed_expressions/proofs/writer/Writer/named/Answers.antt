use Rattle.std.proofs.Common.{◌≡◌, subst, IfOk}
use Rattle.resolved_tree.specs.Nodes.{tree_at}
use Rattle.type_definitions.specs.Expressions.{given_names}
use Rattle.expression_types.specs.Here.{here}
use Rattle.typed_tree.specs.Expressions.{role_names}
use Rattle.typed_expressions.proofs.ArgumentOrder.{numbers_are}
use Rattle.typed_expressions.proofs.writer.Writer.named.Goals as goal

pub returns : goal.returns
returns c =
    subst (λ ns. IfOk c.indexed.result (λ made. made.items ≡ ns))
    (numbers_are c.in_ok-index.index (given_names (tree_at c.args.self.now.reader.rows.now c.args.args)) c.args.other c.args.numbers.now
    (role_names (here c.args.self.now.reader) c.args.role) c.in_ok-index.ensures)
    c.indexed.ensures
