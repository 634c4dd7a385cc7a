use Rattle.std.proofs.Common.{◌≡◌, map, subst, IfOk}
use Rattle.resolved_tree.specs.Nodes.{tree_at}
use Rattle.type_definitions.specs.Expressions.{given_names}
use Rattle.expression_types.proofs.Occurrences.{each_is}
use Rattle.expression_types.proofs.reader.Reader.indexes_components.Goals as goal

pub returns : goal.returns
returns c =
    subst (λ b. IfOk c.each_component.result (λ once. once ≡ b))
    (each_is c.in_ok-index.index (given_names (tree_at c.args.self.now.rows.now c.args.list)) c.in_ok-index.ensures
    (map (λ k. k.name) c.args.components.now)) c.each_component.ensures
