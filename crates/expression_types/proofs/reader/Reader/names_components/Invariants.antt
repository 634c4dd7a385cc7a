use Rattle.std.proofs.Common.{◌≡◌, drop, map}
use Rattle.resolved_tree.specs.Nodes.{tree_at}
use Rattle.type_definitions.specs.Expressions.{given_names, each_once}
use Rattle.expression_types.proofs.reader.Reader.names_components.Given as goal

abbrev pub invariant-components : goal.invariant-components
invariant-components l =
    each_once (map (λ f. f.name) (drop l.component-index l.components)) (given_names (tree_at l.self.rows.now l.list))
    ≡ each_once (map (λ f. f.name) l.components) (given_names (tree_at l.self.rows.now l.list))
