use Rattle.std.proofs.Common.{◌<◌, length, sym, arith}
use Rattle.typed_tree.proofs.rows.TypedRows.node.Goals as goal
use Rattle.typed_tree.proofs.Grown.{node_tree, node_below}

pub returns-clause-tree : goal.returns-clause-tree
returns-clause-tree c =
    let within : c.args.i < length c.self.inside.nodes.items = grind (arith, c.requires, c.self.view_is) in
    rw (sym c.self.view_is)
    (node_tree c.self.inside.nodes.items c.self.inside.codes.items c.args.i c.index.result.now c.index.result.now c.index.ensures within c.self.invariant)

pub returns-clause-below : goal.returns-clause-below
returns-clause-below c =
    let within : c.args.i < length c.self.inside.nodes.items = grind (arith, c.requires, c.self.view_is) in
    node_below c.self.inside.nodes.items c.self.inside.codes.items c.args.i c.index.result.now c.index.result.now c.index.ensures within c.self.invariant
