use Rattle.std.proofs.Common.{◌<◌, length, sym, arith}
use Rattle.code_rows.proofs.nodes.Nodes.node.Goals as goal
use Rattle.code_rows.proofs.Grown.{node_code, node_below}

pub returns-clause-code : goal.returns-clause-code
returns-clause-code c =
    let within : c.args.i < length c.self.inside.nodes.items = grind (arith, c.requires, c.self.view_is) in
    rw (sym c.self.view_is) (node_code c.self.inside.nodes.items c.args.i c.index.result.now c.index.result.now c.index.ensures within c.self.invariant)

pub returns-clause-below : goal.returns-clause-below
returns-clause-below c =
    let within : c.args.i < length c.self.inside.nodes.items = grind (arith, c.requires, c.self.view_is) in
    node_below c.self.inside.nodes.items c.args.i c.index.result.now c.index.result.now c.index.ensures within c.self.invariant
