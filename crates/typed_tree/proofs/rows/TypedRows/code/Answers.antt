use Rattle.std.proofs.Common.{◌<◌, length, sym, arith}
use Rattle.typed_tree.proofs.rows.TypedRows.code.Goals as goal
use Rattle.typed_tree.proofs.Grown.{code_tree, code_below}

pub returns-clause-code : goal.returns-clause-code
returns-clause-code c =
    let within : c.args.i < length c.self.inside.codes.items = grind (arith, c.requires, c.self.view_is) in
    rw (sym c.self.view_is)
    (code_tree c.self.inside.nodes.items c.self.inside.codes.items c.args.i c.index.result.now c.index.result.now c.index.ensures within c.self.invariant)

pub returns-clause-below : goal.returns-clause-below
returns-clause-below c =
    let within : c.args.i < length c.self.inside.codes.items = grind (arith, c.requires, c.self.view_is) in
    rw (sym c.self.view_is)
    (code_below c.self.inside.nodes.items c.self.inside.codes.items c.args.i c.index.result.now c.index.result.now c.index.ensures within c.self.invariant)
