use Rattle.std.proofs.Common.{◌<◌, length, sym, arith, IsTrue}
use Rattle.code_rows.specs.Values.{are_within}
use Rattle.code_rows.proofs.fills.Fills.fill.Goals as goal
use Rattle.code_rows.proofs.Filled.{fill_value, fill_below, fill_within}

pub returns-clause-value : goal.returns-clause-value
returns-clause-value c =
    let within : c.args.i < length c.self.inside.fills.items = grind (arith, c.requires.there, c.self.view_is) in
    rw (sym c.self.view_is) (fill_value c.args.nodes.now c.self.inside.fills.items c.args.i c.index.result.now c.index.result.now c.index.ensures within c.self.invariant)

pub returns-clause-below : goal.returns-clause-below
returns-clause-below c =
    let within : c.args.i < length c.self.inside.fills.items = grind (arith, c.requires.there, c.self.view_is) in
    fill_below c.self.inside.fills.items c.args.i c.index.result.now c.index.result.now c.index.ensures within c.self.invariant

pub returns-clause-within : goal.returns-clause-within
returns-clause-within c =
    let within : c.args.i < length c.self.inside.fills.items = grind (arith, c.requires.there, c.self.view_is) in
    let all : IsTrue (are_within c.args.nodes.now c.self.inside.fills.items) = rw (sym c.self.view_is) at c.requires.within in
    fill_within c.args.nodes.now c.self.inside.fills.items c.args.i c.index.result.now c.index.result.now c.index.ensures within all
