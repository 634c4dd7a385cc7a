use Rattle.std.proofs.Common.{None}
use Rattle.name_resolve.specs.declared.sighting.Sighting.TheVariants.{Nothing, One, Several}
use Rattle.name_resolve.proofs.Meanings.{seen_is}
use Rattle.name_resolve.proofs.knowledge.Knowledge.seen.Goals as goal

pub returns-in-One : goal.returns-in-One
returns-in-One c now s = seen_is now c.args.word.now None (One c.in-One.found) (c.in-None.ensures now c.args.word.now s c.symbol-symbol.ensures) (c.in-One.ensures now c.args.word.now s c.symbol-symbol.ensures)

pub returns-in-Nothing : goal.returns-in-Nothing
returns-in-Nothing c now s = seen_is now c.args.word.now None Nothing (c.in-None.ensures now c.args.word.now s c.symbol-symbol.ensures) (c.in-Nothing.ensures now c.args.word.now s c.symbol-symbol.ensures)

pub returns-in-Several : goal.returns-in-Several
returns-in-Several c now s = seen_is now c.args.word.now None Several (c.in-None.ensures now c.args.word.now s c.symbol-symbol.ensures) (c.in-Several.ensures now c.args.word.now s c.symbol-symbol.ensures)
