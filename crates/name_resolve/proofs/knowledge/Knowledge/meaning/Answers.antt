use Rattle.std.proofs.Common.{refl, None}
use Rattle.name_resolve.specs.declared.sighting.Sighting.TheVariants.{Nothing, One, Several}
use Rattle.name_resolve.proofs.Meanings.{meaning_is}
use Rattle.name_resolve.proofs.knowledge.Knowledge.meaning.Goals as goal

pub returns-in-One : goal.returns-in-One
returns-in-One c behind now before s =
    meaning_is behind now c.args.word.now None (One c.in-One.found) _ (c.in-None.ensures now c.args.word.now s c.symbol-symbol.ensures) (c.in-One.ensures now c.args.word.now s c.symbol-symbol.ensures) refl

pub returns-in-Several : goal.returns-in-Several
returns-in-Several c behind now before s =
    meaning_is behind now c.args.word.now None Several _ (c.in-None.ensures now c.args.word.now s c.symbol-symbol.ensures) (c.in-Several.ensures now c.args.word.now s c.symbol-symbol.ensures) refl

pub returns-in-Nothing : goal.returns-in-Nothing
returns-in-Nothing c behind now before s =
    meaning_is behind now c.args.word.now None Nothing c.why_unseen.result (c.in-None.ensures now c.args.word.now s c.symbol-symbol.ensures) (c.in-Nothing.ensures now c.args.word.now s c.symbol-symbol.ensures)
    (c.why_unseen.ensures behind now before s)
