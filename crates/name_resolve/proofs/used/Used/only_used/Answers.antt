use Rattle.std.proofs.Common.{subst, sym, reverse, arith}
use Rattle.std.proofs.lemmas.List.{take_more}
use Rattle.name_resolve.specs.Sightings.{OnlyUsed}
use Rattle.name_resolve.specs.Tables.{is_used}
use Rattle.name_resolve.specs.Stands.{given_regions}
use Rattle.name_resolve.proofs.Lists.{take_whole}
use Rattle.name_resolve.proofs.used.Used.only_used.Goals as goal

pub turns-preserved : goal.turns-preserved
turns-preserved c =
    subst (λ xs. OnlyUsed (is_used (given_regions c.args.self.now.given) c.args.self.now.own (reverse c.args.around.now)) xs c.with_next-found.result)
    (sym (take_more c.args.regions.now c.turns.region-index _ c.turns-test.true))
    (c.with_next-found.ensures _ c.turns.invariant)

pub returns : goal.returns
returns c =
    subst (λ xs. OnlyUsed (is_used (given_regions c.args.self.now.given) c.args.self.now.own (reverse c.args.around.now)) xs c.turns.found)
    (take_whole c.args.regions.now c.turns.region-index (omega (arith, c.turns-test.false)))
    c.turns.invariant
