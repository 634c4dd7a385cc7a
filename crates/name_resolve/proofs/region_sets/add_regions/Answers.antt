use Rattle.std.proofs.Common.{subst, sym, ap, ◌∙◌, take, ◌++◌, arith}
use Rattle.std.proofs.lemmas.List.{append_assoc, take_more}
use Rattle.name_resolve.specs.Stands.{AreRegionsOf}
use Rattle.name_resolve.proofs.Lists.{take_whole}
use Rattle.name_resolve.proofs.region_sets.add_regions.Goals as goal

pub turns-preserved : goal.turns-preserved
turns-preserved c front before s =
    subst (λ ns. AreRegionsOf c.args.all.now ns (front ++ c.add_region.new.set.keys))
    (append_assoc before (take c.turns.number-index c.args.packages.now) _
    ∙ ap (λ xs. before ++ xs) (sym (take_more c.args.packages.now c.turns.number-index _ c.turns-test.true)))
    (c.in_ok-add_region.ensures front (before ++ take c.turns.number-index c.args.packages.now) (c.turns.invariant front before s))

pub returns : goal.returns
returns c front before s =
    subst (λ xs. AreRegionsOf c.args.all.now (before ++ xs) (front ++ c.turns.set.keys))
    (take_whole c.args.packages.now c.turns.number-index (omega (arith, c.turns-test.false)))
    (c.turns.invariant front before s)
