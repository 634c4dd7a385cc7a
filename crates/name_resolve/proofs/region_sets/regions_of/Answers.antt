use Rattle.std.proofs.Common.{subst, sym, []}
use Rattle.name_resolve.specs.Stands.{AreRegionsOf}
use Rattle.name_resolve.proofs.RegionSets.{none_are}
use Rattle.name_resolve.proofs.region_sets.regions_of.Goals as goal

pub returns : goal.returns
returns c =
    c.in_ok-add_regions.ensures [] []
    (subst (AreRegionsOf c.args.all.now []) (sym c.new-made.ensures.empty) (none_are c.args.all.now))
