use Rattle.name_resolve.specs.Tables.{in_use_at}
use Rattle.name_resolve.proofs.Seeing.{region_next}
use Rattle.name_resolve.proofs.sighting.+see_regions.Goals as goal

pub returns-in-Some : goal.returns-in-Some
returns-in-Some t c now w clauses s has uses =
    region_next now w clauses c.args.so_far c.see_region-seen.result c.see_regions.result c.args.around.now c.in-Some.outer.now c.in-Some.inner.now
    (in_use_at c.args.given.now c.args.uses.now c.in-Some.inner.now.region)
    c.in-Some.ensures.cases.0 (uses c.in-Some.inner.now.region) (c.see_region-seen.ensures now w s has) (c.see_regions.ensures now w clauses s has uses)
