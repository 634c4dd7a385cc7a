use Rattle.std.proofs.Common.{◌≡◌, ap, sym, subst, map, length, ◌<◌, ◌++◌, arith}
use Rattle.std.proofs.lemmas.List.{length-map}
use Rattle.name_resolve.specs.Tables.{listed_at}
use Rattle.name_resolve.specs.Stands.{AreRegionsOf}
use Rattle.name_resolve.proofs.RegionSets.{set_added}
use Rattle.name_resolve.proofs.region_sets.RegionSets.add.Goals as goal

pub returns : goal.returns
returns c n front before s =
    let within : c.args.inner < length c.self.inside.sets.items = omega (arith, c.in_ok-reach.ensures.room, ap length c.self.view_is, length-map c.self.inside.sets.items (λ set. set.keys)) in
    let same : listed_at (map (λ set. set.keys) c.self.inside.sets.items) n ≡ listed_at c.args.self.now n =
    cc (c.self.view_is, c.in_ok-reach.ensures.same n) in
    set_added (λ set. set.keys) c.args.all.now c.self.inside.sets.items c.args.inner c.add_regions.new.set c.index_mut.result.now c.args.packages.now n front before
    within c.index_mut.ensures.value (c.in_ok-add_regions.ensures front before)
    (subst (λ xs. AreRegionsOf c.args.all.now before (front ++ xs)) (sym same) s)
