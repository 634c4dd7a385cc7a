use Rattle.std.proofs.Common.{refl, ap, length}
use Rattle.std.specs.Option.{option_map}
use Rattle.std.proofs.lemmas.Option.{slice_get_read}
use Rattle.name_events.specs.declared.declaration.Declaration.{Declaration}
use Rattle.name_resolve.proofs.RegionSets.{region_added}
use Rattle.name_resolve.proofs.region_sets.add_region.Goals as goal

pub returns : goal.returns
returns c front before s =
    let there = c.in-Some.ensures.lookup in
    region_added c.args.all.now front c.args.set.now.keys c.insert.new.self.keys before c.args.number c.in-Some.declaration.now.own_region
    (ap (option_map (λ (d : Declaration). d.own_region)) (slice_get_read c.args.all.now (length c.args.all.now) c.args.number c.in-Some.declaration.now refl there.3.0 there.1))
    c.in_ok-insert.ensures.keys s
