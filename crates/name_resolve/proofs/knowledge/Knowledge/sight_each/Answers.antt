use Rattle.std.proofs.Common.{ap, ◌∙◌, reverse}
use Rattle.std.specs.List.{flat_map}
use Rattle.name_events.specs.Known.{used_in, visible_members}
use Rattle.name_resolve.specs.declared.sighting.Sighting.TheVariants.{Nothing}
use Rattle.name_resolve.specs.Sightings.{sighted_all}
use Rattle.name_resolve.specs.Tables.{in_use_at}
use Rattle.name_resolve.proofs.knowledge.Knowledge.sight_each.Goals as goal

pub returns : goal.returns
returns c now w s has =
    c.see_regions.ensures now w now.uses s.declarations has (λ region. ap (λ given. in_use_at given c.args.self.now.regions.uses region) c.given_uses.ensures ∙ s.regions.uses region)
    ∙ ap (λ fs. sighted_all Nothing (visible_members now (flat_map (λ inner. used_in now.uses inner.region) fs) w))
    (ap reverse c.deref.ensures.value ∙ s.regions.around)
