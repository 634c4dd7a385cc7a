use Rattle.std.proofs.Common.{subst, ap, ◌∙◌, reverse, [], option_to_list}
use Rattle.std.specs.Option.{option_map_or}
use Rattle.name_resolve.specs.declared.sighting.Sighting.TheVariants.{Nothing}
use Rattle.name_resolve.specs.declared.used.Holder.TheVariants as holder
use Rattle.name_resolve.specs.Sightings.{sighted_all, OnlyUsed}
use Rattle.name_resolve.specs.Tables.{is_used, listed_at}
use Rattle.name_resolve.specs.Stands.{given_regions}
use Rattle.name_resolve.proofs.Holders.{seen_in_one, seen_nowhere}
use Rattle.name_resolve.proofs.knowledge.Knowledge.sight_held.Goals as goal

pub returns-in-Nowhere : goal.returns-in-Nowhere
returns-in-Nowhere c now w s has holders =
    let k = c.args.self.now in
    seen_nowhere k.declarations k.used now w (reverse c.deref.result.now) s.declarations s.used (ap reverse c.deref.ensures.value ∙ s.regions.around)
    (subst (λ hs. OnlyUsed (is_used (given_regions k.used.given) k.used.own (reverse c.deref.result.now)) hs holder.Nowhere)
    (holders ∙ ap (λ symbol. option_map_or (listed_at k.declarations.holders) symbol []) has)
    c.in-Nowhere.ensures)

pub returns-in-Only : goal.returns-in-Only
returns-in-Only c now w s has holders =
    let k = c.args.self.now in
    c.sight_one.ensures
    ∙ ap (λ found. sighted_all Nothing (option_to_list found)) (c.visible_in.ensures now w s.declarations has)
    ∙ seen_in_one k.declarations k.used now w (reverse c.deref.result.now) c.in-Only.region s.declarations s.used (ap reverse c.deref.ensures.value ∙ s.regions.around)
    (subst (λ hs. OnlyUsed (is_used (given_regions k.used.given) k.used.own (reverse c.deref.result.now)) hs (holder.Only c.in-Only.region))
    (holders ∙ ap (λ symbol. option_map_or (listed_at k.declarations.holders) symbol []) has)
    c.in-Only.ensures)
