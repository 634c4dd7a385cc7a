use Rattle.std.proofs.Common.{subst, ◌∙◌, ◌++◌, map}
use Rattle.name_events.specs.declared.event.Clause.TheVariants as clause
use Rattle.name_events.specs.Known.{selected_along}
use Rattle.name_events.specs.KnownBehind.{named_in_use}
use Rattle.name_resolve.specs.Stands.{RegionsAre}
use Rattle.name_resolve.proofs.knowledge.Knowledge.use_name.Goals as goal

pub returns : goal.returns
returns c now s = record {
  declarations = s.declarations;
  regions = subst (λ found. RegionsAre c.use_found.new.regions now.region_count now.open_regions now.uses (now.using ++ named_in_use clause.Use found))
      (c.selected_along-found.ensures now s ∙ (λ j. selected_along now (c.seen-first.ensures now s j) (map (λ id. id.name) (c.as_slice.ensures j))))
      (c.in_ok-use_found.ensures _ _ _ _ s.regions);
  withs = s.withs;
  contexts = s.contexts;
  used = s.used;
  own_package = s.own_package;
  in_own_body = s.in_own_body;
  body_names = s.body_names;
  components = s.components;
}
