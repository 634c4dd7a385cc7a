use Rattle.std.proofs.Common.{refl, subst, not, [], ◌∷◌, ◌++◌, map, filter, nat_eq}
use Rattle.name_events.specs.declared.declaration.RegionPart.TheVariants as part
use Rattle.name_resolve.specs.Stands.{all_of, RegionsAre}
use Rattle.name_resolve.proofs.knowledge.Knowledge.begin_unit.Goals as goal

pub returns : goal.returns
returns c now s = record {
  declarations = s.declarations;
  regions = subst (λ ns. RegionsAre c.begin_unit.new.self now.region_count ((record { region = 0; part = part.Visible }) ∷ []) (filter (λ u. not (nat_eq 0 u.0)) now.uses ++ map (λ p. (0, p)) ns) now.using)
      (c.in_ok-given_to.ensures (all_of now) now.contexts s.contexts).uses (c.in_ok-begin_unit.ensures _ _ _ _ s.regions);
  withs = c.begin_unit-2.ensures (all_of now) _ (c.in_ok-given_to-2.ensures (all_of now) now.contexts s.contexts);
  contexts = s.contexts;
  used = c.in_ok-begin_unit-2.ensures (all_of now) now.uses _ (c.in_ok-given_to-3.ensures (all_of now) now.contexts s.contexts) s.used;
  own_package = c.number_of-self.ensures;
  in_own_body = refl;
  body_names = s.body_names;
  components = s.components;
}
