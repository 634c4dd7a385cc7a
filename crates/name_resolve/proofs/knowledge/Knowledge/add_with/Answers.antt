use Rattle.std.proofs.Common.{subst, ◌++◌, map}
use Rattle.name_events.specs.KnownBehind.{named_in_with}
use Rattle.name_resolve.specs.Stands.{WithsStand}
use Rattle.name_resolve.proofs.knowledge.Knowledge.add_with.Goals as goal

pub returns : goal.returns
returns c now s = record {
  declarations = s.declarations;
  regions = s.regions;
  withs = subst (WithsStand c.add_named.new.withs)
      (λ j. now.withs ++ named_in_with now.ended (c.ended_in-found.ensures now s.declarations j) (map (λ id. id.name) (c.as_slice.ensures j)))
      (c.in_ok-add_named.ensures now now.withs s.declarations s.withs);
  contexts = s.contexts;
  used = s.used;
  own_package = s.own_package;
  in_own_body = s.in_own_body;
  body_names = s.body_names;
  components = s.components;
}
