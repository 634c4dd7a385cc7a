use Rattle.name_resolve.proofs.knowledge.Knowledge.open_region.Goals as goal

pub returns : goal.returns
returns c now s = record {
  declarations = s.declarations;
  regions = c.in_ok-open.ensures _ _ _ _ s.regions;
  withs = s.withs;
  contexts = s.contexts;
  used = s.used;
  own_package = s.own_package;
  in_own_body = s.in_own_body;
  body_names = s.body_names;
  components = s.components;
}
