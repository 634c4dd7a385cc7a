use Rattle.name_resolve.proofs.knowledge.Knowledge.end_in.Goals as goal

pub returns : goal.returns
returns c now s = record {
  declarations = c.in_ok-end.ensures _ _ _ _ s.declarations;
  regions = s.regions;
  withs = s.withs;
  contexts = s.contexts;
  used = s.used;
  own_package = s.own_package;
  in_own_body = s.in_own_body;
  body_names = s.body_names;
  components = s.components;
}
