use Rattle.std.proofs.Common.{◌∙◌}
use Rattle.name_events.specs.Declarations.{added_name}
use Rattle.name_resolve.proofs.knowledge.Knowledge.open_own_body.Goals as goal

pub returns : goal.returns
returns c now s = record {
  declarations = s.declarations;
  regions = c.in_ok-open.ensures _ _ _ _ s.regions;
  withs = s.withs;
  contexts = s.contexts;
  used = s.used;
  own_package = s.own_package;
  in_own_body = s.in_own_body;
  body_names = c.in_ok-insert.ensures.keys ∙ (λ j. added_name (s.body_names j) (c.in_ok-clone.ensures.cases j));
  components = s.components;
}
