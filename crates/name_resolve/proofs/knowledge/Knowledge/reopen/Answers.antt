use Rattle.std.proofs.Common.{ap, ◌∙◌, not}
use Rattle.name_events.specs.Declarations.{added_name, has_name}
use Rattle.name_resolve.proofs.knowledge.Knowledge.reopen.Goals as goal

pub returns : goal.returns
returns c now s = record {
  declarations = s.declarations;
  regions = c.in_ok-reopen.ensures _ _ _ _ s.regions;
  withs = s.withs;
  contexts = s.contexts;
  used = s.used;
  own_package = s.own_package;
  in_own_body = λ j. not ((c.contains.ensures ∙ ap (has_name c.args.id.now.name) s.body_names) j);
  body_names = c.in_ok-insert.ensures.keys ∙ (λ j. added_name (s.body_names j) (c.in_ok-clone.ensures.cases j));
  components = s.components;
}
