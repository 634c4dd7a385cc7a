use Rattle.std.proofs.Common.{refl}
use Rattle.name_resolve.proofs.knowledge.Knowledge.new.Goals as goal

pub returns : goal.returns
returns c = record {
  declarations = c.in_ok-predefined.ensures;
  regions = c.new.ensures;
  withs = c.new-3.ensures;
  contexts = c.new-4.ensures _;
  used = c.new-2.ensures _;
  own_package = refl;
  in_own_body = refl;
  body_names = c.new-5.ensures.empty;
  components = c.new-6.ensures.empty;
}
