use Rattle.name_resolve.specs.Stands.{given_uses}
use Rattle.name_resolve.proofs.Lists.{lone_pushed}
use Rattle.name_resolve.proofs.UsesInRegions.{begun}
use Rattle.name_resolve.proofs.regions.Regions.begin_unit.Goals as goal

pub returns : goal.returns
returns c count enclosing clauses packages s = record {
  count = s.count;
  around = lone_pushed _ _ _ c.in_ok-push.ensures.items c.clear-2.ensures.items;
  uses = λ r. begun (given_uses c.args.given) (given_uses c.args.self.now.given) c.clear.new.self c.args.self.now.uses clauses r (c.in_ok-clear.ensures r) (s.uses r);
  named = s.named;
}
