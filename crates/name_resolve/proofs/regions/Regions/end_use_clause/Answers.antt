use Rattle.std.proofs.Common.{◌∙◌}
use Rattle.name_events.specs.Known.{region_of}
use Rattle.name_resolve.specs.Stands.{given_uses}
use Rattle.name_resolve.proofs.UsesInRegions.{ended}
use Rattle.name_resolve.proofs.regions.Regions.end_use_clause.Goals as goal

pub returns : goal.returns
returns c count enclosing clauses packages s = record {
  count = s.count;
  around = s.around;
  uses = λ r. ended (given_uses c.args.self.now.given) c.add.new.self c.args.self.now.uses clauses (region_of enclosing) c.here-region.result.region packages c.as_slice.result.now r
      (c.in_ok-add.ensures r) (c.here-region.ensures.region count enclosing clauses packages s) (c.as_slice.ensures.value ∙ s.named) (s.uses r);
  named = c.clear.ensures.items;
}
