use Rattle.std.proofs.Common.{ap, ◌∙◌, refl, reverse, []}
use Rattle.name_resolve.specs.Tables.{in_use_at}
use Rattle.name_resolve.proofs.UsesInRegions.{none_in_use}
use Rattle.name_resolve.proofs.regions.Regions.new.Goals as goal

pub returns : goal.returns
returns c = record {
  count = refl;
  around = ap reverse c.new.ensures.items;
  uses = λ r. ap (λ lists. in_use_at [] lists r) c.new-2.ensures ∙ none_in_use r;
  named = c.new-3.ensures.items;
}
