use Rattle.std.proofs.Common.{refl, ap, sym, ◌∙◌, subst, []}
use Rattle.name_resolve.specs.Tables.{entry_at, searched}
use Rattle.name_resolve.specs.Stands.{StandFor}
use Rattle.name_resolve.proofs.HolderLists.{no_holders}
use Rattle.name_resolve.proofs.Tables.{searched_none}
use Rattle.name_resolve.proofs.declarations.Declarations.new.Goals as goal

pub returns : goal.returns
returns c = record {
  declared = c.new-3.ensures _;
  awaiting = λ r w. ap (λ table. searched c.new.result table r w) c.new-4.ensures ∙ searched_none c.new.result r w;
  awaiting_only = λ r s past. ap (λ table. entry_at table r s) c.new-4.ensures;
  all = c.new-2.ensures.items;
  procedure = refl;
  pending = subst (λ ds. StandFor c.new.result ds []) (sym c.new-5.ensures.items) tt;
  ended = c.new-6.ensures _;
  holders = no_holders _ _ (c.new-6.ensures []);
  completed = c.new-8.ensures.empty;
}
