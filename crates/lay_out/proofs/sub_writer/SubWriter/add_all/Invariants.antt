use Rattle.std.proofs.Common.{drop}
use Rattle.lay_out.specs.Subs.{flow_subs, site, subs_in}
use Rattle.lay_out.proofs.Turns.{IsPart}
use Rattle.lay_out.proofs.sub_writer.SubWriter.add_all.Given as goal

abbrev pub invariant-subs : goal.invariant-subs
invariant-subs l =
    IsPart (site l.self) (flow_subs l.self l.initial.made) l.initial.made.types.items (subs_in l.self l.subs) (flow_subs l.self l.made)
    l.made.types.items (subs_in l.self (drop l.sub-index l.subs))
