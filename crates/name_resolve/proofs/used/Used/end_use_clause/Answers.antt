use Rattle.name_resolve.specs.Stands.{given_regions}
use Rattle.name_resolve.proofs.RegionSets.{used_ended}
use Rattle.name_resolve.proofs.used.Used.end_use_clause.Goals as goal

pub returns : goal.returns
returns c clauses s =
    used_ended (given_regions c.args.self.now.given) c.args.self.now.own c.add.new.self c.args.all.now clauses c.args.region c.args.packages.now c.in_ok-add.ensures s
