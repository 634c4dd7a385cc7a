use Rattle.name_resolve.proofs.RegionSets.{used_begun}
use Rattle.name_resolve.specs.Stands.{given_regions}
use Rattle.name_resolve.proofs.used.Used.begin_unit.Goals as goal

pub returns : goal.returns
returns c all clauses context g s =
    used_begun (given_regions c.args.self.now.given) (given_regions c.args.given) c.args.self.now.own c.clear.new.self all clauses context.uses c.in_ok-clear.ensures g.regions s
