use Rattle.std.proofs.Common.{reverse, take}
use Rattle.name_resolve.specs.Sightings.{OnlyUsed}
use Rattle.name_resolve.specs.Tables.{is_used}
use Rattle.name_resolve.specs.Stands.{given_regions}
use Rattle.name_resolve.proofs.used.Used.only_used.Given as goal

abbrev pub invariant-turns : goal.invariant-turns
invariant-turns l =
    OnlyUsed (is_used (given_regions l.self.given) l.self.own (reverse l.around)) (take l.region-index l.regions) l.found
