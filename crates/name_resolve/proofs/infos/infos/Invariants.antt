use Rattle.std.proofs.Common.{◌≡◌, map, take}
use Rattle.name_resolve.specs.Infos.{info}
use Rattle.name_resolve.proofs.infos.infos.Given as goal

abbrev pub invariant-turns : goal.invariant-turns
invariant-turns l = l.made.items ≡ map info (take l.declaration-index l.declarations)
