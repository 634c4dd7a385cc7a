use Rattle.std.proofs.Common.{◌≡◌, ◌++◌, drop, map}
use Rattle.flow_paths.specs.Acts.{spot}
use Rattle.flow_acts.proofs.leaks.add_spots.Given as goal

abbrev pub invariant-parts : goal.invariant-parts
invariant-parts l =
    l.to ++ map (spot l.pos l.base l.before) (drop l.part-index l.parts)
    ≡ l.initial.to ++ map (spot l.pos l.base l.before) l.parts
