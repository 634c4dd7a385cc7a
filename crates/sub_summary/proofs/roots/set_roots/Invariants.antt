use Rattle.std.proofs.Common.{◌≡◌, ◌++◌, map}
use Rattle.sub_summary.specs.Gathered.{rooted_point}
use Rattle.sub_summary.proofs.roots.set_roots.Given as goal

abbrev pub invariant-points : goal.invariant-points
invariant-points l =
    l.made ++ map (rooted_point l.roots) l.point-iterator.rest.items ≡ map (rooted_point l.roots) l.initial.point-iterator.rest.items
