use Rattle.std.proofs.Common.{◌≡◌, take}
use Rattle.traversal_funcs.specs.Lendings.{lendings_of}
use Rattle.traversal_funcs.proofs.lending.lendings.Given as goal

abbrev pub invariant-points : goal.invariant-points
invariant-points l = l.made.items ≡ lendings_of (take l.point-index l.points)
