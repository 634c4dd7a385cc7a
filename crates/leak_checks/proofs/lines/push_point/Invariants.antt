use Rattle.std.proofs.Common.{◌≡◌, ◌++◌, map, take}
use Rattle.leak_checks.specs.Lines.{line_of}
use Rattle.leak_checks.proofs.lines.push_point.Given as goal

abbrev pub invariant-spots : goal.invariant-spots
invariant-spots l = l.lines.items ≡ l.initial.lines.items ++ map (line_of l.tree l.point.acts) (take l.spot-index l.point.leaks)
