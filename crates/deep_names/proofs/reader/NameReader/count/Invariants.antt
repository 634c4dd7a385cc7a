use Rattle.std.proofs.Common.{◌≡◌, ◌+◌, length, ◌≤◌}
use Rattle.flow_paths.specs.Names.{selectors}
use Rattle.deep_names.specs.Turns.{tree}
use Rattle.deep_names.proofs.reader.NameReader.count.Given as goal

abbrev pub invariant-steps : goal.invariant-steps
invariant-steps l =
    (l.count + l.at ≤ l.steps)
    × (l.count + length (selectors (tree l.self l.at)) ≡ length (selectors (tree l.self l.steps)))

abbrev pub decreases-steps : goal.decreases-steps
decreases-steps l = l.at
