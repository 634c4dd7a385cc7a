use Rattle.std.proofs.Common.{◌≡◌}
use Rattle.place_names.specs.Names.{extend}
use Rattle.flow_paths.specs.Names.{name_of, selectors}
use Rattle.flow_acts.specs.Plans.{tree}
use Rattle.flow_acts.proofs.writer.ActWriter.name.Given as goal

abbrev pub invariant-steps : goal.invariant-steps
invariant-steps l = extend l.name (selectors (tree l.self l.at)) ≡ name_of l.fn.object (tree l.self l.fn.steps)

abbrev pub decreases-steps : goal.decreases-steps
decreases-steps l = l.at
