use Rattle.std.proofs.Common.{◌≡◌, ◌≤◌, ◌++◌}
use Rattle.flow_paths.specs.Acts.{acts_in}
use Rattle.flow_acts.specs.Frames.{site}
use Rattle.flow_acts.specs.Plans.{tree, acts_by}
use Rattle.flow_acts.proofs.writer.ActWriter.+values.Given as goal

abbrev pub decreases-values : goal.decreases-values
decreases-values l = l.e

abbrev pub invariant-parts : goal.invariant-parts
invariant-parts l =
    (l.at ≤ l.e)
    × (acts_by l.self l.to.items ++ acts_in (site l.self) (tree l.self l.at)
    ≡ acts_by l.self l.initial.to.items ++ acts_in (site l.self) (tree l.self l.e))

abbrev pub decreases-parts : goal.decreases-parts
decreases-parts l = l.at
