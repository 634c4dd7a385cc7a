use Rattle.std.proofs.Common.{◌≡◌, ◌++◌, drop}
use Rattle.flow_paths.specs.Acts.{actual_values}
use Rattle.flow_acts.specs.Ways.{ways_of}
use Rattle.flow_acts.specs.Frames.{site}
use Rattle.flow_acts.specs.Plans.{tree, acts_by}
use Rattle.flow_acts.proofs.writer.ActWriter.actual_values.Given as goal

abbrev pub invariant-ways : goal.invariant-ways
invariant-ways l =
    acts_by l.self l.to.items ++ actual_values (site l.self) (ways_of (drop l.way-index l.ways)) (tree l.self l.at)
    ≡ acts_by l.self l.initial.to.items ++ actual_values (site l.self) (ways_of l.ways) (tree l.self l.initial.at)
