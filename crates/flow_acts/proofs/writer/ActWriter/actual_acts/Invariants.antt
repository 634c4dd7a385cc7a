use Rattle.std.proofs.Common.{◌≡◌, ◌++◌, drop}
use Rattle.flow_paths.specs.Acts.{actual_acts}
use Rattle.flow_acts.specs.Ways.{ways_of}
use Rattle.flow_acts.specs.Plans.{tree, acts_by}
use Rattle.flow_acts.proofs.writer.ActWriter.actual_acts.Given as goal

abbrev pub invariant-ways : goal.invariant-ways
invariant-ways l =
    acts_by l.self l.to.items ++ actual_acts (ways_of (drop l.way-index l.ways)) (tree l.self l.at)
    ≡ acts_by l.self l.initial.to.items ++ actual_acts (ways_of l.ways) (tree l.self l.initial.at)
