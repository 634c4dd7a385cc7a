use Rattle.std.proofs.Common.{◌≡◌, ◌++◌, drop}
use Rattle.flow_paths.specs.Acts.{call_spots}
use Rattle.flow_acts.specs.Frames.{site}
use Rattle.flow_acts.specs.Plans.{tree}
use Rattle.flow_acts.specs.Ways.{ways_of}
use Rattle.flow_acts.proofs.writer.ActWriter.call_spots.Given as goal

abbrev pub invariant-ways : goal.invariant-ways
invariant-ways l =
    l.to ++ call_spots (site l.self) (ways_of (drop l.way-index l.ways)) (tree l.self l.at) l.index
    ≡ l.initial.to ++ call_spots (site l.self) (ways_of l.ways) (tree l.self l.initial.at) l.initial.index
