use Rattle.std.proofs.Common.{◌≡◌, [], drop, List}
use Rattle.flow_paths.specs.Objects as objects
use Rattle.flow_paths.specs.Acts.{call_spots}
use Rattle.flow_acts.specs.declared.writer.ActWriter.{ActWriter}
use Rattle.flow_acts.specs.Frames.{site}
use Rattle.flow_acts.specs.Plans.{tree}
use Rattle.flow_acts.specs.Ways.{ways_of}
use Rattle.flow_acts.proofs.DeepSpots.{call_spots_none, no_spots_left}
use Rattle.flow_acts.proofs.writer.ActWriter.call_spots.Goals as goal

pub returns-in_default-clause-spots : goal.returns-in_default-clause-spots
returns-in_default-clause-spots c =
    let w : ActWriter = c.args.self.now in
    let ways : List objects.Passing = ways_of (drop c.ways.way-index c.args.ways.now) in
    let none : call_spots (site w) ways (tree w c.ways.at) c.ways.index ≡ [] =
    rw c.node.ensures.tree (call_spots_none (site w) ways (tree w) c.node.result.now c.ways.index c.in_default.not-More) in
    no_spots_left _ _ _ none c.ways.invariant
