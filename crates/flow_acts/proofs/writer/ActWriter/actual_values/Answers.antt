use Rattle.std.proofs.Common.{◌≡◌, [], drop, List}
use Rattle.flow_paths.specs.Objects as objects
use Rattle.flow_paths.specs.Acts.{actual_values}
use Rattle.flow_acts.specs.declared.writer.ActWriter.{ActWriter}
use Rattle.flow_acts.specs.Frames.{site}
use Rattle.flow_acts.specs.Plans.{tree}
use Rattle.flow_acts.specs.Ways.{ways_of}
use Rattle.flow_acts.proofs.Ways.{values_none, none_left}
use Rattle.flow_acts.proofs.writer.ActWriter.actual_values.Goals as goal

pub returns-in_default : goal.returns-in_default
returns-in_default c =
    let w : ActWriter = c.args.self.now in
    let ways : List objects.Passing = ways_of (drop c.ways.way-index c.args.ways.now) in
    let none : actual_values (site w) ways (tree w c.ways.at) ≡ [] =
    rw c.node.ensures.tree (values_none (site w) ways (tree w) c.node.result.now c.in_default.not-More) in
    none_left _ _ _ none c.ways.invariant
