use Rattle.flow_acts.specs.Frames.{site}
use Rattle.flow_acts.specs.Plans.{tree}
use Rattle.flow_acts.proofs.OtherNodes.{looked_other}
use Rattle.flow_acts.proofs.writer.ActWriter.looked.Goals as goal

pub returns-in_default : goal.returns-in_default
returns-in_default c = record {
  acts = λ equal. rw c.node.ensures.tree (looked_other (site c.args.self.now) (tree c.args.self.now) c.node.result.now c.in_default.not-Name equal);
  below = tt;
}
