use Rattle.std.proofs.Common.{◌≡◌, ◌++◌, false, drop}
use Rattle.flow_acts.specs.Depths.{has_deep}
use Rattle.flow_acts.specs.Plans.{acts_by}
use Rattle.flow_acts.proofs.writer.ActWriter.made_all.Given as goal

abbrev pub invariant-plan : goal.invariant-plan
invariant-plan l =
    (l.acts ++ acts_by l.self (drop l.planned-index l.plan) ≡ acts_by l.self l.plan)
    × (has_deep l.acts ≡ false)
