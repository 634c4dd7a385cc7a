use Rattle.std.proofs.Common.{take}
use Rattle.call_effects.specs.Uses.{acts_use}
use Rattle.call_effects.specs.Rows.{IsFiled}
use Rattle.call_effects.proofs.uses.file_acts.Given as goal

abbrev pub invariant-acts : goal.invariant-acts
invariant-acts l = IsFiled l.p (λ g. acts_use l.writes g (take l.placed-index l.acts)) l.initial.rows.items l.rows.items
