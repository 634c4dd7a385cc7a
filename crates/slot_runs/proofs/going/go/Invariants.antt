use Rattle.std.proofs.Common.{◌≡◌, ◌≤◌, ◌-◌}
use Rattle.slot_runs.specs.declared.stepping.Turn.TheVariants as turn
use Rattle.slot_runs.specs.Goings.{LeadsOn}
use Rattle.slot_runs.proofs.going.go.Given as goal

abbrev pub invariant-rounds : goal.invariant-rounds
invariant-rounds g l =
    LeadsOn (g.S.Stepping.setting l.initial.run) l.limit (g.S.Stepping.untold l.initial.run) (g.S.Stepping.Stands l.initial.run) l.made turn.On (g.S.Stepping.untold l.run) (g.S.Stepping.Stands l.run)
    × (g.S.Stepping.setting l.run ≡ g.S.Stepping.setting l.initial.run)
    × (l.made ≤ l.limit)
    × (g.S.Stepping.lent l.run ≡ g.S.Stepping.lent l.initial.run)

abbrev pub decreases-rounds : goal.decreases-rounds
decreases-rounds g l = l.limit - l.made
