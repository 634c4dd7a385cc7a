use Rattle.std.proofs.Common.{◌≡◌, ◌≤◌, ◌-◌, map, string_bytes}
use Rattle.slot_runs.specs.Turns.{Inside, state_of}
use Rattle.slot_runs.specs.Underway.{IsUnderway}
use Rattle.slot_runs.specs.Answers.{CanRun}
use Rattle.slot_runs.proofs.whole.run_whole.Given as goal

abbrev pub invariant-steps : goal.invariant-steps
invariant-steps g l =
    ((x : Inside) → CanRun l.limit (g.S.Stepping.setting l.initial.run) (g.S.Stepping.untold l.initial.run) (g.S.Stepping.Stands l.initial.run) x
    → IsUnderway (map string_bytes l.files) (g.S.Stepping.setting l.initial.run)
    (record { output = g.K.Sink.written l.initial.out; lines = g.K.Sink.written l.initial.err }) (record { output = g.K.Sink.written l.out; lines = g.K.Sink.written l.err })
    l.told.lines.items l.told.leaked (state_of (g.S.Stepping.untold l.initial.run) x) l.steps (g.S.Stepping.untold l.run) (g.S.Stepping.Stands l.run))
    × (g.S.Stepping.setting l.run ≡ g.S.Stepping.setting l.initial.run)
    × (l.steps ≤ l.limit)
    × (g.K.Sink.faults l.out ≡ g.K.Sink.faults l.initial.out)
    × (g.K.Sink.faults l.err ≡ g.K.Sink.faults l.initial.err)
    × (g.S.Stepping.lent l.run ≡ g.S.Stepping.lent l.initial.run)

abbrev pub decreases-steps : goal.decreases-steps
decreases-steps g l = l.limit - l.steps
