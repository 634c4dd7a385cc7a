-- Leak checks that fail are told alike; and what is done at a place that both sides find.
use Rattle.std.proofs.Common.{◌≡◌, List, ◌++◌, sym, ap, subst, ◌∙◌, ℕ, ℤ}
use Rattle.std.specs.Prelude.{flat_map}
use Rattle.flow_paths.specs.Laid.{FlowProgram}
use Rattle.machine.specs.Memory.{Memory, Place}
use Rattle.machine.specs.Evaluate.{Evaluated}
use Rattle.machine.specs.States.{Leak}
use Rattle.machine.specs.States as machine
use Rattle.machine.specs.Step as machine_step
use Rattle.run_codes.specs.Codes.{Does, Finish}
use Rattle.run_codes.specs.Flat.{Got, Given, Stops, Broken, Spot}
use Rattle.run_codes.specs.Points.{State, Outcome, start, on_got}
use Rattle.run_codes.specs.Points as points
use Rattle.run_codes.specs.Related.{IsPlace, IsThere, SpotSame}
use Rattle.run_points.specs.Outcomes.{IsAlike}
use Rattle.run_points.specs.States.{Laid, StateStands}
use Rattle.run_points.specs.Turns.{Turns, turn, flat_turn, seen, TurnStands}
use Rattle.run_points.proofs.Ends.{stopped_alike}

pub leaking_stands : (program : FlowProgram) (s : machine.State) (g : State) (checks : List (List Leak)) (leaks : List Leak) → leaks ≡ flat_map (λ l. l) checks → StateStands program s g
    → StateStands program (machine_step.leaking checks s) (points.leaking leaks g)
leaking_stands program s g checks leaks same is = record {
  laid = is.laid;
  memory = is.memory;
  frames = is.frames;
  runs = is.runs;
  at = is.at;
  output = is.output;
  leaks = ap (λ l. l ++ leaks) is.leaks ∙ ap (λ l. s.leaks ++ l) same;
  steps = is.steps;
}

-- A place is found, and the step goes on there.
pub spot_alike : (b : Turns) (laid : Laid) → TurnStands b laid → (d : Does) (k t : ℕ) (ev : Evaluated Place) (got : Got Spot) (f : Place → Memory → machine.Outcome) (g : Spot → Outcome)
    → SpotSame (seen b) k t ev got
    → ((w : Spot) (zs : List ℤ) (p : IsPlace (seen b) k t w zs ev) → IsThere (seen b) t w zs → IsAlike (StateStands b.program) (f p.p b.memory) (g w))
    → IsAlike (StateStands b.program) (machine_step.evaluated (turn b) ev f) (on_got (flat_turn b d) (start (flat_turn b Finish)) got g)
spot_alike b laid is d k t ev (Given w) f g same on =
    subst (λ v. IsAlike (StateStands b.program) (machine_step.evaluated (turn b) v f) (g w)) (sym same.1.gives) (on w same.0 same.1 same.2)
spot_alike b laid is d k t ev (Stops stop) f g same on = stopped_alike b laid is d stop ev f same
spot_alike b laid is d k t ev Broken f g same on = absurd same
