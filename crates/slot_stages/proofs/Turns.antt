-- What the next step is, and what it comes to.
use Rattle.std.proofs.Common.{◌≡◌, ℕ, ◌+◌, ◌-◌, Bool, List, sym, subst, Option, Some}
use Rattle.std.specs.Prelude.{slice_get}
use Rattle.machine.specs.Evaluate.{Exception}
use Rattle.machine.specs.States.{Ending, Raised}
use Rattle.run_codes.specs.Codes.{Point}
use Rattle.run_codes.specs.Flat.{Raises}
use Rattle.run_codes.specs.Points.{Frame}
use Rattle.handled_runs.specs.Slots.{Slots}
use Rattle.handled_steps.specs.States.{State, Outcome, Goes, Ends, Turn, are_taken, counted, given_up, halted}
use Rattle.handled_steps.specs.Steps.{Done, Turned, SteppedAt, Stepped}
use Rattle.slot_frames.specs.Frames.{AreLatest}
use Rattle.slot_frames.specs.Parts.{outside}
use Rattle.run_results.specs.declared.ran.Ending.{Ending as EndingRow}
use Rattle.run_results.specs.Results.{ending_of}
use Rattle.slot_runs.specs.Turns.{Setting, Untold, Inside, OneStep, NeverFails, GoesOn, IsEnded, IsSeen, bare}
use Rattle.slot_stages.specs.Stages.{Stage, state_of, running, turn_of}
use Rattle.slot_stages.proofs.Sights.{frames_are, are_there}

-- What a run sees of a stage.
abbrev pub inside_of : {R : Type 0} → Stage R → Inside
inside_of r = record { memory = (state_of r).memory; frames = (state_of r).frames; at = (state_of r).at }

abbrev pub untold_of : {R : Type 0} → Stage R → Untold
untold_of r = record { output = r.output; leaks = r.leaks }

-- ---- the next step

-- The step may do what the point does that the frame is at, whose values are there.
pub step_is : {R : Type 0} (c : Setting) (r : Stage R) (p : Point) (k : ℕ) (out : Outcome) → slice_get c.program.points r.stacked.frame.next ≡ Some p → r.kept.input ≡ c.input
    → AreLatest r.stacked p.takes k → Done (turn_of c.table c.program p r) p.does out → OneStep c (state_of r) out
step_is c r p k out there input latest done =
    let turn : List ℕ → Turn =
    λ i. record { table = c.table; program = c.program; input = i; point = p; state = state_of r; frame = running r; outer = outside r.stacked r.kept.waits } in
    let Q : Bool → Type 0 = λ b. Turned b (turn r.kept.input) out in
    let S : Option Point → Type 0 = λ o. SteppedAt c.table c.program c.input (state_of r) (running r) (outside r.stacked r.kept.waits) o out in
    let T : List Frame → Type 0 = λ fs. Stepped c.table c.program c.input (state_of r) fs out in
    let there_is = are_there c.table c.program p r k latest in
    let U : List ℕ → Type 0 = λ i. Turned (are_taken (turn i)) (turn i) out in
    subst T (sym (frames_are r)) (subst S (sym there) (subst U input (subst Q (sym there_is) done)))

-- So it never fails, where the step doesn't.
pub done_fine : {R : Type 0} (c : Setting) (r : Stage R) (p : Point) (k : ℕ) → slice_get c.program.points r.stacked.frame.next ≡ Some p → r.kept.input ≡ c.input
    → AreLatest r.stacked p.takes k → NeverFails (OneStep c (state_of r)) → NeverFails (Done (turn_of c.table c.program p r) p.does)
done_fine c r p k there input latest fine = λ out done. fine out (step_is c r p k out there input latest done)

-- ---- what it comes to

-- It goes on with this state.
pub turns_on : {R : Type 0} (c : Setting) (r s : Stage R) (t : State) (Stands : Inside → Type 0) → OneStep c (state_of r) (Goes t) → bare t ≡ state_of s → Stands (inside_of s)
    → GoesOn (OneStep c (state_of r)) (untold_of s) Stands
turns_on c r s t Stands step same stands = record {
  state = t;
  comes = step;
  inside = inside_of s;
  stands = stands;
  same = same;
  running = (running s, outside s.stacked s.kept.waits, frames_are s);
}
