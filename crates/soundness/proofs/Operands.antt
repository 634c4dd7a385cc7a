-- What a return with a value leads to.
use Rattle.std.proofs.Common.{◌≡◌, refl, ℕ, List, ◌∷◌, get_or, Some}
use Rattle.machine.specs.typed_tree.Trees.{TypedTree, More}
use Rattle.machine.specs.flow_paths.Points.{FlowPoint}
use Rattle.machine.specs.flow_paths.Laid.{FlowProgram}
use Rattle.machine.specs.Words as machine
use Rattle.machine.specs.Memory.{Memory}
use Rattle.machine.specs.States.{Frame, State, Goes, sub_of}
use Rattle.machine.specs.Step.{Turn, start, waiting, behind, taken_by}
use Rattle.machine.specs.Step as steps

-- The value waits in the frame of the caller, and nothing else in that of the function.
module _ (program : FlowProgram) (input : List ℕ) (point : FlowPoint) (state : State) (frame caller : Frame) (outer : List Frame) where
  abbrev returning : Turn
  returning = record { program = program; input = input; point = point; state = state; frame = frame; outer = caller ∷ outer }

  abbrev pub handed_over : ℕ → List machine.Word → Memory → State
  handed_over of ws m = record (behind returning (waiting returning) m 0) {
    frames = record frame { waits = waiting returning; next = get_or point.next 0 0 }
        ∷ record caller { waits = record { of = of; words = ws } ∷ caller.waits } ∷ outer;
  }

  pub hold_is : (e rest : TypedTree) (of : ℕ) → (sub_of program frame.sub).result ≡ Some of
      → steps.hold returning (More e rest) ≡ steps.evaluated returning (taken_by returning of e (start returning)) (λ ws m. Goes (handed_over of ws m))
  hold_is e rest of result = rw result refl
