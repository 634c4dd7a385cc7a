-- What a run leaves in its heap: the slots and the cells of the machine's run.
use Rattle.std.proofs.Common.{ℕ, List, subst, Result}
use Rattle.std.specs.Prelude.{IfOk}
use Rattle.std.proofs.Math.Logic.{∥∥₁_map}
use Rattle.flow_paths.specs.Laid.{FlowProgram}
use Rattle.machine.specs.States as machine
use Rattle.machine.specs.Run.{moment}
use Rattle.slot_heap.specs.Heaps.{Heap, Knows}
use Rattle.handled_steps.specs.States.{Outcome, Goes, Ends, Wants, Fails}
use Rattle.slot_runs.specs.Answers.{EndsWith}
use Rattle.slot_runs.proofs.Kept.{if_ok}
use Rattle.slot_executor.specs.Executes.{AreSame, MayEnd}
use Rattle.slot_executor.proofs.Runs.{end_slots}
use Rattle.recycled_runs.specs.RecycledCells.Cells.{HasCells, LeavesCells, RunsLeaveCells}
use Rattle.slot_execute.specs.Left.{LeavesHeap}

cells_at : (s : machine.State) (m : Heap) (r : Outcome) → EndsWith m r → LeavesCells s r → HasCells s.memory.cells m
cells_at s m (Goes b) ends cells = absurd ends
cells_at s m (Ends e b) ends cells = subst (HasCells s.memory.cells) ends cells
cells_at s m Wants ends cells = absurd ends
cells_at s m Fails ends cells = absurd ends

module _ (program : FlowProgram) (input : List ℕ) (n : ℕ) (same : AreSame program input) (leave : ∥ RunsLeaveCells program ∥₁) where
  -- A heap with which a run may end.
  leaves : (m : Heap) → MayEnd program input n m → LeavesHeap program input n m
  leaves m is = record {
    slots = end_slots program input n m same is;
    cells = ∥∥₁_map leave (λ law. cells_at (moment program input n) m is.outcome is.heap (law is.points is.lowered is.main is.has input n is.outcome is.comes));
  }

  -- That of a store after an answer.
  pub answer_leaves : {R A E : Type 0} (Means : R → Heap → Type 0) (store : R) (r : Result A E) → IfOk r (λ a. Knows Means store (MayEnd program input n))
      → IfOk r (λ a. Knows Means store (LeavesHeap program input n))
  answer_leaves Means store r known =
      if_ok {Q = λ a. Knows Means store (LeavesHeap program input n)} r (λ a is. (is.0, (is.1.0, leaves is.0 is.1.1))) known
