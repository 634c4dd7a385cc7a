-- What a step has made so far.
use Rattle.std.proofs.Common.{refl}
use Rattle.run_codes.specs.Codes.{Point}
use Rattle.slot_heap.specs.Heaps.{Heap}
use Rattle.handled_runs.specs.Slots.{Slots}
use Rattle.made_cells.specs.Since.{Since}
use Rattle.made_cells.proofs.Values.{none_since}
use Rattle.slot_memory.specs.Memory.{Ghosts, slots}
use Rattle.slot_runs.specs.Turns.{Setting}
use Rattle.slot_turns.specs.Betweens.{Between, StandAt}
use Rattle.slot_turns.specs.Steps.{turn_at}

module _ {R : Type 0} (Means : R → Heap → Type 0) (c : Setting) (p : Point) (old : Between R) (g : Ghosts) where
  -- The memory that the point is evaluated by has the cells of the state before the step.
  pub since_here : (s : Slots) → Since (slots old.kept g) s → Since (turn_at c p old g).state.memory s
  since_here s is = record { made = is.made; cells = is.cells; newer = is.newer; older = is.older; only = is.only; more = is.more }

  -- Nothing was made yet.
  pub none_yet : StandAt Means old g → Since (slots old.kept g) (slots old.kept g)
  none_yet stands = none_since (slots old.kept g) (slots old.kept g) refl refl refl stands.memory.cells.within

  pub none_here : StandAt Means old g → Since (turn_at c p old g).state.memory (slots old.kept g)
  none_here stands = since_here (slots old.kept g) (none_yet stands)
