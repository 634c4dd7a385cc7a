-- The parts of a run at its start.
use Rattle.std.proofs.Common.{ℕ, Bool, List, [], ap, ◌∙◌}
use Rattle.type_definitions.specs.Types.{Table}
use Rattle.run_codes.specs.Programs.{Program}
use Rattle.run_results.specs.Results.{leaks_of}
use Rattle.slot_heap.specs.Heaps.{Heap}
use Rattle.slot_stages.specs.Stages.{state_of}
use Rattle.slot_leads.specs.Starts.{IsStarted}
use Rattle.slot_turns.specs.Betweens.{stage_of}
use Rattle.slot_parts.specs.declared.parts.Parts.{Parts}
use Rattle.slot_parts.specs.Stages.{between_of}
use Rattle.slot_parts.specs.Begins.{AreSilent, IsBegun}

-- Nothing was told yet.
pub begun : {R : Type 0} (Means : R → Heap → Type 0) (table : Table) (program : Program) (lent : ℕ) (bytes : List ℕ) (declares : Bool) (p : Parts R)
    → IsStarted Means table program lent bytes declares p.memory p.frames p.words → AreSilent p → IsBegun Means table program lent bytes declares p
begun Means table program lent bytes declares p is silent = record {
  ghosts = is.ghosts;
  between = record { stacked = is.between.stacked; base = is.between.base; read = is.between.read };
  stands = record { memory = is.stands.memory; settled = is.stands.settled };
  input = is.input;
  lent = is.lent;
  words = is.words;
  state =
      let s = stage_of (between_of p) is.ghosts in
      ap (λ os. state_of (record s { output = os })) silent.output ∙ ap (λ ls. state_of (record s { output = []; leaks = ls })) (ap leaks_of silent.leaks) ∙ is.state;
}
