-- What a step sees of the parts of a run, and what it asks for.
use Rattle.std.proofs.Common.{◌≡◌, ◌≤◌, ℕ, ◌&&◌, List, length, sym, ap, subst, ◌∙◌, ℤ}
use Rattle.std.specs.Prelude.{IsTrue}
use Rattle.std.specs.List.{list_all}
use Rattle.type_definitions.specs.Types.{Table}
use Rattle.slot_heap.specs.Heaps.{Heap}
use Rattle.code_rows.specs.declared.point.Point.{Point}
use Rattle.code_rows.specs.declared.codes.Codes.{Codes}
use Rattle.code_rows.specs.Points.{some, point_of, program_of, are_parts_there, is_choice_there, are_sound, are_all_there, is_does_there, is_range, AreSound, IsWhole}
use Rattle.code_rows.specs.Values.{are_within}
use Rattle.code_rows.proofs.Grown.{and_first}
use Rattle.handled_steps.specs.States.{start}
use Rattle.slot_memory.specs.Memory.{Kept, Ghosts, Elsewhere, slots, elsewhere}
use Rattle.slot_frames.specs.Stacks.{Stacked}
use Rattle.slot_frames.specs.Frames.{word_at}
use Rattle.slot_stages.specs.Stages.{IsStage}
use Rattle.slot_stages.proofs.Sights.{start_is}
use Rattle.slot_turns.specs.Betweens.{stage_of, StandAt}
use Rattle.slot_turns.specs.Steps.{turn_at}
use Rattle.slot_turns.proofs.Turned.{first_below}
use Rattle.slot_parts.specs.declared.parts.Parts.{Parts}
use Rattle.slot_parts.specs.Stages.{between_of, setting_of, IsAt}

pub sound_rows : (codes : Codes) → IsWhole codes → AreSound codes.rows
sound_rows codes whole = and_first (are_sound codes.rows) (are_all_there codes) whole

-- Where as many words wait, they begin within them.
pub below_by : {R : Type 0} (s : Stacked) (k : ℕ) (m q : Kept R) → elsewhere q ≡ elsewhere m → word_at s.waits k (length m.waits) ≤ length m.waits
    → word_at s.waits k (length q.waits) ≤ length q.waits
below_by s k m q same le = subst (λ (ws : List ℤ). word_at s.waits k (length ws) ≤ length ws) (sym (ap (λ (e : Elsewhere). e.waits) same)) le

module _ {R : Type 0} (Means : R → Heap → Type 0) (codes : Codes) (table : Table) (point : Point) (k : ℕ) (p : Parts R) (at : IsAt Means codes table point k p) where
  pub sound_at : AreSound codes.rows
  sound_at = sound_rows codes at.whole

  pub within_at : IsTrue (are_within codes.rows.nodes codes.rows.fills)
  within_at =
      and_first (are_within codes.rows.nodes codes.rows.fills) (are_parts_there codes.rows && list_all is_choice_there codes.rows.choices.items) sound_at

  pub does_at : IsTrue (is_does_there codes.rows point.does)
  does_at = and_first (is_does_there codes.rows point.does) (is_range codes.types.items point.takes) at.there

  -- The words that it takes are there.
  pub taken_below : word_at p.frames.waits k (length p.memory.waits) ≤ length p.memory.waits
  taken_below = first_below p.frames p.memory.waits (some codes.types.items point.takes) k at.between.stacked at.latest

  module _ (g : Ghosts) (stands : StandAt Means (between_of p) g) where
    pub stage_at : IsStage (stage_of (between_of p) g)
    stage_at = record { stacked = at.between.stacked; base = at.between.base; settled = stands.settled }

    -- The memory is the one that the point is evaluated by.
    pub start_now : start (turn_at (setting_of codes table p.memory.input) (point_of codes point) (between_of p) g) ≡ slots p.memory g
    start_now =
        start_is table (program_of codes) (point_of codes point) (stage_of (between_of p) g) k stage_at at.latest
        ∙ ap (λ n. slots (record p.memory { taken = n }) g) (sym at.taken)
