-- What is kept of a run between two steps, and the state that it stands for.
use Rattle.std.specs.Prelude.{◌≡◌, ℕ, List, [], ◌∷◌, ◌++◌, length, take, ℤ}
use Rattle.type_definitions.specs.Types.{Table}
use Rattle.machine.specs.States.{Leak}
use Rattle.run_codes.specs.Codes.{Point}
use Rattle.run_codes.specs.Programs.{Program}
use Rattle.run_codes.specs.Points as points
use Rattle.handled_steps.specs.States.{State, Turn}
use Rattle.slot_memory.specs.Memory.{Kept, Ghosts, slots}
use Rattle.slot_frames.specs.declared.rows.Frame.{Frame}
use Rattle.slot_frames.specs.declared.rows.Return.{Return}
use Rattle.slot_frames.specs.Stacks.{Stacked}
use Rattle.slot_frames.specs.Frames.{word_at, frames_of, IsStacked}
use Rattle.slot_frames.specs.Parts.{own, own_returns, outside}
use Rattle.slot_runs.specs.Pasts.{plain_memory}

-- The memory, with what no code keeps, and the frames, and the output and the leaks that weren't told yet.
pub record Stage (R : Type 0) : Type 0 where
  pub kept : Kept R
  pub ghosts : Ghosts
  pub stacked : Stacked
  pub output : List ℕ
  pub leaks : List Leak

abbrev pub state_of : {R : Type 0} → Stage R → State
state_of r = record {
  memory = plain_memory (slots r.kept r.ghosts);
  frames = frames_of r.stacked r.kept.waits;
  at = r.kept.read;
  output = r.output;
  leaks = r.leaks;
  steps = 0;
}

-- The frame that runs is that of the memory, and nothing is moved.
pub record IsStage {R : Type 0} (r : Stage R) : Type 0 where
  pub stacked : IsStacked r.stacked r.kept.waits
  pub base : r.kept.base ≡ r.stacked.frame.base
  pub settled : r.ghosts.moves ≡ []

-- The frame that runs.
abbrev pub running : {R : Type 0} → Stage R → points.Frame
running r = record {
  base = r.stacked.frame.base;
  next = r.stacked.frame.next;
  words = r.stacked.frame.words;
  waits = own r.stacked r.kept.waits;
  returns = own_returns r.stacked;
}

-- A step from there, at a point.
abbrev pub turn_of : {R : Type 0} → Table → Program → Point → Stage R → Turn
turn_of table program p r = record {
  table = table;
  program = program;
  input = r.kept.input;
  point = p;
  state = state_of r;
  frame = running r;
  outer = outside r.stacked r.kept.waits;
}

-- Another memory, without the values that wait from a number on, which the point took.
abbrev pub without : {R : Type 0} → Stage R → ℕ → Kept R → Ghosts → Stage R
without r k m g =
    let first : ℕ = word_at r.stacked.waits k (length m.waits) in
    record r {
      kept = record m { waits = take first m.waits; taken = first };
      ghosts = g;
      stacked = record r.stacked { waits = take k r.stacked.waits };
    }

-- The frame that runs goes on at a point.
abbrev pub at_point : {R : Type 0} → Stage R → ℕ → Stage R
at_point r n = record r { stacked = record r.stacked { frame = record r.stacked.frame { next = n } } }

-- One more value of a type waits in the frame that runs.
abbrev pub with_wait : {R : Type 0} → Stage R → ℕ → List ℤ → Stage R
with_wait r of words = record r {
  kept = record r.kept { waits = r.kept.waits ++ words };
  stacked = record r.stacked { waits = r.stacked.waits ++ record { of = of; first = length r.kept.waits } ∷ [] };
}

-- All values that wait are those of frames that wait.
abbrev pub leaving_waits : {R : Type 0} → Stage R → Stage R
leaving_waits r = record r { stacked = record r.stacked { frame = record r.stacked.frame { waits = length r.stacked.waits } } }

-- Another frame runs, which copies back to some places.
abbrev pub with_frame : {R : Type 0} → Stage R → Frame → List Return → Stage R
with_frame r f returns = record r {
  kept = record r.kept { base = f.base };
  stacked = record { frame = f; outer = r.stacked.outer ++ r.stacked.frame ∷ []; waits = r.stacked.waits; returns = r.stacked.returns ++ returns };
}

-- The frame that runs ends, and another one runs, with another memory.
abbrev pub without_frame : {R : Type 0} → Stage R → Frame → List Frame → Kept R → Ghosts → Stage R
without_frame r f outer m g =
    let first : ℕ = word_at r.stacked.waits r.stacked.frame.waits (length m.waits) in
    record r {
      kept = record m { base = f.base; waits = take first m.waits; taken = first };
      ghosts = g;
      stacked = record { frame = f; outer = outer; waits = take r.stacked.frame.waits r.stacked.waits; returns = take r.stacked.frame.returns r.stacked.returns };
    }
