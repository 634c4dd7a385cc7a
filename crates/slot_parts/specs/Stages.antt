-- What the parts of a run are between two steps, and at a point.
use Rattle.std.specs.Prelude.{◌≡◌, ℕ, List, length, IsTrue}
use Rattle.type_definitions.specs.Types.{Table}
use Rattle.slot_heap.specs.Heaps.{Heap}
use Rattle.code_rows.specs.declared.point.Point.{Point}
use Rattle.code_rows.specs.declared.codes.Codes.{Codes}
use Rattle.code_rows.specs.Points.{some, point_of, program_of, is_point_there, IsWhole}
use Rattle.run_results.specs.Results.{leaks_of}
use Rattle.slot_frames.specs.Frames.{word_at, AreLatest}
use Rattle.slot_runs.specs.Turns.{Setting}
use Rattle.slot_entries.specs.Entries.{stacked_words}
use Rattle.slot_turns.specs.Betweens.{Between, IsBetween}
use Rattle.slot_turns.specs.Steps.{CanDo}
use Rattle.slot_parts.specs.declared.parts.Parts.{Parts}

abbrev pub between_of : {R : Type 0} → Parts R → Between R
between_of p = record { kept = p.memory; stacked = p.frames; output = p.output.items; leaks = leaks_of p.leaks.items }

-- What is run.
abbrev pub setting_of : Codes → Table → List ℕ → Setting
setting_of codes table input = record { table = table; program = program_of codes; input = input }

-- The frame that runs is at a point, which takes the values that wait from the number k on: the memory is the one that
-- the point is evaluated by, and from some slots that it stands for the point can be done.
pub record IsAt {R : Type 0} (Means : R → Heap → Type 0) (codes : Codes) (table : Table) (point : Point) (k : ℕ) (p : Parts R) : Type 0 where
  pub whole : IsWhole codes
  pub there : IsTrue (is_point_there codes point)
  pub between : IsBetween (between_of p)
  pub words : p.words ≡ stacked_words p.frames
  pub latest : AreLatest p.frames (some codes.types.items point.takes) k
  pub taken : p.memory.taken ≡ word_at p.frames.waits k (length p.memory.waits)
  pub can : CanDo Means (setting_of codes table p.memory.input) (point_of codes point) (between_of p)
