-- Memories in the course of a point: over numbers with marks of what it has moved so far, over a heap that uses its
-- slots again with notes of it.
use Rattle.std.specs.Prelude.{◌≡◌, ◌≤◌, ◌<◌, ℕ, List, [], ◌∷◌, map, drop, length}
use Rattle.numbered_cells.specs.run_values.declared.value.Value.{Value}
use Rattle.numbered_cells.specs.run_values.declared.value.Kind.{Kind}
use Rattle.numbered_cells.specs.run_values.Values.{kind}
use Rattle.numbered_cells.specs.kept_cells.Cells.{Cell}
use Rattle.numbered_cells.specs.run_codes.Flat.{Flat, Given, Spot, InStack, InCell, as_fresh, all_fresh, word_of, moved_out}
use Rattle.handled_runs.specs.Slots.{Slots, Move}
use Rattle.handled_runs.specs.Beside.{spot_renamed, Beside}
use Rattle.handled_runs.specs.Looks.{IsFront, AreKept}

-- ---- a memory without its marks

abbrev pub ValueUnmarked : Value → Value → Type 0
ValueUnmarked v w = (kind v ≡ kind w) × (word_of v ≡ as_fresh (kind w) (word_of w))

abbrev pub ValuesUnmarked : List Value → List Value → Type 0
ValuesUnmarked [] [] = Unit {0}
ValuesUnmarked (v ∷ vs) (w ∷ ws) = ValueUnmarked v w × ValuesUnmarked vs ws
ValuesUnmarked _ _ = ⊥

abbrev pub CellsUnmarked : List Cell → List Cell → Type 0
CellsUnmarked [] [] = Unit {0}
CellsUnmarked (c ∷ cs) (d ∷ ds) = (c.freed ≡ d.freed) × ValuesUnmarked c.words d.words × CellsUnmarked cs ds
CellsUnmarked _ _ = ⊥

-- The first memory is the second one, where none of the words is gone.
pub record IsUnmarked (here : List Kind) (x m : Flat) : Type 0 where
  pub stack : x.stack ≡ all_fresh here m.stack
  pub known : length here ≡ length m.stack
  pub cells : CellsUnmarked x.cells m.cells
  pub base : x.base ≡ m.base
  pub freed : x.freed ≡ m.freed
  pub live : x.live ≡ m.live
  pub waits : x.waits ≡ m.waits
  pub rest : x.rest ≡ m.rest

-- ---- what a point has moved so far

-- After these moves.
abbrev pub Marks : List Move → Flat → Flat → Type 0
Marks [] x m = x ≡ m
Marks (q ∷ rest) x m = (y : Flat) × (moved_out x q.at q.kinds q.offsets ≡ Given y) × Marks rest y m

abbrev pub move_renamed : List ℕ → Move → Move
move_renamed handles q = record q { at = spot_renamed handles q.at }

-- Words of such kinds stand at a spot of the stack.
abbrev pub Stands : List Kind → Spot → List Kind → Type 0
Stands here (InStack n) ks = IsFront ks (drop n here) × (n ≤ length here)
Stands here (InCell n o) ks = Unit {0}

-- So it is there, and cells of that number were made.
abbrev pub MoveStands : List Kind → ℕ → Spot → List Kind → Type 0
MoveStands here bound (InStack n) ks = IsFront ks (drop n here) × (n ≤ length here)
MoveStands here bound (InCell n o) ks = n < bound

abbrev pub MovesStand : List Kind → ℕ → List Move → Type 0
MovesStand here bound [] = Unit {0}
MovesStand here bound (q ∷ rest) = MoveStands here bound q.at q.kinds × MovesStand here bound rest

-- In the course of a point: without the marks, both memories stand beside each other, and what is marked is noted.
pub record During (handles : List ℕ) (here taken : List Kind) (m : Flat) (s : Slots) : Type 0 where
  pub whole : Flat
  pub unmarked : IsUnmarked here whole m
  pub kept : AreKept taken m.waits
  pub beside : Beside handles here taken whole s
  pub moves : List Move
  pub marked : Marks moves whole m
  pub noted : s.moves ≡ map (move_renamed handles) moves
  pub stand : MovesStand here (length handles) moves
