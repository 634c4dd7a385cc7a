-- Points by name (docs/FLOW.md, "Points").
--
-- A part of a program has a place: which part of its whole it is, counted from 0, and so on up to
-- the body of the subprogram, the innermost number first. A point is named by the place of the
-- construct that it belongs to, and by its number among the points of that construct itself.
use Rattle.std.specs.Prelude.{ℕ, Bool, ◌&&◌, ◌==◌, List, [], ◌∷◌, map}
use Rattle.std.specs.Cmp.Lexicographic.{pointwise}
use Rattle.typed_tree.specs.spark_base.declared.position.Pos.{Pos}
use Rattle.typed_tree.specs.place_names.declared.act.Placed.{Placed}
use Rattle.flow_paths.specs.declared.point.LeakSpot.{LeakSpot}
use Rattle.flow_paths.specs.Instructions.{Instruction}
use Rattle.flow_paths.specs.Acts.{Frame, acts_of, leaks_of}

abbrev pub Place : Type 0
Place = List ℕ

pub record PointName : Type 0 where
  pub place : Place
  pub row : ℕ

abbrev pub row_at : Place → ℕ → PointName
row_at at row = record { place = at; row = row }

abbrev pub same_place : Place → Place → Bool
same_place a b = pointwise (λ i j. i == j) a b

abbrev pub same_point : PointName → PointName → Bool
same_point a b = same_place a.place b.place && (a.row == b.row)

-- A point: where it stands, its instruction, and the names of those that may follow. `scope` has
-- the objects that are in scope there, the last one first, and the temporaries that hold a value
-- then.
pub record NamedPoint : Type 0 where
  pub name : PointName
  pub pos : Pos
  pub instr : Instruction
  pub scope : List ℕ
  pub next : List PointName

abbrev pub point : PointName → Pos → Instruction → List ℕ → List PointName → NamedPoint
point name p i scope next = record { name = name; pos = p; instr = i; scope = scope; next = next }

-- Where some points begin, or what follows where there are none.
abbrev pub entry : List NamedPoint → List PointName → List PointName
entry [] k = k
entry (p ∷ rest) k = p.name ∷ []

-- A point with its acts and leak checks, and with numbers for the names of others.
pub record FlowPoint : Type 0 where
  pub pos : Pos
  pub acts : List Placed
  pub leaks : List LeakSpot
  pub instr : Instruction
  pub next : List ℕ

-- The acts and the leak checks of a point are those of its instruction.
abbrev pub flow_point : Frame → (PointName → ℕ) → NamedPoint → FlowPoint
flow_point f number p = record {
  pos = p.pos;
  acts = acts_of f p.pos p.instr;
  leaks = leaks_of f p.pos p.instr;
  instr = p.instr;
  next = map number p.next;
}
