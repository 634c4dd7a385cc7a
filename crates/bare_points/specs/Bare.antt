-- Points without their acts and leak checks, which go by position and instruction alone.
use Rattle.std.specs.Prelude.{ℕ, Bool, List, map, if◌then◌else◌}
use Rattle.spark_base.specs.declared.position.Pos.{Pos}
use Rattle.typed_tree.specs.Nodes.{TypedNodes, typed_at, typed_code_at}
use Rattle.flow_paths.specs.declared.point.Point.{Point}
use Rattle.flow_paths.specs.Instructions.{Instruction, instruction_of}
use Rattle.flow_paths.specs.Objects.{has_scope_end}
use Rattle.flow_paths.specs.Points.{FlowPoint}
use Rattle.numbered_points.specs.Prepared.{Maker, make}

pub record Bare : Type 0 where
  pub pos : Pos
  pub instr : Instruction
  pub next : List ℕ

abbrev pub bare : Pos → Instruction → List ℕ → Bare
bare p i next = record { pos = p; instr = i; next = next }

-- What is left of a point, and the point that it is of.
abbrev pub strip : FlowPoint → Bare
strip q = bare q.pos q.instr q.next

abbrev pub dress : Maker → Bare → FlowPoint
dress g b = make g b.pos b.instr b.next

-- The points that code has, as those of the definitions: names and expressions stand in rows there.
abbrev pub bare_of : TypedNodes → Point → Bare
bare_of rows q = bare q.pos (instruction_of (typed_at rows) (typed_code_at rows) q.instr) q.next

abbrev pub bares : TypedNodes → List Point → List Bare
bares rows points = map (bare_of rows) points

-- What bare points go by: whether the scope of an object ends at a point, and whether temporaries
-- have numbers.
pub record Laying : Type 0 where
  pub ends : ℕ → Bool
  pub counted : Bool

abbrev pub laying_of : Maker → Laying
laying_of g = record { ends = has_scope_end g.frame.typing; counted = g.counted }

abbrev pub temporary_of : Laying → ℕ → ℕ
temporary_of g t = if g.counted then t else 0
