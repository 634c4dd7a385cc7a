-- What a layout goes by, and what it has made.
use Rattle.std.specs.Prelude.{◌≡◌, ℕ, Bool, true, false, List, length}
use Rattle.typed_tree.specs.Trees.{TypedTree, TypedCode, If, Case, Loop, While, For, Block, More}
use Rattle.typed_tree.specs.Nodes.{typed_at, typed_code_at}
use Rattle.flow_paths.specs.declared.instr.Instr.{Instr}
use Rattle.flow_paths.specs.declared.point.Point.{Point}
use Rattle.flow_paths.specs.Instructions.{Instruction, instruction_of}
use Rattle.numbered_points.specs.Extents.{Extent}
use Rattle.bare_points.specs.declared.layout.Layout.{Layout}
use Rattle.bare_points.specs.Bare.{Bare, Laying, bares}
use Rattle.bare_points.specs.Spans.{code_span, ends_of}
use Rattle.bare_points.specs.Tables.{AreSizes}

abbrev pub laying : Layout → Laying
laying l = record { ends = ends_of l.sizes.ends.now; counted = l.counted }

abbrev pub tree_in : Layout → ℕ → TypedTree
tree_in l e = typed_at l.sizes.rows.now e

abbrev pub code_in : Layout → ℕ → TypedCode
code_in l c = typed_code_at l.sizes.rows.now c

abbrev pub ends_in : Layout → ℕ → Bool
ends_in l = ends_of l.sizes.ends.now

abbrev pub span_in : Layout → ℕ → Extent
span_in l c = code_span (ends_in l) (code_in l c)

abbrev pub instr_in : Layout → Instr → Instruction
instr_in l i = instruction_of (tree_in l) (code_in l) i

abbrev pub made_in : Layout → List Point → List Bare
made_in l points = bares l.sizes.rows.now points

-- Code that holds no other.
abbrev pub is_plain : TypedCode → Bool
is_plain (More a rest) = false
is_plain (If branches otherwise) = false
is_plain (Case p e whens) = false
is_plain (Loop stmts) = false
is_plain (While p e stmts) = false
is_plain (For p x reversed low high stmts) = false
is_plain (Block n stmts end) = false
is_plain _ = true

-- The tables have all nodes.
pub record IsReady (l : Layout) : Type 0 where
  pub sizes : AreSizes l.sizes
  pub whole : length l.sizes.spans.now ≡ length l.sizes.rows.now.1
