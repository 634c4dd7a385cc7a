-- Acts on names.
use Rattle.std.specs.Prelude.{ℕ, List, [], ◌++◌}
use Rattle.spark_base.specs.declared.position.Pos.{Pos}
use Rattle.place_names.specs.declared.act.Placed.{Placed}
use Rattle.typed_tree.specs.Trees.{TypedTree}
use Rattle.flow_paths.specs.Instructions.{Instruction, EndScope, Finish}
use Rattle.flow_paths.specs.Objects.{Typing}
use Rattle.flow_paths.specs.Names.{source}
use Rattle.flow_paths.specs.Acts.{Frame, acts_of, index_acts, reborrow}

-- Those of an instruction. The ends of scopes and of calls have none.
abbrev pub named_acts : Frame → Pos → Instruction → List Placed
named_acts f p (EndScope x) = []
named_acts f p Finish = []
named_acts f p i = acts_of f p i

-- Those of an assignment to a borrower.
abbrev pub reborrowed_acts : Typing → Pos → ℕ → TypedTree → List Placed
reborrowed_acts s p x e = index_acts s e ++ reborrow p x (source e)
