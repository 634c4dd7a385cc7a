-- What was made of some code.
use Rattle.std.specs.Prelude.{◌≡◌, ◌<◌, ℕ, Bool, true, false, List, [], ◌∷◌, length, IsTrue}
use Rattle.resolved_tree.specs.Trees.{Code, Skip, Assign, Call, Exit, Return, If, Branch, Case, When, Loop, While, For, Block}
use Rattle.typed_tree.specs.Trees.{TypedTree, TypedCode}
use Rattle.typed_tree.specs.Nodes.{TypedNodes, typed_code_at, Holds}
use Rattle.typed_statements.specs.declared.ranges.Ends.{Ends}

-- A statement that holds no others.
abbrev pub is_simple : Code → Bool
is_simple (Skip p) = true
is_simple (Assign target e) = true
is_simple (Call name) = true
is_simple (Exit p when) = true
is_simple (Return p v) = true
is_simple _ = false

-- A statement, or a part of one, that holds others.
abbrev pub is_compound : Code → Bool
is_compound (If p branches otherwise) = true
is_compound (Branch p e stmts) = true
is_compound (Case p e whens) = true
is_compound (When choices stmts) = true
is_compound (Loop p stmts) = true
is_compound (While p e stmts) = true
is_compound (For p d reversed range stmts) = true
is_compound (Block p items stmts end) = true
is_compound _ = false

-- Code is there, and is alone what is meant, if this is so.
abbrev pub HoldsOne : TypedNodes → ℕ → Bool → List TypedCode → Type 0
HoldsOne rows n holds codes = (n < length rows.1) × (IsTrue holds → codes ≡ typed_code_at rows n ∷ [])

-- The bounds of a range are there.
abbrev pub HoldsEnds : TypedNodes → Ends → TypedTree × TypedTree → Type 0
HoldsEnds rows ends both = Holds rows ends.low both.0 × Holds rows ends.high both.1
