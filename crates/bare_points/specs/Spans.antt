-- How many points there are (`numbered_points/specs/Extents.antt`), by a test that tells of which
-- objects the scope ends at a point.
use Rattle.std.specs.Prelude.{ℕ, Bool, List, filter, reverse, length, get_or}
use Rattle.typed_tree.specs.Trees.{TypedTree, TypedCode, Declare, Assign, Skip, Output, Input, Release, If, Branch, Case, When, Loop, While, For, Exit, Return, Block}
use Rattle.typed_tree.specs.Trees as typed
use Rattle.flow_paths.specs.Layout.{declared}
use Rattle.bare_points.specs.declared.own_objects.Ends.{Ends}
use Rattle.numbered_points.specs.Extents.{Extent, extent, nothing, using, both, in_turns, ending_with}

-- The test that a list of truth values by object number gives, and the answer for other numbers.
abbrev pub ends_of : Ends → ℕ → Bool
ends_of ends x = get_or ends.own.items x ends.other

-- The objects that code declares itself whose scopes end at points, the last one first.
abbrev pub owned : (ℕ → Bool) → TypedCode → List ℕ
owned ends stmts = filter ends (reverse (declared stmts))

unfoldable mutual
  pub code_span : (ℕ → Bool) → TypedCode → Extent
  code_span ends (typed.More a rest) = both (code_span ends a) (code_span ends rest)
  code_span ends (Declare p x v) = using v 1
  code_span ends (Assign p target e) = both (using e 0) (using target 1)
  code_span ends (Skip p) = extent 1 0 0 0
  code_span ends (typed.Call p sub actuals) = using actuals 1
  code_span ends (Output p text line) = using text 1
  code_span ends (Input p target) = using target 1
  code_span ends (Release p m) = using m 1
  code_span ends (If branches otherwise) = both (branches_span ends branches) (code_span ends otherwise)
  code_span ends (Case p e whens) = both (using e 1) (whens_span ends whens)
  code_span ends (Loop stmts) = in_turns (code_span ends stmts)
  code_span ends (While p e stmts) = both (using e 1) (in_turns (code_span ends stmts))
  code_span ends (For p x reversed low high stmts) =
      both (both (using low 0) (using high 1)) (both (extent 1 0 0 0) (in_turns (code_span ends stmts)))
  code_span ends (Exit p e) = both (using e 1) (extent 0 1 0 0)
  code_span ends (Return p v) = both (using v 1) (extent 1 0 1 0)
  code_span ends (Block n stmts end) = ending_with (length (owned ends stmts)) (code_span ends stmts)
  code_span ends _ = nothing

  pub branches_span : (ℕ → Bool) → TypedCode → Extent
  branches_span ends (typed.More a rest) = both (branch_span ends a) (branches_span ends rest)
  branches_span ends _ = nothing

  pub branch_span : (ℕ → Bool) → TypedCode → Extent
  branch_span ends (Branch p e stmts) = both (using e 1) (code_span ends stmts)
  branch_span ends _ = nothing

  pub whens_span : (ℕ → Bool) → TypedCode → Extent
  whens_span ends (typed.More a rest) = both (when_span ends a) (whens_span ends rest)
  whens_span ends _ = nothing

  pub when_span : (ℕ → Bool) → TypedCode → Extent
  when_span ends (When choices stmts) = code_span ends stmts
  when_span ends _ = nothing
