-- How many points there are, and how many temporaries they fill (docs/FLOW.md, "Points").
--
-- An exit and a return end scopes outside of the construct that they leave. So the number of points
-- of a construct is told by numbers that don't depend on what stands around it.
use Rattle.std.specs.Prelude.{ℕ, ◌+◌, ◌*◌, List, length, if◌then◌else◌}
use Rattle.typed_tree.specs.Trees.{TypedTree, TypedCode, Name, Component, Designated, Element, Image, Parens, Unary, Binary, Short, IsNull, Aggregate, Alike, New, Declare, Assign, Skip, Output, Input, Release, If, Branch, Case, When, Loop, While, For, Exit, Return, Block}
use Rattle.typed_tree.specs.Trees as typed
use Rattle.flow_paths.specs.Objects.{Typing}
use Rattle.flow_paths.specs.Names.{has_call}
use Rattle.flow_paths.specs.Layout.{ending}
use Rattle.flow_paths.specs.Laid.{unnumbered}

-- ---- expressions

-- How many points come before one that uses an expression.
unfoldable pub prep_size : TypedTree → ℕ
prep_size (typed.Call p sub actuals) = prep_size actuals + 1
prep_size (Short op p a q b) = if has_call b then prep_size a + 1 + (prep_size b + 1) else prep_size a + prep_size b
prep_size (Binary op a b) = prep_size a + prep_size b
prep_size (typed.More a b) = prep_size a + prep_size b
prep_size (Element a low high b) = prep_size a + prep_size b
prep_size (Name p x e t) = prep_size e
prep_size (Component i e) = prep_size e
prep_size (Designated e) = prep_size e
prep_size (Image t e) = prep_size e
prep_size (Parens e) = prep_size e
prep_size (Unary op e) = prep_size e
prep_size (IsNull equal e) = prep_size e
prep_size (Aggregate t e) = prep_size e
prep_size (Alike t e) = prep_size e
prep_size (New t e) = prep_size e
prep_size _ = 0

-- How many temporaries these points fill.
unfoldable pub filled_in : TypedTree → ℕ
filled_in (typed.Call p sub actuals) = filled_in actuals + 1
filled_in (Short op p a q b) = if has_call b then filled_in a + 1 + filled_in b else filled_in a + filled_in b
filled_in (Binary op a b) = filled_in a + filled_in b
filled_in (typed.More a b) = filled_in a + filled_in b
filled_in (Element a low high b) = filled_in a + filled_in b
filled_in (Name p x e t) = filled_in e
filled_in (Component i e) = filled_in e
filled_in (Designated e) = filled_in e
filled_in (Image t e) = filled_in e
filled_in (Parens e) = filled_in e
filled_in (Unary op e) = filled_in e
filled_in (IsNull equal e) = filled_in e
filled_in (Aggregate t e) = filled_in e
filled_in (Alike t e) = filled_in e
filled_in (New t e) = filled_in e
filled_in _ = 0

-- ---- statements

-- The points that a construct has wherever it stands, how many exits and how many returns leave it,
-- and how many temporaries its points fill. An exit has a point for each object whose scope it ends
-- up to the loop, and a return one for each whose scope it ends up to the subprogram.
pub record Extent : Type 0 where
  pub own : ℕ
  pub exits : ℕ
  pub returns : ℕ
  pub filled : ℕ

abbrev pub extent : ℕ → ℕ → ℕ → ℕ → Extent
extent own exits returns filled = record { own = own; exits = exits; returns = returns; filled = filled }

abbrev pub nothing : Extent
nothing = extent 0 0 0 0

-- Points that use an expression: n of them after those that come before.
abbrev pub using : TypedTree → ℕ → Extent
using e n = extent (prep_size e + n) 0 0 (filled_in e)

abbrev pub both : Extent → Extent → Extent
both a b = extent (a.own + b.own) (a.exits + b.exits) (a.returns + b.returns) (a.filled + b.filled)

-- Exits leave no further than the loop.
abbrev pub in_turns : Extent → Extent
in_turns a = extent a.own 0 a.returns a.filled

-- A block with n objects whose scopes end. They end after it, and where an exit or a return leaves
-- it.
abbrev pub ending_with : ℕ → Extent → Extent
ending_with n a = extent (a.own + n + (a.exits + a.returns) * n) a.exits a.returns a.filled

-- The objects that code declares itself whose scopes end at points, the last one first.
abbrev pub ended_in : Typing → TypedCode → List ℕ
ended_in s stmts = ending (unnumbered s) stmts

unfoldable mutual
  -- statements and lists of statements
  pub code_extent : Typing → TypedCode → Extent
  code_extent s (typed.More a rest) = both (code_extent s a) (code_extent s rest)
  code_extent s (Declare p x v) = using v 1
  code_extent s (Assign p target e) = both (using e 0) (using target 1)
  code_extent s (Skip p) = extent 1 0 0 0
  code_extent s (typed.Call p sub actuals) = using actuals 1
  code_extent s (Output p text line) = using text 1
  code_extent s (Input p target) = using target 1
  code_extent s (Release p m) = using m 1
  code_extent s (If branches otherwise) = both (branches_extent s branches) (code_extent s otherwise)
  code_extent s (Case p e whens) = both (using e 1) (whens_extent s whens)
  code_extent s (Loop stmts) = in_turns (code_extent s stmts)
  code_extent s (While p e stmts) = both (using e 1) (in_turns (code_extent s stmts))
  code_extent s (For p x reversed low high stmts) =
      both (both (using low 0) (using high 1)) (both (extent 1 0 0 0) (in_turns (code_extent s stmts)))
  code_extent s (Exit p e) = both (using e 1) (extent 0 1 0 0)
  code_extent s (Return p v) = both (using v 1) (extent 1 0 1 0)
  code_extent s (Block n stmts end) = ending_with (length (ended_in s stmts)) (code_extent s stmts)
  code_extent s _ = nothing

  -- the branches of an `if`, and one of them
  pub branches_extent : Typing → TypedCode → Extent
  branches_extent s (typed.More a rest) = both (branch_extent s a) (branches_extent s rest)
  branches_extent s _ = nothing

  pub branch_extent : Typing → TypedCode → Extent
  branch_extent s (Branch p e stmts) = both (using e 1) (code_extent s stmts)
  branch_extent s _ = nothing

  -- the alternatives of a `case`, and one of them
  pub whens_extent : Typing → TypedCode → Extent
  whens_extent s (typed.More a rest) = both (when_extent s a) (whens_extent s rest)
  whens_extent s _ = nothing

  pub when_extent : Typing → TypedCode → Extent
  when_extent s (When choices stmts) = code_extent s stmts
  when_extent s _ = nothing

-- ---- what stands around

-- What follows the innermost loop, and the objects whose scopes end where an exit leaves it, and
-- where a return leaves all, the last one first.
pub record Ways : Type 0 where
  pub leave : List ℕ
  pub in_loop : List ℕ
  pub in_all : List ℕ

-- How many points there are.
abbrev pub size : Extent → Ways → ℕ
size a w = a.own + a.exits * length w.in_loop + a.returns * length w.in_all
