-- The first names with too many selectors in the points of statements.
use Rattle.std.specs.Prelude.{ℕ, Bool, false, ◌||◌, Option, Some, None, if◌then◌else◌}
use Rattle.spark_base.specs.declared.position.Pos.{Pos}
use Rattle.typed_tree.specs.Trees.{TypedTree, TypedCode, Declare, Assign, Skip, Output, Input, Release, If, Branch, Case, When, Loop, While, For, Exit, Return, Block, More}
use Rattle.typed_tree.specs.Trees as typed
use Rattle.flow_paths.specs.Objects.{Typing, is_borrower, is_observer, traverses}
use Rattle.flow_paths.specs.Names.{written, first, source, whole}
use Rattle.deep_names.specs.Found.{earlier_of, written_deep, spots_deep, freed_deep}
use Rattle.deep_names.specs.Trees.{depths_in, call_deep}

-- A source that isn't read or moved.
abbrev pub source_deep : Typing → TypedTree → Option Pos
source_deep s e = earlier_of (depths_in s e).indexes (written_deep (source e))

-- A list of no value or one: as a source, or as a value.
abbrev pub first_source_deep : Typing → TypedTree → Option Pos
first_source_deep s v = earlier_of (depths_in s v).before (source_deep s (first v))

abbrev pub declared_deep : Typing → ℕ → TypedTree → Option Pos
declared_deep s x v =
    if is_borrower s x || is_observer s x then first_source_deep s v else (depths_in s v).all

abbrev pub returned_deep : Typing → Option ℕ → TypedTree → Option Pos
returned_deep s result v = if traverses s.table result then first_source_deep s v else (depths_in s v).all

-- An assignment: of a value; to a borrower or an observer; its target is checked for leaks.
abbrev pub stored_deep : Typing → TypedTree → TypedTree → Option Pos
stored_deep s target e =
    earlier_of (depths_in s e).all (earlier_of (depths_in s target).indexes (written_deep (written target)))

abbrev pub lent_deep : Typing → TypedTree → TypedTree → Option Pos
lent_deep s target e = earlier_of (source_deep s e) (depths_in s target).before

-- A borrower or an observer, as a whole.
abbrev pub takes_loan : Typing → Option ℕ → Bool
takes_loan s None = false
takes_loan s (Some x) = is_borrower s x || is_observer s x

abbrev pub written_over_deep : Typing → Option ℕ → TypedTree → TypedTree → Option Pos
written_over_deep s over target e = if takes_loan s over then lent_deep s target e else stored_deep s target e

abbrev pub assigned_deep : Typing → TypedTree → TypedTree → Option Pos
assigned_deep s target e = earlier_of (written_over_deep s (whole target) target e) (spots_deep s.table (written target))

-- What is freed, and the leak checks of what it designates.
abbrev pub released_deep : Typing → TypedTree → Option Pos
released_deep s m = earlier_of (source_deep s m) (freed_deep s.table (written m))

unfoldable mutual
  -- statements and lists of statements
  pub code_deep : Typing → Option ℕ → TypedCode → Option Pos
  code_deep s r (More a rest) = earlier_of (code_deep s r a) (code_deep s r rest)
  code_deep s r (Declare p x v) = declared_deep s x v
  code_deep s r (Assign p target e) = assigned_deep s target e
  code_deep s r (typed.Call p sub actuals) = call_deep s sub actuals
  code_deep s r (Output p text line) = (depths_in s text).all
  code_deep s r (Input p target) = source_deep s target
  code_deep s r (Release p m) = released_deep s m
  code_deep s r (If branches otherwise) = earlier_of (branches_deep s r branches) (code_deep s r otherwise)
  code_deep s r (Case p e whens) = earlier_of (depths_in s e).all (whens_deep s r whens)
  code_deep s r (Loop stmts) = code_deep s r stmts
  code_deep s r (While p e stmts) = earlier_of (depths_in s e).all (code_deep s r stmts)
  code_deep s r (For p x reversed low high stmts) =
      earlier_of (earlier_of (depths_in s low).all (depths_in s high).all) (code_deep s r stmts)
  code_deep s r (Exit p e) = (depths_in s e).all
  code_deep s r (Return p v) = returned_deep s r v
  code_deep s r (Block n stmts end) = code_deep s r stmts
  code_deep s r _ = None

  -- the branches of an `if`, and one of them
  pub branches_deep : Typing → Option ℕ → TypedCode → Option Pos
  branches_deep s r (More a rest) = earlier_of (branch_deep s r a) (branches_deep s r rest)
  branches_deep s r _ = None

  pub branch_deep : Typing → Option ℕ → TypedCode → Option Pos
  branch_deep s r (Branch p e stmts) = earlier_of (depths_in s e).all (code_deep s r stmts)
  branch_deep s r _ = None

  -- the alternatives of a `case`, and one of them
  pub whens_deep : Typing → Option ℕ → TypedCode → Option Pos
  whens_deep s r (More a rest) = earlier_of (when_deep s r a) (whens_deep s r rest)
  whens_deep s r _ = None

  pub when_deep : Typing → Option ℕ → TypedCode → Option Pos
  when_deep s r (When choices stmts) = code_deep s r stmts
  when_deep s r _ = None
