-- What an instruction does to places, and its leak checks (docs/FLOW.md, "Acts" and "Leak checks").
--
-- Acts stand in the order in which the step evaluates what they name.
use Rattle.std.specs.Prelude.{ℕ, ◌+◌, Bool, false, List, [], ◌∷◌, ◌++◌, map, length, Option, Some, None, if◌then◌else◌}
use Rattle.typed_tree.specs.spark_base.declared.position.Pos.{Pos}
use Rattle.typed_tree.specs.place_names.declared.selector.Sel.{Sel}
use Rattle.typed_tree.specs.place_names.declared.selector.Sel.TheVariants as sel
use Rattle.typed_tree.specs.place_names.declared.act.Mode.TheVariants as mode
use Rattle.typed_tree.specs.place_names.declared.act.Act.{Act}
use Rattle.typed_tree.specs.place_names.declared.act.Act.TheVariants as act
use Rattle.typed_tree.specs.place_names.declared.act.Placed.{Placed}
use Rattle.typed_tree.specs.place_names.Names.{Name as PlaceName, object, extend}
use Rattle.typed_tree.specs.type_definitions.Types.{full, parts, is_owning}
use Rattle.typed_tree.specs.Trees.{TypedTree, Name, Component, Designated, Element, Call, Image, Parens, Unary, Binary, Short, IsNull, Aggregate, Alike, New, More}
use Rattle.flow_paths.specs.declared.point.LeakSpot.{LeakSpot}
use Rattle.flow_paths.specs.Instructions.{Instruction, Skip, Declare, Assign, Output, Input, Release, Test, Choose, Start, Next, Evaluate, LeaveLoop, Hold, EndScope, Finish, Fall}
use Rattle.flow_paths.specs.Instructions as instruction
use Rattle.flow_paths.specs.Objects.{Typing, sub_at, object_at, is_borrower, is_observer, is_borrowing, traverses, designated, Passing, ByValue, Traversed, Place, passings}
use Rattle.flow_paths.specs.Names.{Written, name_of, written, first, source, whole, has_call}

-- What the acts of a subprogram go by: the program, the type of the result, and what the end of a
-- call looks at, the formals and package objects that facts are rooted in.
pub record Frame : Type 0 where
  pub typing : Typing
  pub result : Option ℕ
  pub roots : List ℕ

abbrev pub placed : Pos → Act → Placed
placed p a = record { pos = p; act = a }

-- An act on a name, where there is one. Its position is that of the name.
abbrev pub naming : Option Written → (PlaceName → Act) → List Placed
naming None a = []
naming (Some m) a = placed m.pos (a m.name) ∷ []

-- ---- expressions

-- A name as a value: one of an owning type is moved.
abbrev pub used : Typing → PlaceName → ℕ → Act
used s m t = if is_owning s.table t then act.Move m (parts s.table t) else act.Read m

-- The acts of an expression at the point that evaluates it, and of the steps of a name: those of
-- the indexes, which come before the name.
unfoldable pub acts_in : Typing → TypedTree → List Placed
acts_in s (Name p x steps t) = acts_in s steps ++ placed p (used s (name_of x steps) t) ∷ []
acts_in s (Component i rest) = acts_in s rest
acts_in s (Designated rest) = acts_in s rest
acts_in s (Element index low high rest) = acts_in s index ++ acts_in s rest
-- a name compared with `null` is looked at
acts_in s (IsNull equal (Name p x steps t)) = acts_in s steps ++ placed p (act.Look (name_of x steps)) ∷ []
-- with a call on the right, both operands were evaluated before
acts_in s (Short op p a q b) = if has_call b then [] else acts_in s a ++ acts_in s b
-- the result of a call waits
acts_in s (Call p sub actuals) = []
acts_in s (Image t e) = acts_in s e
acts_in s (Parens e) = acts_in s e
acts_in s (Unary op e) = acts_in s e
acts_in s (Binary op a b) = acts_in s a ++ acts_in s b
acts_in s (Aggregate t es) = acts_in s es
acts_in s (Alike t e) = acts_in s e
acts_in s (New t v) = acts_in s v
acts_in s (More e rest) = acts_in s e ++ acts_in s rest
acts_in s _ = []

-- The acts of the indexes of a name alone. Those of a traversal call stand at its own point.
abbrev pub index_acts : Typing → TypedTree → List Placed
index_acts s (Name p x steps t) = acts_in s steps
index_acts s _ = []

-- A source that isn't read or moved: its indexes, and then the act.
abbrev pub source_acts : Typing → TypedTree → (PlaceName → Act) → List Placed
source_acts s e a = index_acts s e ++ naming (source e) a

abbrev pub observe : Typing → ℕ → PlaceName → Act
observe s h m = act.Observe h m (is_observer s m.root)

-- ---- calls

-- 1. An actual that is passed by value gives its acts, each other one those of its indexes.
abbrev pub actual_values : Typing → List Passing → TypedTree → List Placed
actual_values s (ByValue ∷ ways) (More e rest) = acts_in s e ++ actual_values s ways rest
actual_values s (Traversed ∷ ways) (More e rest) = index_acts s e ++ actual_values s ways rest
actual_values s (Place m owning access ∷ ways) (More e rest) = index_acts s e ++ actual_values s ways rest
actual_values s _ _ = []

-- 2. The Actual acts. `null` gives none.
abbrev pub actual_act : Passing → TypedTree → List Placed
actual_act (Place m owning access) e = naming (written e) (λ k. act.Actual k m owning access)
actual_act _ e = []

abbrev pub actual_acts : List Passing → TypedTree → List Placed
actual_acts (way ∷ ways) (More e rest) = actual_act way e ++ actual_acts ways rest
actual_acts _ _ = []

-- ---- leak checks

abbrev pub spot : Pos → PlaceName → ℕ → List Sel → LeakSpot
spot p m before q = record { pos = p; name = extend m q; before = before }

-- Each access part of what a name names, before the effect of the act with an index.
abbrev pub spots_at : Typing → Option Written → ℕ → List LeakSpot
spots_at s None before = []
spots_at s (Some m) before = map (spot m.pos m.name before) (parts s.table m.of)

-- Each access part of what a name designates.
abbrev pub designated_spots : Typing → Option Written → ℕ → List LeakSpot
designated_spots s None before = []
designated_spots s (Some m) before =
    map (spot m.pos (extend m.name (sel.Deref ∷ [])) before) (parts s.table (designated s.table m.of))

-- Those of an actual of mode `out` stand before its Actual act.
abbrev pub actual_spots : Typing → Passing → TypedTree → ℕ → List LeakSpot
actual_spots s (Place mode.Out owning access) e before = spots_at s (written e) before
actual_spots s _ e before = []

abbrev pub call_spots : Typing → List Passing → TypedTree → ℕ → List LeakSpot
call_spots s (way ∷ ways) (More e rest) before =
    actual_spots s way e before ++ call_spots s ways rest (before + length (actual_act way e))
call_spots s _ _ before = []

-- ---- instructions

-- The initial value of an object, or the source of a borrower or observer.
abbrev pub declared_acts : Typing → ℕ → TypedTree → List Placed
declared_acts s x v =
    if is_borrower s x then source_acts s (first v) (act.Borrow x)
    else (if is_observer s x then source_acts s (first v) (observe s x) else acts_in s v)

-- What is assigned is evaluated before the indexes of the target. A Reborrow has the position of
-- the target.
abbrev pub reborrow : Pos → ℕ → Option Written → List Placed
reborrow p b None = []
reborrow p b (Some m) = placed p (act.Reborrow b m.name) ∷ []

abbrev pub target_pos : Pos → Option Written → Pos
target_pos p None = p
target_pos p (Some m) = m.pos

abbrev pub before_write : Typing → TypedTree → TypedTree → List Placed
before_write s target e = acts_in s e ++ index_acts s target

abbrev pub stored_acts : Typing → TypedTree → TypedTree → List Placed
stored_acts s target e = before_write s target e ++ naming (written target) act.Write

abbrev pub whole_acts : Typing → Pos → ℕ → TypedTree → TypedTree → List Placed
whole_acts s p x target e =
    if is_borrower s x then index_acts s e ++ reborrow (target_pos p (written target)) x (source e)
    else (if is_observer s x then source_acts s e (observe s x) else stored_acts s target e)

abbrev pub assigned_to : Typing → Pos → Option ℕ → TypedTree → TypedTree → List Placed
assigned_to s p None target e = stored_acts s target e
assigned_to s p (Some x) target e = whole_acts s p x target e

-- The value of a return, which a traversal function gives.
abbrev pub gives_variable : Typing → Option ℕ → Bool
gives_variable s None = false
gives_variable s (Some t) = is_borrowing (full s.table t)

abbrev pub returned_acts : Typing → Option ℕ → TypedTree → List Placed
returned_acts s result v =
    if traverses s.table result then source_acts s (first v) (λ m. act.Give m (gives_variable s result)) else acts_in s v

-- The acts of an instruction at a position. Of a call, the acts on the package objects that the
-- callee uses follow (specs/Effects.antt).
abbrev pub acts_of : Frame → Pos → Instruction → List Placed
acts_of f p Skip = []
acts_of f p (Declare x v) = declared_acts f.typing x v
acts_of f p (Assign target e) = assigned_to f.typing p (whole target) target e
acts_of f p (instruction.Call sub actuals result) =
    let ways : List Passing = passings f.typing (sub_at f.typing sub) in
    actual_values f.typing ways actuals ++ actual_acts ways actuals
acts_of f p (Output text line) = acts_in f.typing text
acts_of f p (Input target) = source_acts f.typing target (λ m. act.Actual m mode.Out false false)
acts_of f p (Release m) = source_acts f.typing m act.Free
acts_of f p (Test e) = acts_in f.typing e
acts_of f p (Choose e choices) = acts_in f.typing e
acts_of f p (Start x reversed low high) = acts_in f.typing low ++ acts_in f.typing high
acts_of f p (Next x reversed low high) = []
acts_of f p (Evaluate t e left) = acts_in f.typing e
acts_of f p (LeaveLoop e) = acts_in f.typing e
acts_of f p (Hold v) = returned_acts f.typing f.result v
acts_of f p (EndScope x) = placed p (act.EndScope x (is_borrower f.typing x)) ∷ []
acts_of f p Finish = placed p (act.Return f.roots) ∷ []
acts_of f p Fall = []

-- The leak checks of an instruction: of an assignment's target, of `out` actuals, of what a freed
-- name designates, and of an object whose scope ends. A borrower or observer has no access parts.
abbrev pub leaks_of : Frame → Pos → Instruction → List LeakSpot
leaks_of f p (Assign target e) = spots_at f.typing (written target) (length (before_write f.typing target e))
leaks_of f p (instruction.Call sub actuals result) =
    let ways : List Passing = passings f.typing (sub_at f.typing sub) in
    call_spots f.typing ways actuals (length (actual_values f.typing ways actuals))
leaks_of f p (Release m) = designated_spots f.typing (written m) (length (index_acts f.typing m))
leaks_of f p (EndScope x) = map (spot p (object x) 0) (parts f.typing.table (object_at f.typing x).of)
leaks_of f p _ = []
