-- What a program needs, beside types, to be lowered to codes.
--
-- What a step names has room: it is an object of a package, or one that the subprogram itself has as
-- a formal or declares. Positions of literals are words. A loop starts before it turns.
use Rattle.std.specs.Prelude.{◌≡◌, ◌<◌, ◌≤◌, ℕ, Bool, true, false, List, [], ◌∷◌, ◌++◌, length, if◌then◌else◌}
use Rattle.machine.specs.spark_base.Lists.{Has}
use Rattle.machine.specs.type_definitions.Types.{Table, shape_of, is_owning, owns_of}
use Rattle.machine.specs.type_definitions.Entries.{integer, boolean}
use Rattle.machine.specs.typed_tree.Trees.{TypedTree, Literal, Name, Component, Designated, Element, Image, Parens, Unary, Binary, Short, IsNull, Aggregate, Alike, New, More}
use Rattle.machine.specs.typed_tree.Trees as typed
use Rattle.machine.specs.flow_paths.Instructions.{Instruction, Declare, Assign, Call, Output, Input, Release, Test, Choose, Start, Next, Evaluate, LeaveLoop, Hold, EndScope}
use Rattle.machine.specs.flow_paths.Objects.{is_package_object}
use Rattle.machine.specs.flow_paths.Points.{FlowPoint}
use Rattle.machine.specs.flow_paths.Laid.{FlowSub, FlowProgram, flow_typing}
use Rattle.machine.specs.Typed.{sorts, sorts_of}
use Rattle.machine.specs.States.{sub_of}
use Rattle.settled_types.specs.OrderLaws.ScopeLaws.Order.{named_in}
use Rattle.soundness.specs.TypedLaws.Fine.{counts, lists}
use Rattle.soundness.specs.TypedLaws.TypedSteps.Steps.{AreTyped, AreCounted}
use Rattle.run_codes.specs.Lowered.{Site, max_position}
use Rattle.run_codes.specs.Programs.{has_room, is_loop, objects_of}

-- ---- literals

-- The positions of the literals in an expression.
unfoldable pub literals : TypedTree → List ℕ
literals (Literal n) = n ∷ []
literals (Name p x steps t) = literals steps
literals (Component i rest) = literals rest
literals (Designated rest) = literals rest
literals (Element index low high rest) = literals index ++ literals rest
literals (typed.Call p sub actuals) = literals actuals
literals (Image t e) = literals e
literals (Parens e) = literals e
literals (Unary op e) = literals e
literals (Binary op a b) = literals a ++ literals b
literals (Short op p a q b) = literals a ++ literals b
literals (IsNull equal e) = literals e
literals (Aggregate t es) = literals es
literals (Alike t e) = literals e
literals (New t v) = literals v
literals (More e rest) = literals e ++ literals rest
literals _ = []

-- Those in the expressions of a step.
abbrev pub literals_in : Instruction → List ℕ
literals_in (Declare x v) = literals v
literals_in (Assign target e) = literals e ++ literals target
literals_in (Call sub actuals result) = literals actuals
literals_in (Output text line) = literals text
literals_in (Input target) = literals target
literals_in (Release m) = literals m
literals_in (Test e) = literals e
literals_in (Choose e choices) = literals e
literals_in (Start x reversed low high) = literals low ++ literals high
literals_in (Evaluate t e left) = literals e
literals_in (LeaveLoop e) = literals e
literals_in (Hold v) = literals v
literals_in _ = []

-- ---- steps

-- An object has room among those of packages, or in the frame.
abbrev pub HasRoom : Site → ℕ → Type 0
HasRoom c x = (if is_package_object c.typing x then has_room x c.package_objects else has_room x c.own) ≡ true

-- An object that a subprogram declares itself: one of a package where that is the first subprogram,
-- and no other one elsewhere.
abbrev pub IsOwn : Site → Bool → ℕ → Type 0
IsOwn c is_first x = (is_package_object c.typing x ≡ is_first) × (has_room x c.own ≡ true)

-- What a step declares, or ends the scope of, is the subprogram's own. The parameter of a loop is
-- declared by its start alone.
abbrev pub Declares : Site → Bool → Instruction → Type 0
Declares c is_first (Declare x v) = IsOwn c is_first x
Declares c is_first (EndScope x) = IsOwn c is_first x
Declares c is_first (Start x reversed low high) = IsOwn c is_first x × (is_loop x c.own ≡ true)
Declares c is_first (Next x reversed low high) = IsOwn c is_first x × (is_loop x c.own ≡ true)
Declares c is_first _ = Unit {0}

-- A point of a subprogram that has so many.
pub record IsPlaced (c : Site) (is_first : Bool) (count : ℕ) (p : FlowPoint) : Type 0 where
  pub named : (x : ℕ) → Has (named_in p.instr) x → HasRoom c x
  pub literals : (n : ℕ) → Has (literals_in p.instr) n → n ≤ max_position
  pub declares : Declares c is_first p.instr
  -- successors are points of the subprogram
  pub within : (n : ℕ) → Has p.next n → n < count

-- ---- programs

abbrev pub site_of : FlowProgram → FlowSub → Site
site_of program sub = record {
  typing = flow_typing program;
  own = objects_of sub;
  package_objects = objects_of (sub_of program 0);
  takes = [];
}

abbrev pub IsDeclaration : Instruction → Type 0
IsDeclaration (Declare x v) = Unit {0}
IsDeclaration _ = ⊥

-- The first subprogram declares the objects of packages, and does nothing else.
abbrev pub ArePlaced : FlowProgram → List FlowSub → Type 0
ArePlaced program [] = Unit {0}
ArePlaced program (first ∷ rest) =
    ((p : FlowPoint) → Has first.points p → IsPlaced (site_of program first) true (length first.points) p × IsDeclaration p.instr)
    × ((sub : FlowSub) → Has rest sub → (p : FlowPoint) → Has sub.points p → IsPlaced (site_of program sub) false (length sub.points) p)

-- Whether a type owns, and the sorts of its words, go by its definition; Integer is one of numbers,
-- and Boolean one of literals.
pub record AreDefined (table : Table) : Type 0 where
  pub owns : (t : ℕ) → is_owning table t ≡ owns_of (is_owning table) (shape_of table t)
  pub sorted : (t : ℕ) → sorts table t ≡ sorts_of (sorts table) (shape_of table t)
  pub whole : counts (shape_of table integer) ≡ true
  pub listed : lists (shape_of table boolean) ≡ true

-- What lowering needs of a program: typed steps with as many successors as they lead to, in which
-- what is named has room.
pub record IsLowerable (program : FlowProgram) : Type 0 where
  pub defined : AreDefined program.table
  pub typed : AreTyped program
  pub counted : AreCounted program.subs
  pub placed : ArePlaced program program.subs
