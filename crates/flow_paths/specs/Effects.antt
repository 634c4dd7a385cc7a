-- Which package objects a subprogram reads and writes, and Ada.Text_IO, over chains of calls
-- (docs/FLOW.md, "Effects"); and the acts that a call does on them.
use Rattle.std.specs.Prelude.{◌≡◌, ℕ, suc, ◌<◌, Bool, true, false, not, ◌&&◌, ◌||◌, ◌==◌, List, [], ◌∷◌, ◌++◌, map, drop, length, get_or, IsTrue, None, if◌then◌else◌}
use Rattle.std.specs.List.{list_any}
use Rattle.typed_tree.specs.spark_base.Lists.{Has}
use Rattle.typed_tree.specs.spark_base.declared.position.Pos.{Pos}
use Rattle.typed_tree.specs.place_names.Names.{Name}
use Rattle.typed_tree.specs.place_names.declared.act.Mode.{Mode}
use Rattle.typed_tree.specs.place_names.declared.act.Mode.TheVariants as mode
use Rattle.typed_tree.specs.place_names.declared.act.Act.{Act}
use Rattle.typed_tree.specs.place_names.declared.act.Act.TheVariants as act
use Rattle.typed_tree.specs.place_names.declared.act.Placed.{Placed}
use Rattle.typed_tree.specs.declared.object.Object.{Object}
use Rattle.typed_tree.specs.Trees.{TypedTree, Name as Named, Component, Designated, Element, Call as CallOf, EndOfFile, Image, Parens, Unary, Binary, Short, IsNull, Aggregate, Alike, New, More}
use Rattle.flow_paths.specs.declared.report.Effects.{Effects}
use Rattle.flow_paths.specs.Instructions.{Instruction, Declare, Assign, Call, Output, Input, Release, Test, Choose, Start, Evaluate, LeaveLoop, Hold}
use Rattle.flow_paths.specs.Objects.{Typing, is_package_object}
use Rattle.flow_paths.specs.Acts.{placed}
use Rattle.flow_paths.specs.Points.{FlowPoint}
use Rattle.flow_paths.specs.Laid.{FlowSub, FlowProgram, flow_typing}
use Rattle.flow_paths.specs.Paths.{PathPoint}

abbrev pub is_in : ℕ → List ℕ → Bool
is_in x xs = list_any (λ y. x == y) xs

-- ---- what a text does itself

abbrev pub roots_in : ℕ → Name → Bool
roots_in g m = m.root == g

-- An actual of mode `in` is tested as a borrow where it is of a named access type in the call of a
-- procedure: then it writes.
abbrev pub actual_writes : Mode → Bool → Bool
actual_writes mode.In access = access
actual_writes mode.Out access = true
actual_writes mode.InOut access = true

-- An act writes what its name is rooted in, or reads it.
abbrev pub act_writes : ℕ → Act → Bool
act_writes g (act.Write m) = roots_in g m
act_writes g (act.Move m parts) = roots_in g m
act_writes g (act.Free m) = roots_in g m
act_writes g (act.Borrow h m) = roots_in g m
act_writes g (act.Actual m how owning access) = roots_in g m && actual_writes how access
act_writes g _ = false

abbrev pub act_reads : ℕ → Act → Bool
act_reads g (act.Read m) = roots_in g m
act_reads g (act.Look m) = roots_in g m
act_reads g (act.Observe h m from_observer) = roots_in g m
act_reads g (act.Give m borrows) = roots_in g m
act_reads g (act.Actual m how owning access) = roots_in g m && not (actual_writes how access)
act_reads g _ = false

-- Put, Put_Line, New_Line and Get write Ada.Text_IO.
abbrev pub writes_text : Instruction → Bool
writes_text (Output text line) = true
writes_text (Input target) = true
writes_text _ = false

-- End_Of_File reads it.
unfoldable pub asks_for_end : TypedTree → Bool
asks_for_end EndOfFile = true
asks_for_end (Named p x steps t) = asks_for_end steps
asks_for_end (Component i rest) = asks_for_end rest
asks_for_end (Designated rest) = asks_for_end rest
asks_for_end (Element index low high rest) = asks_for_end index || asks_for_end rest
asks_for_end (CallOf p sub actuals) = asks_for_end actuals
asks_for_end (Image t e) = asks_for_end e
asks_for_end (Parens e) = asks_for_end e
asks_for_end (Unary op e) = asks_for_end e
asks_for_end (Binary op a b) = asks_for_end a || asks_for_end b
asks_for_end (Short op p a q b) = asks_for_end a || asks_for_end b
asks_for_end (IsNull equal e) = asks_for_end e
asks_for_end (Aggregate t parts) = asks_for_end parts
asks_for_end (Alike t e) = asks_for_end e
asks_for_end (New t v) = asks_for_end v
asks_for_end (More e rest) = asks_for_end e || asks_for_end rest
asks_for_end _ = false

abbrev pub reads_text : Instruction → Bool
reads_text (Declare x v) = asks_for_end v
reads_text (Assign target e) = asks_for_end target || asks_for_end e
reads_text (Call sub actuals result) = asks_for_end actuals
reads_text (Output text line) = asks_for_end text
reads_text (Input target) = asks_for_end target
reads_text (Release m) = asks_for_end m
reads_text (Test e) = asks_for_end e
reads_text (Choose e choices) = asks_for_end e
reads_text (Start x reversed low high) = asks_for_end low || asks_for_end high
reads_text (Evaluate t e left) = asks_for_end e
reads_text (LeaveLoop e) = asks_for_end e
reads_text (Hold v) = asks_for_end v
reads_text _ = false

abbrev pub point_writes : ℕ → FlowPoint → Bool
point_writes g p = (g == 0 && writes_text p.instr) || list_any (λ (a : Placed). act_writes g a.act) p.acts

abbrev pub point_reads : ℕ → FlowPoint → Bool
point_reads g p = (g == 0 && reads_text p.instr) || list_any (λ (a : Placed). act_reads g a.act) p.acts

-- A package object, or Ada.Text_IO.
abbrev pub is_global : Typing → ℕ → Bool
is_global s g = g == 0 || is_package_object s g

abbrev pub own_writes : Typing → FlowSub → ℕ → Bool
own_writes s sub g = is_global s g && list_any (point_writes g) sub.points

abbrev pub own_reads : Typing → FlowSub → ℕ → Bool
own_reads s sub g = is_global s g && list_any (point_reads g) sub.points

-- ---- chains of calls

abbrev pub calls : ℕ → Instruction → Bool
calls q (Call sub actuals result) = sub == q
calls q _ = false

-- The text of a subprogram calls another one.
abbrev pub sub_calls : FlowSub → ℕ → Bool
sub_calls sub q = list_any (λ p. calls q p.instr) sub.points

abbrev pub flow_sub_at : FlowProgram → ℕ → FlowSub
flow_sub_at program n =
    get_or program.subs n
    (record { pos = record { file = 0; line = 1; column = 1 }; words = 1; formals = []; result = None; points = []; facts = [] })

-- A chain of calls: from a subprogram, each one calling the next, to a last one. It may have no
-- calls.
pub data CallChain (program : FlowProgram) : ℕ → ℕ → Type 0 where
  ends : (p : ℕ) → CallChain program p p
  calls_on : (p q last : ℕ) → IsTrue (sub_calls (flow_sub_at program p) q) → CallChain program q last
      → CallChain program p last

-- Some chain of calls ends at a subprogram whose own text reads, or writes, the object.
pub record Reads (program : FlowProgram) (p g : ℕ) : Type 0 where
  pub last : ℕ
  pub chain : CallChain program p last
  pub own : IsTrue (own_reads (flow_typing program) (flow_sub_at program last) g)

pub record Writes (program : FlowProgram) (p g : ℕ) : Type 0 where
  pub last : ℕ
  pub chain : CallChain program p last
  pub own : IsTrue (own_writes (flow_typing program) (flow_sub_at program last) g)

abbrev pub read_by : Effects → ℕ → List ℕ
read_by effects p = get_or effects.read p []

abbrev pub written_by : Effects → ℕ → List ℕ
written_by effects p = get_or effects.written p []

abbrev pub Ascends : List ℕ → Type 0
Ascends [] = Unit {0}
Ascends (x ∷ rest) = ((y : ℕ) → Has rest y → x < y) × Ascends rest

-- Effects are those of a program: of each subprogram exactly the objects that it reads and writes.
pub record AreEffects (program : FlowProgram) (effects : Effects) : Type 0 where
  pub read_count : length effects.read ≡ length program.subs
  pub written_count : length effects.written ≡ length program.subs
  pub read_order : (p : ℕ) → Ascends (read_by effects p)
  pub written_order : (p : ℕ) → Ascends (written_by effects p)
  pub reads : (p g : ℕ) → p < length program.subs → (Has (read_by effects p) g → Reads program p g) × (Reads program p g → Has (read_by effects p) g)
  pub writes : (p g : ℕ) → p < length program.subs → (Has (written_by effects p) g → Writes program p g) × (Writes program p g → Has (written_by effects p) g)

-- ---- what a call does to package objects

abbrev pub global_act : ℕ → Bool → Bool → List Act
global_act g read written =
    if written then act.Global g true ∷ [] else (if read then act.Global g false ∷ [] else [])

-- Those of the objects from the n-th one on, in order.
abbrev pub globals_from : ℕ → List Object → List ℕ → List ℕ → List Act
globals_from n [] read written = []
globals_from n (_ ∷ rest) read written =
    global_act n (is_in n read) (is_in n written) ++ globals_from (suc n) rest read written

-- A Global act for each package object that a callee reads or writes; Ada.Text_IO has none.
abbrev pub globals_of : FlowProgram → Effects → ℕ → List Act
globals_of program effects callee =
    globals_from 1 (drop 1 program.objects) (read_by effects callee) (written_by effects callee)

abbrev pub called_acts : FlowProgram → Effects → Pos → Instruction → List Placed
called_acts program effects p (Call sub actuals result) = map (placed p) (globals_of program effects sub)
called_acts program effects p _ = []

-- All acts of a point: those of its instruction, and then those on the package objects that the
-- callee of a call reads or writes.
abbrev pub all_acts : FlowProgram → Effects → FlowPoint → List Placed
all_acts program effects p = p.acts ++ called_acts program effects p.pos p.instr

abbrev pub path_points : FlowProgram → Effects → FlowSub → List PathPoint
path_points program effects sub = map (λ (p : FlowPoint). record { acts = all_acts program effects p; next = p.next }) sub.points
