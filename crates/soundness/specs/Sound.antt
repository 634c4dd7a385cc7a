-- What an accepted program is, the frames of its runs, and what is to be proved of runs.
use Rattle.std.specs.Prelude.{◌≡◌, ◌⊎◌, ◌<◌, ℕ, Bool, true, false, not, ◌&&◌, List, [], ◌∷◌, ◌++◌, filter, length, get_or, Option, Some, None}
use Rattle.std.specs.List.{list_any}
use Rattle.machine.specs.spark_base.Lists.{Has}
use Rattle.machine.specs.place_names.declared.fact.Fact.{Fact}
use Rattle.machine.specs.type_definitions.Entries.{boolean}
use Rattle.machine.specs.type_definitions.Types.{Table, full, is_scalar}
use Rattle.machine.specs.typed_tree.Trees.{TypedTree, Name, Component, Designated, Element, More}
use Rattle.machine.specs.typed_tree.Programs.{TypedProgram}
use Rattle.machine.specs.flow_paths.declared.report.Effects.{Effects}
use Rattle.machine.specs.flow_paths.Instructions.{Instruction, Declare, Assign, Call, Output, Input, Release, Test, Choose, Start, Evaluate, LeaveLoop, Hold}
use Rattle.machine.specs.flow_paths.Objects.{Typing, object_at, sub_at}
use Rattle.machine.specs.flow_paths.Names.{has_call}
use Rattle.machine.specs.flow_paths.Points.{NamedPoint, FlowPoint}
use Rattle.machine.specs.flow_paths.Laid.{FlowSub, FlowProgram, NamedSub, flow_typing, flow_program, flow_named}
use Rattle.machine.specs.flow_paths.Paths.{facts_before}
use Rattle.machine.specs.flow_paths.Effects.{path_points, read_by, written_by, AreEffects}
use Rattle.machine.specs.flow_paths.Reports.{AreReports}
use Rattle.machine.specs.flow_paths.Scopes.{is_within, is_temporary}
use Rattle.machine.specs.Memory.{Memory}
use Rattle.machine.specs.States.{Waiting, Return, Frame, State, Ending, Trapped, Outcome, Goes, Ends, sub_of}
use Rattle.machine.specs.Typed.{successors}
use Rattle.machine.specs.Owners.{is_in, WellOwned, waiting_in}
use Rattle.machine.specs.Run.{no_point, main_of, run_of, moment}
use Rattle.soundness.specs.OwnedWays.Ways.{OfRoot, Way, Held, View, Step}
use Rattle.soundness.specs.OwnedWays.Ways as ways
use Rattle.soundness.specs.PartOffsets.Parts.{IsSettled}
use Rattle.soundness.specs.Seen.{content, word_in, seen}
use Rattle.soundness.specs.Typed.{IsFixed}
use Rattle.soundness.specs.TypedLaws.Needed.{AreFine}

-- ---- the program

-- An accepted program, and what is known of it: no reports, its effects, types that are made of
-- finitely many others, and the laws of typing.
pub record Accepted (table : Table) (typed : TypedProgram) (effects : Effects) : Type 0 where
  pub no_reports : AreReports (flow_program table typed) effects []
  pub effects_are : AreEffects (flow_program table typed) effects
  pub settled : IsSettled (flow_program table typed).table
  pub fine : AreFine (flow_program table typed)

-- No subprogram of the program is called. (An operand is evaluated at a point of its own only beside
-- a call.)
abbrev pub calls_nothing : Instruction → Bool
calls_nothing (Call sub actuals result) = false
calls_nothing (Evaluate temporary e left) = false
calls_nothing (Declare x v) = not (has_call v)
calls_nothing (Assign target e) = not (has_call target) && not (has_call e)
calls_nothing (Output text line) = not (has_call text)
calls_nothing (Input target) = not (has_call target)
calls_nothing (Release e) = not (has_call e)
calls_nothing (Test e) = not (has_call e)
calls_nothing (Choose e choices) = not (has_call e)
calls_nothing (Start x reversed low high) = not (has_call low) && not (has_call high)
calls_nothing (LeaveLoop e) = not (has_call e)
calls_nothing (Hold v) = not (has_call v)
calls_nothing _ = true

abbrev pub IsNoCall : Instruction → Type 0
IsNoCall i = (n : ℕ) (actuals : TypedTree) (result : Option ℕ) → i ≡ Call n actuals result → ⊥

-- A name that goes through no access value.
unfoldable pub goes_through_none : TypedTree → Bool
goes_through_none (Name p x path t) = goes_through_none path
goes_through_none (Component i rest) = goes_through_none rest
goes_through_none (Element index low high rest) = goes_through_none rest
goes_through_none (Designated rest) = false
goes_through_none _ = true

-- Actuals that are copied back to are such names.
abbrev pub AreCopied : Typing → List ℕ → TypedTree → Type 0
AreCopied s (x ∷ formals) (More e rest) = (is_in (object_at s x).mode ≡ false → goes_through_none e ≡ true) × AreCopied s formals rest
AreCopied s formals actuals = Unit {0}

-- Only procedures are.
abbrev pub calls_procedures : Instruction → Bool
calls_procedures (Call sub actuals None) = not (has_call actuals)
calls_procedures i = calls_nothing i

-- How many temporaries are in scope.
abbrev pub is_temporary_object : Typing → ℕ → Bool
is_temporary_object s x = is_temporary (object_at s x).kind

abbrev pub temporaries_in : Typing → List ℕ → ℕ
temporaries_in s scope = length (filter (is_temporary_object s) scope)

-- Functions have results of scalar types, and so are truth values.
abbrev pub ArePlainResults : Typing → Type 0
ArePlainResults s = ((n t : ℕ) → (sub_at s n).result ≡ Some t → is_scalar (full s.table t) ≡ true) × (is_scalar (full s.table boolean) ≡ true)

-- The subprogram of the layout with a number, and the point there with a number.
abbrev pub IsNamedSub : List NamedSub → ℕ → NamedSub → Type 0
IsNamedSub subs n sub = (front : List NamedSub) × (rest : List NamedSub) × (subs ≡ front ++ sub ∷ rest) × (length front ≡ n)

abbrev pub IsAtPoint : List NamedPoint → ℕ → NamedPoint → Type 0
IsAtPoint points n p = (front : List NamedPoint) × (rest : List NamedPoint) × (points ≡ front ++ p ∷ rest) × (length front ≡ n)

-- A procedure has a first point. Each of its points has the successors that its instruction leads
-- to.
pub record IsProcedure (table : Table) (typed : TypedProgram) (n : ℕ) : Type 0 where
  pub named : NamedSub
  pub stands : IsNamedSub (flow_named table typed) n named
  pub procedure : (sub : NamedSub) → IsNamedSub (flow_named table typed) n sub → sub.sub.result ≡ None
  pub point : NamedPoint
  pub points : List NamedPoint
  pub begins : named.points ≡ point ∷ points
  pub leads : (p : FlowPoint) → Has (sub_of (flow_program table typed) n).points p → length p.next ≡ successors p.instr

-- A subprogram that may run is the main procedure, or some point calls it.
abbrev pub IsEntered : FlowProgram → ℕ → Type 0
IsEntered program n =
    (program.main ≡ Some n)
    ⊎ ((sub : FlowSub) × Has program.subs sub × (p : FlowPoint) × Has sub.points p × (actuals : TypedTree) × (result : Option ℕ) × (p.instr ≡ Call n actuals result))

-- A procedure or a function, with a first point and with the successors that its instructions lead
-- to.
pub record IsRunnable (table : Table) (typed : TypedProgram) (n : ℕ) : Type 0 where
  pub named : NamedSub
  pub stands : IsNamedSub (flow_named table typed) n named
  pub entered : IsEntered (flow_program table typed) n
  pub point : NamedPoint
  pub points : List NamedPoint
  pub begins : named.points ≡ point ∷ points
  pub leads : (p : FlowPoint) → Has (sub_of (flow_program table typed) n).points p → length p.next ≡ successors p.instr

-- ---- frames

-- A frame with the points that it has executed, the latest first. Frames are counted from that of
-- the package objects. `returns` has, for each formal that is copied back, the way to its place.
pub record Stage : Type 0 where
  pub frame : Frame
  pub depth : ℕ
  pub before : List ℕ
  pub returns : List Way

abbrev pub facts_of : FlowProgram → Effects → Stage → List Fact
facts_of program effects g = facts_before (path_points program effects (sub_of program g.frame.sub)) g.before

-- The frames of a state, each with its executed points.
abbrev pub AreStages : List Stage → List Frame → Type 0
AreStages [] [] = Unit {0}
AreStages (g ∷ older) (f ∷ outer) = (g.frame ≡ f) × (g.depth ≡ length outer) × AreStages older outer
AreStages _ _ = ⊥

-- A formal of a scalar type is copied back to a place in a variable.
abbrev pub IsCopied : Typing → Return → Type 0
IsCopied s r = (is_scalar (full s.table (object_at s r.formal).of) ≡ true) × IsFixed s r.to

-- Nothing waits in a frame, and nothing is copied back.
abbrev pub IsPlain : Stage → Type 0
IsPlain g = (g.frame.waits ≡ []) × (g.frame.returns ≡ []) × (g.returns ≡ [])

-- A value of a scalar type, in one word. As many of these wait in a frame as temporaries are in scope.
abbrev pub IsPlainValue : Typing → Waiting → Type 0
IsPlainValue s v = (is_scalar (full s.table v.of) ≡ true) × (length v.words ≡ 1)

-- A function has given its result if it has executed the return; before that, the temporary of its
-- caller that is to hold the result is empty.
abbrev pub returns_value : Instruction → Bool
returns_value (Hold (More e rest)) = true
returns_value _ = false

abbrev pub has_returned : FlowSub → List ℕ → Bool
has_returned sub before = list_any (λ n. returns_value (get_or sub.points n no_point).instr) before

-- A subprogram reads or writes a package object, itself or by what it calls.
abbrev pub Uses : Effects → ℕ → ℕ → Type 0
Uses effects n x = Has (read_by effects n) x ⊎ Has (written_by effects n) x

-- ---- what holds

-- What is in hand between two steps is what waits in the frames.
abbrev pub view_of : Typing → State → View
view_of s state = seen s state.memory (waiting_in state) state.leaks

-- A variable that owns a cell is one of these.
abbrev pub HoldOnly : Typing → Memory → (ℕ → ℕ → Type 0) → Type 0
HoldOnly s m these =
    (f x : ℕ) (p : List Step) (n : ℕ) → word_in s.table (content s m [] (OfRoot (ways.OfVariable f x))) p ≡ Held n → these f x

-- It is one of an older frame, or it is in scope in the innermost one.
abbrev pub InScope : Typing → Memory → ℕ → List ℕ → Type 0
InScope s m depth scope = HoldOnly s m (λ f x. (f < depth) ⊎ ((f ≡ depth) × (is_within x scope ≡ true)))

-- ---- what is to be proved

abbrev pub IsTrap : Ending → Type 0
IsTrap (Trapped t p) = Unit {0}
IsTrap _ = ⊥

-- ---- where the frames come from

-- A frame after one more point.
abbrev pub IsOnward : Stage → Stage → Type 0
IsOnward g h = (h.frame.sub ≡ g.frame.sub) × (h.depth ≡ g.depth) × (h.before ≡ g.frame.next ∷ g.before)

-- Owners see the same in the variables of these frames, and in all cells.
abbrev pub AreSameWords : Typing → (ℕ → Type 0) → Memory → Memory → Type 0
AreSameWords s these m n =
    ((f x : ℕ) (p : List Step) → these f
    → word_in s.table (content s n [] (OfRoot (ways.OfVariable f x))) p ≡ word_in s.table (content s m [] (OfRoot (ways.OfVariable f x))) p)
    × ((c : ℕ) (p : List Step) → word_in s.table (content s n [] (ways.OfCell c)) p ≡ word_in s.table (content s m [] (ways.OfCell c)) p)

abbrev pub ending_of : Outcome → Option Ending
ending_of (Goes s) = None
ending_of (Ends e s) = Some e

-- Each moment of the run of an accepted program is well owned, and none is a trap.
pub record RunIsSound (table : Table) (typed : TypedProgram) (input : List ℕ) : Type 0 where
  pub owned : (n : ℕ) → WellOwned (flow_typing (flow_program table typed)) (moment (flow_program table typed) input n)
  pub no_trap : (n : ℕ) (e : Ending) → ending_of (run_of (flow_program table typed) (main_of (flow_program table typed).main) input n) ≡ Some e
      → IsTrap e → ⊥
