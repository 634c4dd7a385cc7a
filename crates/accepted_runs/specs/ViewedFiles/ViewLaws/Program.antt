-- A program with borrowers and observers and what is known of it.
use Rattle.std.specs.Prelude.{◌≡◌, ◌⊎◌, ℕ, suc, true, false, List, ◌∷◌, Option, Some, None}
use Rattle.machine.specs.spark_base.Lists.{Has}
use Rattle.machine.specs.spark_base.declared.position.Pos.{Pos}
use Rattle.machine.specs.place_names.declared.act.Mode.{Mode}
use Rattle.machine.specs.place_names.declared.act.Mode.TheVariants as mode
use Rattle.machine.specs.type_definitions.Types.{Table, full, is_scalar}
use Rattle.machine.specs.type_definitions.Entries.{integer, boolean}
use Rattle.machine.specs.typed_tree.Trees.{TypedTree, Name, Call as CallIn, Null, NoMore, More}
use Rattle.machine.specs.typed_tree.Programs.{TypedSub, TypedProgram}
use Rattle.machine.specs.flow_paths.declared.report.Effects.{Effects}
use Rattle.machine.specs.flow_paths.Instructions.{Instruction, Declare, Assign, Call, Hold}
use Rattle.machine.specs.flow_paths.Objects.{Typing, is_named_access, is_anonymous, is_variable, traverses, view_of, object_at, sub_at, is_formal}
use Rattle.machine.specs.flow_paths.Views.{traversed_of}
use Rattle.machine.specs.flow_paths.Points.{FlowPoint}
use Rattle.machine.specs.flow_paths.Laid.{FlowSub, FlowProgram, typing_of, flow_typing, flow_program}
use Rattle.machine.specs.States.{sub_of}
use Rattle.soundness.specs.Typed.{OwnsByShape}
use Rattle.soundness.specs.TypedLaws.Needed.{Matches, IsPlace}
use Rattle.soundness.specs.Sound.{Accepted}
use Rattle.settled_types.specs.OrderLaws.ScopeLaws.Alone.{ResultsFit}
use Rattle.settled_types.specs.OrderLaws.ReadyLaws.InOrder.{IsInOrder, AreAnswered, AreStill, ArePassed}
use Rattle.soundness.specs.Seen.{is_view_formal}
use Rattle.soundness.specs.ViewedSoundness.Holds.{IsAccess, PartsAreNamed, is_given, is_exclusive}
use Rattle.viewed_steps.specs.Traversals.{GivesView, IsSourceName}
use Rattle.viewed_steps.specs.Sound.{IsScalarObject, IsKindOfFormal, IsStoredAt}
use Rattle.viewed_steps.specs.Ready.{IsActualTo}
use Rattle.accepted_runs.specs.ViewedFiles.ViewLaws.InOrder.{AreViewsInOrder}

-- What is passed is as it is asked for; but where it is copied back to, nothing is asked of the object that it is rooted in.
abbrev pub IsPassedTo : Typing → ℕ → Mode → TypedTree → Type 0
IsPassedTo s x mode.In e = IsActualTo s x mode.In e
IsPassedTo s x m e =
    (t : ℕ) × IsPlace s e t × Matches s.table t (object_at s x).of

abbrev pub ArePassedTo : Typing → List ℕ → TypedTree → Type 0
ArePassedTo s (x ∷ formals) (More e rest) = IsPassedTo s x (object_at s x).mode e × ArePassedTo s formals rest
ArePassedTo s formals actuals = (x : ℕ) → Has formals x → IsScalarObject s x

abbrev pub PassActuals : FlowProgram → Type 0
PassActuals program =
    (sub : FlowSub) → Has program.subs sub → (p : FlowPoint) → Has sub.points p → (n : ℕ) (actuals : TypedTree) (result : Option ℕ)
    → p.instr ≡ Call n actuals result → ((x : ℕ) → Has (sub_of program n).formals x → is_formal (flow_typing program) x ≡ true)
    → ArePassedTo (flow_typing program) (sub_of program n).formals actuals

-- ---- traversal functions

-- In each call of one, the first actual is a name.
abbrev pub TraversesNames : FlowProgram → Type 0
TraversesNames program =
    (sub : FlowSub) → Has program.subs sub → (p : FlowPoint) → Has sub.points p → (n : ℕ) (actuals : TypedTree) (result : Option ℕ)
    → p.instr ≡ Call n actuals result → traverses program.table (sub_of program n).result ≡ true
    → (q : Pos) × (y : ℕ) × (path : TypedTree) × (u : ℕ) × (more : TypedTree) × (actuals ≡ More (Name q y path u) more)

-- What one gives is taken by a view, or returned by another one.
abbrev pub TakesView : Typing → Option ℕ → Instruction → Type 0
TakesView s result (Declare x (More (CallIn q n a) rest)) =
    traverses s.table (sub_at s n).result ≡ true → (is_anonymous (view_of s x) ≡ true) × GivesView s n (object_at s x).of
TakesView s result (Assign target (CallIn q n a)) =
    traverses s.table (sub_at s n).result ≡ true
    → (r : Pos) × (x : ℕ) × (u : ℕ) × (target ≡ Name r x NoMore u) × (is_anonymous (view_of s x) ≡ true) × GivesView s n (object_at s x).of
TakesView s result (Hold (More (CallIn q n a) rest)) = traverses s.table (sub_at s n).result ≡ true → traverses s.table result ≡ true
TakesView s result i = Unit {0}

-- It is accepted and typed, and anonymous access types are those of objects and results alone. What functions give is of
-- scalar types; or it stands alone. Formals are of the four kinds, those of functions of mode `in`, and nothing is changed
-- through these; and its subprograms and views are in order.
pub record IsViewProgram (table : Table) (typed : TypedProgram) (effects : Effects) : Type 0 where
  pub accepted : Accepted table typed effects
  pub owns : OwnsByShape (flow_program table typed).table
  pub parts_named : PartsAreNamed (flow_program table typed).table
  pub integers : is_scalar (full (flow_program table typed).table integer) ≡ true
  pub truths : is_scalar (full (flow_program table typed).table boolean) ≡ true
  pub formals : (x : ℕ) → is_formal (flow_typing (flow_program table typed)) x ≡ true → IsKindOfFormal (flow_typing (flow_program table typed)) x
  pub functions : (n t : ℕ) → (sub_at (flow_typing (flow_program table typed)) n).result ≡ Some t → (x : ℕ)
      → Has (sub_at (flow_typing (flow_program table typed)) n).formals x → is_formal (flow_typing (flow_program table typed)) x ≡ true
      → is_given (flow_typing (flow_program table typed)) x ≡ true
      → is_exclusive (flow_typing (flow_program table typed)) x ≡ false
  pub modes : (n t : ℕ) → (sub_at (flow_typing (flow_program table typed)) n).result ≡ Some t → (x : ℕ)
      → Has (sub_at (flow_typing (flow_program table typed)) n).formals x → (object_at (flow_typing (flow_program table typed)) x).mode ≡ mode.In
  pub procedures : (n : ℕ) → (sub_at (flow_typing (flow_program table typed)) n).result ≡ None → (x : ℕ)
      → Has (sub_at (flow_typing (flow_program table typed)) n).formals x → is_formal (flow_typing (flow_program table typed)) x ≡ true
      → is_view_formal (flow_typing (flow_program table typed)) x ≡ true → IsAccess (flow_typing (flow_program table typed)) x
      → is_named_access (view_of (flow_typing (flow_program table typed)) x) ≡ true
  -- formals of anonymous access types are the first ones of traversal functions, whose first formals are of access types and see
  pub firsts : (n x : ℕ) → Has (sub_at (flow_typing (flow_program table typed)) n).formals x → is_anonymous (view_of (flow_typing (flow_program table typed)) x) ≡ true
      → traversed_of (traverses (flow_program table typed).table (sub_at (flow_typing (flow_program table typed)) n).result)
      (sub_at (flow_typing (flow_program table typed)) n).formals ≡ Some x
  pub first : (n : ℕ) → traverses (flow_program table typed).table (sub_at (flow_typing (flow_program table typed)) n).result ≡ true
      → (f : ℕ) × (rest : List ℕ) × ((sub_at (flow_typing (flow_program table typed)) n).formals ≡ f ∷ rest) × (is_given (flow_typing (flow_program table typed)) f ≡ true)
      × IsAccess (flow_typing (flow_program table typed)) f
  pub traverse : TraversesNames (flow_program table typed)
  pub take : (sub : FlowSub) → Has (flow_program table typed).subs sub → (p : FlowPoint) → Has sub.points p
      → TakesView (flow_typing (flow_program table typed)) sub.result p.instr
  pub returned : (sub : FlowSub) → Has (flow_program table typed).subs sub → (p : FlowPoint) → Has sub.points p → (e last : TypedTree) → p.instr ≡ Hold (More e last)
      → (of : ℕ) → sub.result ≡ Some of → is_anonymous (full (flow_program table typed).table of) ≡ true
      → (e ≡ Null)
      ⊎ ((q : Pos) × (y : ℕ) × (path : TypedTree) × (u : ℕ) × IsSourceName (flow_typing (flow_program table typed)) of e q y path u)
  -- what is declared or assigned as a whole and is of an anonymous access type is a variable
  pub stored : (sub : FlowSub) → Has (flow_program table typed).subs sub → (p : FlowPoint) → Has sub.points p → (x : ℕ) → IsStoredAt p.instr x
      → is_anonymous (view_of (flow_typing (flow_program table typed)) x) ≡ true → is_variable (object_at (flow_typing (flow_program table typed)) x).kind ≡ true
  pub order : IsInOrder table typed
  pub results : (sub : TypedSub) → Has order.rest sub → ResultsFit (typing_of table typed) sub.body
  pub answered : AreAnswered table typed order.rest
  pub passes : PassActuals (flow_program table typed)
  pub passed : ArePassed (flow_program table typed)
  pub main_plain : (x : ℕ) → Has (sub_at (flow_typing (flow_program table typed)) (suc order.number)).formals x → IsScalarObject (flow_typing (flow_program table typed)) x
  pub still : AreStill table typed order.first
  pub views : AreViewsInOrder table typed order.first order.rest
