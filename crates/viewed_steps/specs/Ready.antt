-- What is asked of an accepted program with borrowers and observers so that its runs are sound: what
-- typing, the layout and the rules see to. Nothing here speaks of a run.
use Rattle.machine.specs.Run.{no_point}
use Rattle.machine.specs.flow_paths.Effects.{path_points}
use Rattle.machine.specs.flow_paths.Paths.{ControlPath}
use Rattle.machine.specs.place_names.declared.act.Act.TheVariants.{Give}
use Rattle.machine.specs.place_names.Names.{Name as PlaceName}
use Rattle.std.specs.Prelude.{◌≡◌, ◌⊎◌, ◌<◌, ◌||◌, ℕ, true, false, List, [], ◌∷◌, ◌++◌, map, drop, Option, Some, is_some, Bool, get_or}
use Rattle.machine.specs.spark_base.Lists.{Has}
use Rattle.machine.specs.spark_base.declared.position.Pos.{Pos}
use Rattle.machine.specs.place_names.declared.act.Mode.{Mode}
use Rattle.machine.specs.place_names.declared.act.Mode.TheVariants as mode
use Rattle.machine.specs.place_names.declared.act.Placed.{Placed}
use Rattle.machine.specs.type_definitions.Types.{Table, full, is_scalar, is_owning}
use Rattle.machine.specs.typed_tree.Trees.{TypedTree, Name, NoMore, More, Null}
use Rattle.machine.specs.typed_tree.Trees as typed
use Rattle.machine.specs.typed_tree.Programs.{TypedProgram}
use Rattle.machine.specs.flow_paths.declared.report.Effects.{Effects}
use Rattle.machine.specs.flow_paths.Instructions.{Declare, Assign, Call, Input, EndScope, Finish, Hold}
use Rattle.machine.specs.flow_paths.Objects.{Typing, object_at, sub_at, is_formal, is_variable, is_anonymous, is_observer, is_package_object, view_of, traverses}
use Rattle.machine.specs.flow_paths.Points.{NamedPoint, FlowPoint}
use Rattle.machine.specs.flow_paths.Laid.{FlowSub, FlowProgram, NamedSub, number_in, flow_typing, flow_program, flow_named}
use Rattle.machine.specs.flow_paths.Scopes.{taken, is_within}
use Rattle.machine.specs.flow_paths.Views.{encloses, scope_of, traversed_formal, sub_acts, IsOnlyRoot}
use Rattle.machine.specs.States.{sub_of}
use Rattle.machine.specs.Owners.{is_in}
use Rattle.soundness.specs.Typed.{OwnsByShape}
use Rattle.soundness.specs.Sound.{Accepted, IsNamedSub, IsAtPoint, IsProcedure, IsRunnable, is_temporary_object, has_returned, IsEntered, goes_through_none}
use Rattle.soundness.specs.Ready.{root_of, stored_at, AreScoped, AreNew, AreElaborated, AreReturning}
use Rattle.soundness.specs.TypedLaws.Needed.{Matches, Leads, Stays, Gives, IsPlace}
use Rattle.soundness.specs.Seen.{is_view_formal}
use Rattle.soundness.specs.ViewedSoundness.Holds.{is_fixed, AllKeep, IsNamed, IsAccess, is_given, is_bundle}
use Rattle.viewed_steps.specs.Awaited.{is_held, IsTakenAt, FillsTyped, TakesAlone}
use Rattle.viewed_steps.specs.Traversals.{IsSourceName, TraversalCall, IsViewTaker}
use Rattle.machine.specs.type_definitions.declared.table.Shape.TheVariants as shape
use Rattle.machine.specs.type_definitions.Types.{shape_of}
use Rattle.viewed_steps.specs.Sound.{IsScalarObject, IsViewClass, Lasts, IsStoredAt}
use Rattle.viewed_steps.specs.Seeing.{sees_in}

-- ---- calls

-- The objects that the names are rooted in that are passed.
unfoldable pub roots_passed : TypedTree → List ℕ
roots_passed (More e rest) = root_of e ++ roots_passed rest
roots_passed _ = []

abbrev pub AreDifferent : List ℕ → Type 0
AreDifferent [] = Unit {0}
AreDifferent (x ∷ rest) = ((y : ℕ) → Has rest y → y ≡ x → ⊥) × AreDifferent rest

-- What is passed is in scope, or belongs to a package; and where a subprogram ends, formals of its own
-- alone are in scope.
pub record ArePassed (table : Table) (typed : TypedProgram) : Type 0 where
  pub finishes : (sub : NamedSub) → Has (flow_named table typed) sub → (p : NamedPoint) → Has sub.points p → p.instr ≡ Finish
      → (x : ℕ) → is_within x p.scope ≡ true → Has sub.sub.formals x
  pub passed : (sub : NamedSub) → Has (flow_named table typed) sub → (p : NamedPoint) → Has sub.points p → (n : ℕ) (actuals : TypedTree) (result : Option ℕ)
      → p.instr ≡ Call n actuals result → (x : ℕ) → Has (roots_passed actuals) x
      → (is_package_object (flow_typing (flow_program table typed)) x ≡ true) ⊎ (is_within x (drop (taken p.instr) p.scope) ≡ true)

-- In scope, no temporary is of an anonymous access type.
abbrev pub AreNamedIn : Typing → List ℕ → Type 0
AreNamedIn s xs = (x : ℕ) → Has xs x → is_temporary_object s x ≡ true → is_anonymous (view_of s x) ≡ false

-- What waits: what is stored at or passed is no temporary that owns; what is taken is of scalar types, or
-- what a function gave, alone, or what a value is made of, or for actuals and owns nothing; and what is filled fits.
pub record AreValued (table : Table) (typed : TypedProgram) : Type 0 where
  pub lasting : (sub : NamedSub) → Has (flow_named table typed) sub → (p : NamedPoint) → Has sub.points p → (x : ℕ) → Has (stored_at p.instr) x
      → is_held (flow_typing (flow_program table typed)) x ≡ false
  pub passed : (sub : NamedSub) → Has (flow_named table typed) sub → (p : NamedPoint) → Has sub.points p → (n : ℕ) (actuals : TypedTree) (result : Option ℕ)
      → p.instr ≡ Call n actuals result → (x : ℕ) → Has (roots_passed actuals) x → is_held (flow_typing (flow_program table typed)) x ≡ false
  pub takes : (n : ℕ) → IsEntered (flow_program table typed) n → (sub : NamedSub) → IsNamedSub (flow_named table typed) n sub → (p : NamedPoint) → Has sub.points p
      → IsTakenAt (flow_typing (flow_program table typed)) sub.sub.result p
  -- what is of an anonymous access type is taken at once
  pub seen : (sub : NamedSub) → Has (flow_named table typed) sub → (p : NamedPoint) → Has sub.points p
      → AreNamedIn (flow_typing (flow_program table typed)) p.scope
      ⊎ ((alone : TakesAlone (flow_typing (flow_program table typed)) p) × AreNamedIn (flow_typing (flow_program table typed)) alone.1)
  pub fills : (sub : NamedSub) → Has (flow_named table typed) sub → (p : NamedPoint) → Has sub.points p
      → FillsTyped (flow_program table typed) p.instr (drop (taken p.instr) p.scope)

-- What is passed stays within what it names. One that is copied back to is a name of a place of the type of
-- the formal: of a scalar type, or in an object that is no formal of mode `in`.
abbrev pub IsOwnPlace : Typing → TypedTree → Type 0
IsOwnPlace s e = (y : ℕ) → Has (root_of e) y → is_view_formal s y ≡ false

-- What a formal is shown that owns nothing: null, if it has no parts that see, or what a name of its type designates.
-- It has that type; or both are access types, and designate one type.
abbrev pub IsAccessAs : Typing → ℕ → ℕ → Type 0
IsAccessAs s u t =
    Matches s.table u t
    ⊎ ((d : ℕ) × (c : Bool) × (n : Bool) × (k : ℕ) × (e : Bool) × (o : Bool)
    × (shape_of s.table u ≡ shape.Access d c n) × (shape_of s.table t ≡ shape.Access k e o) × Matches s.table d k)

abbrev pub IsSeen : Typing → ℕ → TypedTree → Type 0
IsSeen s x typed.Null = is_bundle s x ≡ false
IsSeen s x (Name p y path u) = Leads s (object_at s y).of path u × IsAccessAs s u (object_at s x).of
IsSeen s x e = ⊥

-- One of a type that owns nothing gets a value of its type, a scalar one or another one.
abbrev pub IsValueTo : Typing → ℕ → TypedTree → Type 0
IsValueTo s x e =
    Gives s (object_at s x).of e
    × ((IsScalarObject s x × Stays s e) ⊎ ((is_scalar (full s.table (object_at s x).of) ≡ false) × IsNamed s.table (object_at s x).of))

-- What is passed for a formal of mode `in` is shown, where its type owns or is an anonymous access type.
abbrev pub is_shown_type : Typing → ℕ → Bool
is_shown_type s x = is_owning s.table (object_at s x).of || is_anonymous (view_of s x)

-- By the mode, and the type of the formal.
abbrev pub IsActualTo : Typing → ℕ → Mode → TypedTree → Type 0
IsActualTo s x mode.In e = (is_shown_type s x ≡ false → IsValueTo s x e) × (is_shown_type s x ≡ true → IsSeen s x e)
IsActualTo s x m e =
    (t : ℕ) × IsPlace s e t × Matches s.table t (object_at s x).of × ((is_scalar (full s.table t) ≡ true) ⊎ (goes_through_none e ≡ true → IsOwnPlace s e))

-- So is each that there is a formal for; each formal that isn't of a scalar type has an actual.
abbrev pub AreActualsTo : Typing → List ℕ → TypedTree → Type 0
AreActualsTo s (x ∷ formals) (More e rest) = IsActualTo s x (object_at s x).mode e × AreActualsTo s formals rest
AreActualsTo s formals actuals = (x : ℕ) → Has formals x → IsScalarObject s x

-- A subprogram that is called can run; it is a function where the call has a result. Its formals differ,
-- belong to no package, and are in scope at first if they may own or see. (Where none is called, nothing is asked
-- of object 0, which is Ada.Text_IO.)
pub record IsCalled (table : Table) (typed : TypedProgram) (n : ℕ) (actuals : TypedTree) (result : Option ℕ) : Type 0 where
  pub runs : IsRunnable table typed n
  pub answers : is_some (sub_of (flow_program table typed) n).result ≡ is_some result
  pub formals : (x : ℕ) → Has (sub_of (flow_program table typed) n).formals x → is_formal (flow_typing (flow_program table typed)) x ≡ true
  pub differ : AreDifferent (sub_of (flow_program table typed) n).formals
  pub local : (x : ℕ) → Has (sub_of (flow_program table typed) n).formals x → is_package_object (flow_typing (flow_program table typed)) x ≡ false
  pub begins : (x : ℕ) → Has (sub_of (flow_program table typed) n).formals x
      → is_shown_type (flow_typing (flow_program table typed)) x ≡ true → is_within x runs.point.scope ≡ true
  pub actuals_stay : AreActualsTo (flow_typing (flow_program table typed)) (sub_of (flow_program table typed) n).formals actuals
  pub text_io : is_package_object (flow_typing (flow_program table typed)) 0 ≡ false

abbrev pub AreCalled : Table → TypedProgram → Type 0
AreCalled table typed =
    (sub : FlowSub) → Has (flow_program table typed).subs sub → (p : FlowPoint) → Has sub.points p
    → (n : ℕ) (actuals : TypedTree) (result : Option ℕ) → p.instr ≡ Call n actuals result → IsCalled table typed n actuals result

-- ---- borrowers and observers in order

-- A view is declared from a name that lasts, or from what a function gives that goes through it; and a
-- borrower from an older name that isn't rooted in an observer, or in a formal that nothing is changed through.
abbrev pub IsSource : FlowProgram → List ℕ → ℕ → TypedTree → Type 0
IsSource program scope x v =
    (q : Pos) × (y : ℕ) × (path : TypedTree) × (u : ℕ) × (e : TypedTree) × (v ≡ More e NoMore)
    × IsSourceName (flow_typing program) (object_at (flow_typing program) x).of e q y path u
    × Lasts program scope y x
    × (is_observer (flow_typing program) x ≡ false → (is_observer (flow_typing program) y ≡ false) × (sees_in program x ≡ sees_in program y) × (y < x))

-- An observer is likewise assigned from a name that lasts, and a borrower from one that is rooted in it.
abbrev pub IsNewSource : FlowProgram → List ℕ → ℕ → TypedTree → Type 0
IsNewSource program scope x e =
    (q : Pos) × (y : ℕ) × (path : TypedTree) × (u : ℕ) × IsSourceName (flow_typing program) (object_at (flow_typing program) x).of e q y path u
    × (is_observer (flow_typing program) x ≡ true → Lasts program scope y x)
    × (is_observer (flow_typing program) x ≡ false → y ≡ x)

-- Nothing is copied back to through what only sees.
abbrev pub AreUnobserved : Typing → (ℕ → Bool) → List ℕ → TypedTree → Type 0
AreUnobserved s sees (x ∷ formals) (More e rest) =
    (is_in (object_at s x).mode ≡ false → (y : ℕ) → Has (root_of e) y → sees y ≡ false) × AreUnobserved s sees formals rest
AreUnobserved s sees formals actuals = Unit {0}

-- Views at a point with its successors.
pub record AreOrderly (program : FlowProgram) (p : NamedPoint) (next : NamedPoint → Type 0) : Type 0 where
  pub declared : (x : ℕ) (e : TypedTree) → p.instr ≡ Declare x e → is_anonymous (view_of (flow_typing program) x) ≡ true → IsSource program p.scope x e
  pub assigned : (q : Pos) (x w : ℕ) (e : TypedTree) → p.instr ≡ Assign (Name q x NoMore w) e → is_anonymous (view_of (flow_typing program) x) ≡ true
      → IsNewSource program p.scope x e
  pub copied : (n : ℕ) (actuals : TypedTree) (result : Option ℕ) → p.instr ≡ Call n actuals result
      → AreUnobserved (flow_typing program) (sees_in program) (sub_of program n).formals actuals
  pub read : (q : Pos) (x w : ℕ) (path : TypedTree) → p.instr ≡ Input (Name q x path w) → sees_in program x ≡ false
  -- what is declared, or ends, is no formal that owns nothing; and of an anonymous access type, it is a
  -- variable, as what is assigned as a whole is
  pub variables : (x : ℕ) → IsStoredAt p.instr x ⊎ (p.instr ≡ EndScope x) → is_anonymous (view_of (flow_typing program) x) ≡ true
      → is_variable (object_at (flow_typing program) x).kind ≡ true
  pub begun : (x : ℕ) (e : TypedTree) → p.instr ≡ Declare x e → is_view_formal (flow_typing program) x ≡ false
  pub over : (x : ℕ) → p.instr ≡ EndScope x → is_view_formal (flow_typing program) x ≡ false
  -- where a scope ends: objects of greater numbers have ended before; and of the objects in scope,
  -- what its scope encloses is of the same region, and ends at the points that follow
  pub ended : (y x : ℕ) → p.instr ≡ EndScope y → is_within x p.scope ≡ true → (x ≡ y → ⊥)
      → (x < y) × (encloses program.scopes (scope_of (flow_typing program) y) (scope_of (flow_typing program) x) ≡ true
      → scope_of (flow_typing program) x ≡ scope_of (flow_typing program) y)
  pub followed : (y x : ℕ) → p.instr ≡ EndScope y → (q : NamedPoint) → next q → is_within x q.scope ≡ true → is_observer (flow_typing program) x ≡ true
      → scope_of (flow_typing program) x ≡ scope_of (flow_typing program) y
      → (z : ℕ) × (q.instr ≡ EndScope z) × (scope_of (flow_typing program) x ≡ scope_of (flow_typing program) z)

-- What holds of a program.
pub record ViewsAreOrderly (table : Table) (typed : TypedProgram) : Type 0 where
  pub local : (x : ℕ) → is_anonymous (view_of (flow_typing (flow_program table typed)) x) ≡ true
      → is_package_object (flow_typing (flow_program table typed)) x ≡ false
  -- formals that own nothing belong to no package
  pub passed : (x : ℕ) → is_view_formal (flow_typing (flow_program table typed)) x ≡ true
      → is_package_object (flow_typing (flow_program table typed)) x ≡ false
  -- no package object is one
  pub packages : (p : FlowPoint) → Has (sub_of (flow_program table typed) 0).points p → (x : ℕ) (e : TypedTree) → p.instr ≡ Declare x e
      → is_anonymous (view_of (flow_typing (flow_program table typed)) x) ≡ false
  pub transitive : (a b c : ℕ) → encloses (flow_program table typed).scopes a b ≡ true → encloses (flow_program table typed).scopes b c ≡ true
      → encloses (flow_program table typed).scopes a c ≡ true
  pub itself : (a : ℕ) → encloses (flow_program table typed).scopes a a ≡ true
  pub points : (sub : NamedSub) → Has (flow_named table typed) sub → (p : NamedPoint) → Has sub.points p
      → AreOrderly (flow_program table typed) p (λ q. (n : ℕ) × Has (map (number_in sub.points) p.next) n × IsAtPoint sub.points n q)
  -- nothing is moved, written or freed through an observer, or through a formal that owns nothing
  pub kept : (sub : FlowSub) → Has (flow_program table typed).subs sub → (p : FlowPoint) → Has sub.points p
      → AllKeep (is_fixed (flow_typing (flow_program table typed)) (sees_in (flow_program table typed))) (map (λ (a : Placed). a.act) p.acts)

-- ---- traversal functions

-- The call of one: its first actual is a name; and the point that it leads to takes the result.
pub record IsTraversalCall (s : Typing) (sub : NamedSub) (next : List ℕ) (n : ℕ) (actuals : TypedTree) : Type 0 where
  pub call : TraversalCall
  pub actuals_are : actuals ≡ More (Name call.name_pos call.root call.path call.of) call.others
  pub taker : (k : ℕ) → Has next k → (q : NamedPoint) → IsAtPoint sub.points k q → IsViewTaker s n call sub.sub.result q.instr

-- What is asked of them. A call of one leads to the point that takes its result; its first formal sees and is of an access
-- type, and no other one is of an anonymous access type; what one returns by a name has no other root than that, or none that isn't
-- refuted; and after a return only ends of scopes and the end of the call follow.
pub record AreTraversing (table : Table) (typed : TypedProgram) (effects : Effects) : Type 0 where
  pub firsts : (n : ℕ) → IsEntered (flow_program table typed) n → (x : ℕ) → Has (sub_of (flow_program table typed) n).formals x
      → is_anonymous (view_of (flow_typing (flow_program table typed)) x) ≡ true
      → traversed_formal (flow_typing (flow_program table typed)) (sub_of (flow_program table typed) n) ≡ Some x
  pub first : (n f : ℕ) → IsEntered (flow_program table typed) n
      → traversed_formal (flow_typing (flow_program table typed)) (sub_of (flow_program table typed) n) ≡ Some f
      → (is_formal (flow_typing (flow_program table typed)) f ≡ true) × (is_given (flow_typing (flow_program table typed)) f ≡ true)
      × IsAccess (flow_typing (flow_program table typed)) f
  pub formal : (n : ℕ) → IsEntered (flow_program table typed) n → traverses (flow_typing (flow_program table typed)).table (sub_of (flow_program table typed) n).result ≡ true
      → (f : ℕ) × (traversed_formal (flow_typing (flow_program table typed)) (sub_of (flow_program table typed) n) ≡ Some f)
  pub given : (sub : FlowSub) → Has (flow_program table typed).subs sub → (p : FlowPoint) → Has sub.points p → (m : PlaceName) (b : Bool)
      → Has (map (λ (a : Placed). a.act) p.acts) (Give m b)
      → ((f : ℕ) → traversed_formal (flow_typing (flow_program table typed)) sub ≡ Some f → IsOnlyRoot (flow_typing (flow_program table typed)) (sub_acts sub) m.root f → ⊥) → ⊥
  -- one returns null, a name, or what another one gives that goes through a name
  pub returned : (n : ℕ) → IsEntered (flow_program table typed) n → (sub : NamedSub) → IsNamedSub (flow_named table typed) n sub → (p : NamedPoint) → Has sub.points p
      → (e last : TypedTree) → p.instr ≡ Hold (More e last)
      → (of : ℕ) → sub.sub.result ≡ Some of → is_anonymous (full (flow_program table typed).table of) ≡ true
      → (e ≡ Null) ⊎ ((q : Pos) × (y : ℕ) × (path : TypedTree) × (u : ℕ) × IsSourceName (flow_typing (flow_program table typed)) of e q y path u)
  -- what is called is taken
  pub followed : (sub : NamedSub) → Has (flow_named table typed) sub → (p : NamedPoint) → Has sub.points p → (n : ℕ) (actuals : TypedTree) (result : Option ℕ)
      → p.instr ≡ Call n actuals result → (f : ℕ) → traversed_formal (flow_typing (flow_program table typed)) (sub_of (flow_program table typed) n) ≡ Some f
      → IsTraversalCall (flow_typing (flow_program table typed)) sub (map (number_in sub.points) p.next) n actuals
  pub ending : (k : ℕ) → IsEntered (flow_program table typed) k → is_some (sub_of (flow_program table typed) k).result ≡ true → (before : List ℕ) (last : ℕ)
      → ControlPath (path_points (flow_program table typed) effects (sub_of (flow_program table typed) k)) before last
      → has_returned (sub_of (flow_program table typed) k) before ≡ true
      → ((y : ℕ) × ((get_or (sub_of (flow_program table typed) k).points last no_point).instr ≡ EndScope y))
      ⊎ ((get_or (sub_of (flow_program table typed) k).points last no_point).instr ≡ Finish)

-- ---- all of it

-- An accepted program of the class, of which this holds.
pub record IsReady (table : Table) (typed : TypedProgram) (effects : Effects) : Type 0 where
  pub accepted : Accepted table typed effects
  pub owns : OwnsByShape (flow_program table typed).table
  pub class : IsViewClass (flow_program table typed)
  pub scoped : AreScoped table typed
  pub passing : ArePassed table typed
  pub new : AreNew (flow_program table typed) effects
  pub elaborated : AreElaborated (flow_program table typed)
  pub orderly : ViewsAreOrderly table typed
  pub called : AreCalled table typed
  pub returning : AreReturning (flow_program table typed) effects
  pub valued : AreValued table typed
  pub traversing : AreTraversing table typed effects
  pub packages : NamedSub
  pub stands : IsNamedSub (flow_named table typed) 0 packages
  pub main : ℕ
  pub is_main : (flow_program table typed).main ≡ Some main
  pub main_there : IsProcedure table typed main
  -- its formals, if it has any, are of scalar types
  pub main_plain : (x : ℕ) → Has (sub_at (flow_typing (flow_program table typed)) main).formals x → IsScalarObject (flow_typing (flow_program table typed)) x
