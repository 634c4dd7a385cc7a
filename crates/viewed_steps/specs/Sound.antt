-- What holds at each moment of a run of an accepted program with borrowers and observers.
--
-- A frame that waits for a call to end has its views still: what was called names no object of the
-- frame, and leaves package objects alone of which a part is lent.
use Rattle.std.specs.List.{AllByRecursion, list_any}
use Rattle.viewed_steps.specs.Traversals.{AreRooted, SeesFirst, AreGiven}
use Rattle.std.specs.Prelude.{◌≡◌, ◌⊎◌, ◌<◌, ℕ, true, false, List, [], ◌∷◌, ◌++◌, map, flat_map, get_or, Option, Some, None, suc, is_some, ◌&&◌, if◌then◌else◌, ◌==◌, Bool, not, filter}
use Rattle.machine.specs.spark_base.Lists.{Has}
use Rattle.machine.specs.spark_base.declared.position.Pos.{Pos}
use Rattle.machine.specs.place_names.declared.act.Mode.TheVariants as mode
use Rattle.machine.specs.place_names.declared.fact.Fact.{Fact}
use Rattle.machine.specs.place_names.Facts.{place}
use Rattle.machine.specs.place_names.declared.fact.Fact.TheVariants.{Moved, Lent}
use Rattle.machine.specs.place_names.declared.rule.Loan.{Loan}
use Rattle.machine.specs.place_names.declared.rule.Loan.TheVariants.{Borrowed, Observed}
use Rattle.machine.specs.place_names.Names.{Name as PlaceName, overlaps, object, covers}
use Rattle.machine.specs.type_definitions.Types.{Table, full, is_scalar, is_owning}
use Rattle.machine.specs.typed_tree.Trees.{TypedTree, Name, NoMore}
use Rattle.machine.specs.typed_tree.Programs.{TypedProgram}
use Rattle.machine.specs.flow_paths.declared.report.Effects.{Effects}
use Rattle.machine.specs.flow_paths.Instructions.{Instruction, Declare, Assign, Call, EndScope, Finish}
use Rattle.machine.specs.flow_paths.Objects.{Typing, object_at, sub_at, is_formal, is_observer, is_named_access, view_of, is_package_object, has_scope_end, is_anonymous}
use Rattle.machine.specs.flow_paths.Points.{NamedPoint}
use Rattle.machine.specs.flow_paths.Laid.{FlowSub, FlowProgram, NamedSub, flow_typing, flow_program, flow_named}
use Rattle.machine.specs.flow_paths.Paths.{ControlPath}
use Rattle.machine.specs.flow_paths.Effects.{written_by, path_points}
use Rattle.machine.specs.flow_paths.Scopes.{is_within}
use Rattle.machine.specs.flow_paths.Aliases as alias
use Rattle.machine.specs.flow_paths.Views.{encloses, scope_of, traversed_formal, sub_acts}
use Rattle.machine.specs.Words.{Cell}
use Rattle.machine.specs.Memory.{Memory, variable_slots, no_slot}
use Rattle.machine.specs.States.{Return, Waiting, Frame, State, Outcome, Goes, Ends, sub_of}
use Rattle.machine.specs.Owners.{WellOwned, waiting_in}
use Rattle.machine.specs.Run.{step, no_point}
use Rattle.soundness.specs.OwnedWays.Ways.{Object, Step, OfVariable, OfRoot, Held, Way, Named, Under, Past, name_of, number_of, OfCell, Reaches, Loc, along, View, base_of}
use Rattle.soundness.specs.Seen.{content, word_in, home, is_view_formal}
use Rattle.soundness.specs.Typed.{Kept}
use Rattle.soundness.specs.Sound.{IsNamedSub, IsAtPoint, IsRunnable, Stage, facts_of, AreStages, Uses, IsPlain, InScope, IsTrap, has_returned}
use Rattle.soundness.specs.Sound as owners
use Rattle.soundness.specs.OwnedLoans.Views.{known_gone, Views, IsMovedBy, AreClear, IsForeign, AreShared, AreViews, IsOuter, ViewedAlone, expand}
use Rattle.soundness.specs.ViewedSoundness.Holds.{IsNamed, IsAccess, PartsAreNamed, is_view, IsOwners, is_given, is_exclusive, PartsHold, is_bundle}
use Rattle.viewed_steps.specs.Awaited.{is_held, lasting_of, AreAwaited}
use Rattle.viewed_steps.specs.Taken.{TakenBy, Lodge, AreTaken, AreCarried}
use Rattle.viewed_steps.specs.Seeing.{sees_in}

-- ---- the class

-- A formal of a scalar type; or of mode `out` or `in out` and of no anonymous access type; or of mode `in`
-- and of an access type, which owns nothing, or of a type that owns nothing and is no access type.
abbrev pub IsScalarObject : Typing → ℕ → Type 0
IsScalarObject s x = is_scalar (full s.table (object_at s x).of) ≡ true

abbrev pub IsCopiedBack : Typing → ℕ → Type 0
IsCopiedBack s x = (object_at s x).mode ≡ mode.In → ⊥

abbrev pub IsShown : Typing → ℕ → Type 0
IsShown s x = is_given s x ≡ true

abbrev pub IsOwnless : Typing → ℕ → Type 0
IsOwnless s x = ((object_at s x).mode ≡ mode.In) × (is_owning s.table (object_at s x).of ≡ false) × IsNamed s.table (object_at s x).of

abbrev pub IsKindOfFormal : Typing → ℕ → Type 0
IsKindOfFormal s x = IsScalarObject s x ⊎ ((IsCopiedBack s x × IsNamed s.table (object_at s x).of) ⊎ (IsShown s x ⊎ IsOwnless s x))

-- Anonymous access types are those of objects and results alone; formals are such, those of functions of mode
-- `in`, and what they are shown isn't changed through them; those of procedures of mode `in` that own nothing and are
-- of access types are of access-to-variable types.
pub record IsViewClass (program : FlowProgram) : Type 0 where
  pub parts_named : PartsAreNamed program.table
  pub formals : (x : ℕ) → is_formal (flow_typing program) x ≡ true → IsKindOfFormal (flow_typing program) x
  pub functions : (n t : ℕ) → (sub_at (flow_typing program) n).result ≡ Some t → (x : ℕ) → Has (sub_at (flow_typing program) n).formals x
      → is_formal (flow_typing program) x ≡ true → is_given (flow_typing program) x ≡ true → is_exclusive (flow_typing program) x ≡ false
  pub modes : (n t : ℕ) → (sub_at (flow_typing program) n).result ≡ Some t → (x : ℕ) → Has (sub_at (flow_typing program) n).formals x
      → (object_at (flow_typing program) x).mode ≡ mode.In
  pub procedures : (n : ℕ) → (sub_at (flow_typing program) n).result ≡ None → (x : ℕ) → Has (sub_at (flow_typing program) n).formals x
      → is_formal (flow_typing program) x ≡ true → is_view_formal (flow_typing program) x ≡ true → IsAccess (flow_typing program) x
      → is_named_access (view_of (flow_typing program) x) ≡ true

-- ---- where objects last

-- An object is there as long as another one may be used, where these objects are in scope: it is a
-- package object, or its scope ends at a point of its own and encloses that of the other one, and it is
-- no temporary.
abbrev pub Lasts : FlowProgram → List ℕ → ℕ → ℕ → Type 0
Lasts program scope r x =
    (is_package_object (flow_typing program) r ≡ true)
    ⊎ ((is_within r scope ≡ true) × (has_scope_end (flow_typing program) r ≡ true)
    × (encloses program.scopes (scope_of (flow_typing program) r) (scope_of (flow_typing program) x) ≡ true)
    × (is_held (flow_typing program) r ≡ false))

-- Where the scope of an object ends at a point, those of the objects of the same region do so at
-- the points that follow. Its observers aren't used any more, and what they observed may end first.
abbrev pub IsFading : Typing → NamedPoint → ℕ → Type 0
IsFading s p x = (z : ℕ) × (p.instr ≡ EndScope z) × (is_observer s x ≡ true) × (scope_of s x ≡ scope_of s z)

-- ---- views at a point

-- A way is of a frame, or begins at a variable of a frame below, which isn't that of the package objects.
abbrev pub Lies : Typing → ℕ → Way → Type 0
Lies s frame w = Named (home s frame) w ⊎ ((foreign : IsForeign (home s frame) w) × (foreign.0 < frame) × (0 < foreign.0))

-- So it is of what parts of formals designate; if it is of the frame, it belongs to a package.
abbrev pub ArePartsLow : Typing → ℕ → Views → Type 0
ArePartsLow s frame v =
    (x : ℕ) (p : List Step) (w : Way) → v.part_way x p ≡ Some w → Lies s frame w × (Named (home s frame) w → is_package_object s (number_of w) ≡ true)

-- The objects of a frame that hold the number of a cell are views with a value, but for those that
-- fade.
pub record HoldsAt (s : Typing) (sees : ℕ → Bool) (frame : ℕ) (v : Views) (m : Memory) (p : NamedPoint) : Type 0 where
  pub held : (x n : ℕ) → (IsFading s p x → ⊥) → is_view s x ≡ true → is_bundle s x ≡ false
      → (get_or (variable_slots s (home s frame x) x m.variables) 0 no_slot).word ≡ Cell n
      → (w : Way) × (v.way x ≡ Some w) × (v.cell x ≡ n)
  pub within : (x n : ℕ) → is_view s x ≡ true → is_bundle s x ≡ false
      → (get_or (variable_slots s (home s frame x) x m.variables) 0 no_slot).word ≡ Cell n → is_within x p.scope ≡ true
  pub only : (x : ℕ) (w : Way) → v.way x ≡ Some w → is_view s x ≡ true
  pub lies : (x : ℕ) (w : Way) → v.way x ≡ Some w → Lies s frame w
  pub owners : (x : ℕ) (w : Way) → v.way x ≡ Some w → IsOwners s w
  -- what a formal sees was taken from no object of the frame, and what a borrower leads to was
  pub passed : (x : ℕ) (w : Way) → v.way x ≡ Some w → is_given s x ≡ true → Named (home s frame) (v.up x) → ⊥
  pub own : (x : ℕ) (w : Way) → v.way x ≡ Some w → sees x ≡ false → is_given s x ≡ false → Named (home s frame) (v.up x)
  pub taken : (x : ℕ) (w : Way) → v.way x ≡ Some w → Named (home s frame) (v.up x) → is_observer s x ≡ false → sees x ≡ false
  -- so it is of the parts of formals
  pub parts : PartsHold s sees frame v m
  pub low : ArePartsLow s frame v

-- A view is in scope, and no temporary. The roots of its way and of what it was taken from last, and so does the one
-- that holds the loan of an observer, if these are of the frame.
pub record IsPlaced (program : FlowProgram) (sees : ℕ → Bool) (frame : ℕ) (facts : List Fact) (v : Views) (scope : List ℕ) (x : ℕ) (w : Way) : Type 0 where
  pub within : is_within x scope ≡ true
  pub plain : is_held (flow_typing program) x ≡ false
  pub up : Named (home (flow_typing program) frame) (v.up x) → Lasts program scope (number_of (v.up x)) x
  pub root : Named (home (flow_typing program) frame) w → Lasts program scope (number_of w) x
  pub holder : Named (home (flow_typing program) frame) (v.up x) → sees x ≡ true
      → (h : ℕ) × Has facts (Lent Observed h (name_of (v.loan x))) × Lasts program scope h x × (sees h ≡ true)

abbrev pub ArePlacedWith : FlowProgram → (ℕ → Bool) → ℕ → List Fact → Views → List ℕ → Type 0
ArePlacedWith program sees frame facts v scope = (x : ℕ) (w : Way) → v.way x ≡ Some w → IsPlaced program sees frame facts v scope x w

abbrev pub ArePlaced : FlowProgram → ℕ → List Fact → Views → List ℕ → Type 0
ArePlaced program frame facts v scope = ArePlacedWith program (sees_in program) frame facts v scope

-- Above a frame no variable of a view has a number, and no part of a formal.
abbrev pub NoneAbove : Typing → ℕ → Memory → Type 0
NoneAbove s depth m =
    ((f x n : ℕ) → depth < f → is_view s x ≡ true → (get_or (variable_slots s f x m.variables) 0 no_slot).word ≡ Cell n → ⊥)
    × ((f x i n : ℕ) → depth < f → is_bundle s x ≡ true → (get_or (variable_slots s f x m.variables) i no_slot).word ≡ Cell n → ⊥)

-- ---- frames that wait

-- The formals of a frame are of scalar types, or are copied back, or own nothing; and formals alone are copied
-- back.
abbrev pub AreReturned : Typing → Frame → Type 0
AreReturned s f =
    ((x : ℕ) → Has (sub_at s f.sub).formals x → IsScalarObject s x ⊎ (((r : Return) × Has f.returns r × (r.formal ≡ x)) ⊎ ((is_view_formal s x ≡ true) ⊎ (is_owning s.table (object_at s x).of ≡ false))))
    × ((r : Return) → Has f.returns r → is_formal s r.formal ≡ true)

-- Formals that may own are copied back.
abbrev pub IsResting : Typing → Stage → Type 0
IsResting s g = AreReturned s g.frame

-- A frame with its executed points and the ways of its views, and the cells in which places stand that what
-- it called copies back to.
pub record ViewStage : Type 0 where
  pub stage : Stage
  pub views : Views
  pub cells : List Lodge

abbrev pub stages_of : List ViewStage → List Stage
stages_of older = map (λ (g : ViewStage). g.stage) older

-- What is gone elsewhere is moved by a fact of a frame that waits, perhaps through a view of it; or what
-- that frame called has taken it.
abbrev pub GoneElsewhere : FlowProgram → Effects → List ViewStage → Way → Type 0
GoneElsewhere program effects older w =
    (g : ViewStage) × Has older g
    × (IsMovedBy (home (flow_typing program) g.stage.depth) g.views (facts_of program effects g.stage) w ⊎ TakenBy g.stage.returns w)

-- What a callee may not do with a package object of which a part is lent: use it, where a borrower has
-- the part, and write it, where an observer sees it.
abbrev pub Disturbs : Effects → Loan → ℕ → ℕ → Type 0
Disturbs effects Borrowed n x = Uses effects n x
Disturbs effects Observed n x = Has (written_by effects n) x

-- What is kept from a callee, as a loan: it may use nothing of what was moved, as of what was borrowed.
abbrev pub loan_by : Fact → Loan
loan_by (Moved n) = Borrowed
loan_by (Lent l h n) = l

-- What a call shows of package objects to formals that own nothing: it is lent to them, for looking at it where they see
-- only.
abbrev pub lent_to : Typing → ℕ → Loan
lent_to s x = if is_exclusive s x then Borrowed else Observed

unfoldable pub shown_one : Typing → alias.Passed → List Fact
shown_one s b =
    if is_given s b.formal && is_package_object s b.actual.name.root then Lent (lent_to s b.formal) b.formal b.actual.name ∷ [] else []

abbrev pub shown_by : FlowProgram → Instruction → List Fact
shown_by program (Call n actuals result) = flat_map (shown_one (flow_typing program)) (alias.passed (sub_of program n).formals actuals)
shown_by program i = []

abbrev pub shown_after : FlowProgram → FlowSub → List ℕ → List Fact
shown_after program sub [] = []
shown_after program sub (p ∷ before) = shown_by program (get_or sub.points p no_point).instr

abbrev pub shown_at : FlowProgram → Stage → List Fact
shown_at program g = shown_after program (sub_of program g.frame.sub) g.before

-- What a frame knows of loans and moved places while it waits.
abbrev pub known_at : FlowProgram → Effects → Stage → List Fact
known_at program effects g = facts_of program effects g ++ shown_at program g

-- The package object where a way begins, if it does at one.
abbrev pub shared_root : Loc → List ℕ
shared_root (OfRoot (OfVariable f y)) = if f == 0 then y ∷ [] else []
shared_root l = []

-- The package objects of which a frame passes parts to be copied back to, and the objects by which it names cells of such
-- parts.
abbrev pub passed_roots : Effects → ViewStage → List ℕ
passed_roots effects g =
    filter (λ y. list_any (λ z. z == y) (written_by effects g.stage.frame.sub)) (flat_map (λ (to : Way). shared_root (base_of to)) g.stage.returns)
    ++ map (λ (c : Lodge). number_of c.name) g.cells

abbrev pub is_passed : Effects → ViewStage → Fact → Bool
is_passed effects g f = list_any (λ y. y == (place f).root) (passed_roots effects g)

-- What a frame keeps from what it calls: such objects as a whole, as moved ones, and what it knows of others.
abbrev pub withheld : FlowProgram → Effects → ViewStage → List Fact
withheld program effects g = filter (λ f. not (is_passed effects g f)) (known_at program effects g.stage) ++ map (λ y. Moved (object y)) (passed_roots effects g)

-- A cell of a place that is copied back to is there: it is named by the frame, and no way that was taken goes before
-- the name's way.
pub record IsKept (s : Typing) (state : State) (g : ViewStage) (c : Lodge) : Type 0 where
  pub named : Named (home s g.stage.depth) c.name
  pub leads : expand g.views c.name ≡ c.way
  pub reaches : Reaches (owners.view_of s state) c.way (OfCell c.cell)
  pub aside : (to : Way) → Has g.stage.returns to → Past to c.way → ⊥

-- A place is behind what a view was given, and may be changed through it.
abbrev pub IsGivenTo : Typing → (ℕ → Bool) → ViewStage → Way → Type 0
IsGivenTo s sees g to =
    (x : ℕ) × (w : Way) × (g.views.way x ≡ Some w) × (Named (home s g.stage.depth) (g.views.up x) → ⊥) × (sees x ≡ false) × Under w to

-- A name of the frame stands for such a place: it isn't lent, and no part of it is moved. If it is rooted in a package object,
-- the frame writes that.
pub record IsNameTaken (s : Typing) (sees : ℕ → Bool) (effects : Effects) (facts : List Fact) (g : ViewStage) (to : Way) : Type 0 where
  pub name : Way
  pub called : Named (home s g.stage.depth) name
  pub plain : sees (number_of name) ≡ false
  pub leads : expand g.views name ≡ to
  pub unlent : (l : Loan) (h : ℕ) (n : PlaceName) → Has facts (Lent l h n) → overlaps n (name_of name) ≡ true → ⊥
  pub cleared : (n : PlaceName) → Has facts (Moved n) → covers (name_of name) n ≡ true → ⊥
  pub written : is_package_object s (number_of name) ≡ true → Has (written_by effects g.stage.frame.sub) (number_of name)

-- A package object: its way and its location.
abbrev pub IsPackageAt : Typing → Way → Loc → Type 0
IsPackageAt s w l = (y : ℕ) × (is_package_object s y ≡ true) × (Object (OfVariable 0 y) ≡ w) × (OfRoot (OfVariable 0 y) ≡ l)

-- A part of such a cell, or of a package object, that was taken: its way, its location, and the steps from there.
abbrev pub IsBareOf : Typing → ViewStage → Way → Loc → List Step → Type 0
IsBareOf s g w l p = Has g.stage.returns (along w p) × (((c : Lodge) × Has g.cells c × (c.way ≡ w) × (OfCell c.cell ≡ l)) ⊎ IsPackageAt s w l)

-- A frame that waits for a call to end. The points that it has executed form a control path to its
-- next point. What it owns is in scope there, and so are its views, which have their ways still. The
-- callee disturbs no package object of which a part is lent, and uses none of which a part is moved or is
-- to be copied back to; such a one the frame writes.
-- What the callee uses or writes, its caller does. What the callee copies back goes to scalar places,
-- or to those that it took.
pub record IsWaiting (table : Table) (typed : TypedProgram) (effects : Effects) (state : State) (callee : ℕ) (backs : List Return) (g : ViewStage) : Type 0 where
  pub runs : IsRunnable table typed g.stage.frame.sub
  pub plain : IsResting (flow_typing (flow_program table typed)) g.stage
  pub path : ControlPath (path_points (flow_program table typed) effects (sub_of (flow_program table typed) g.stage.frame.sub)) g.stage.before g.stage.frame.next
  pub named : NamedSub
  pub of_sub : IsNamedSub (flow_named table typed) g.stage.frame.sub named
  pub point : NamedPoint
  pub at_point : IsAtPoint named.points g.stage.frame.next point
  pub scope : (x : ℕ) (p : List Step) (n : ℕ)
      → word_in (flow_program table typed).table (content (flow_typing (flow_program table typed)) state.memory [] (OfRoot (OfVariable g.stage.depth x))) p ≡ Held n
      → is_within x (lasting_of (flow_typing (flow_program table typed)) point.scope) ≡ true
  pub lends : (l : Loan) (h : ℕ) (name : PlaceName) → Has (known_at (flow_program table typed) effects g.stage) (Lent l h name)
      → is_package_object (flow_typing (flow_program table typed)) name.root ≡ true → Disturbs effects l callee name.root → ⊥
  pub unmoved : (name : PlaceName) → Has (withheld (flow_program table typed) effects g) (Moved name)
      → is_package_object (flow_typing (flow_program table typed)) name.root ≡ true → Uses effects callee name.root → ⊥
  -- what it shows it uses, and writes if it lends it to be changed; and what it knows as borrowed isn't observed
  pub shown : (l : Loan) (h : ℕ) (name : PlaceName) → Has (shown_at (flow_program table typed) g.stage) (Lent l h name)
      → is_package_object (flow_typing (flow_program table typed)) name.root ≡ true
      → Uses effects g.stage.frame.sub name.root × (l ≡ Borrowed → Has (written_by effects g.stage.frame.sub) name.root)
  pub apart : (f : Fact) (h : ℕ) (name : PlaceName) → Has (known_at (flow_program table typed) effects g.stage) f → loan_by f ≡ Borrowed
      → Has (known_at (flow_program table typed) effects g.stage) (Lent Observed h name) → overlaps (place f) name ≡ true → ⊥
  pub written : (y : ℕ) → Has (passed_roots effects g) y → is_package_object (flow_typing (flow_program table typed)) y ≡ true
      → Has (written_by effects g.stage.frame.sub) y
  -- a package object of which a part was taken is written, or was lent to the frame
  pub goes : (to : Way) → Has g.stage.returns to → (y : ℕ) → base_of to ≡ OfRoot (OfVariable 0 y) → is_package_object (flow_typing (flow_program table typed)) y ≡ true
      → Has (written_by effects g.stage.frame.sub) y ⊎ IsGivenTo (flow_typing (flow_program table typed)) (sees_in (flow_program table typed)) g to
  pub names : (to : Way) → Has g.stage.returns to
      → IsNameTaken (flow_typing (flow_program table typed)) (sees_in (flow_program table typed)) effects (facts_of (flow_program table typed) effects g.stage) g to
  -- none of the places goes before what a view sees, or a part of a formal
  pub off : (x : ℕ) (w : Way) → g.views.way x ≡ Some w → (to : Way) → Has g.stage.returns to → Past to w → ⊥
  pub off_parts : (x : ℕ) (q : List Step) (w : Way) → g.views.part_way x q ≡ Some w → (to : Way) → Has g.stage.returns to → Past to w → ⊥
  pub uses : (x : ℕ) → Uses effects callee x → Uses effects g.stage.frame.sub x
  pub writes : (x : ℕ) → Has (written_by effects callee) x → Has (written_by effects g.stage.frame.sub) x
  pub clear : AreClear (sees_in (flow_program table typed)) (facts_of (flow_program table typed) effects g.stage)
  pub views : AreViews (home (flow_typing (flow_program table typed)) g.stage.depth) (sees_in (flow_program table typed)) g.views
      (owners.view_of (flow_typing (flow_program table typed)) state) (facts_of (flow_program table typed) effects g.stage)
  pub holds : HoldsAt (flow_typing (flow_program table typed)) (sees_in (flow_program table typed)) g.stage.depth g.views state.memory point
  pub placed : ArePlaced (flow_program table typed) g.stage.depth (facts_of (flow_program table typed) effects g.stage) g.views point.scope
  pub kept : (c : Lodge) → Has g.cells c → IsKept (flow_typing (flow_program table typed)) state g c
  -- no number stands in what was taken
  pub bare : (w : Way) (l : Loc) (p : List Step) → IsBareOf (flow_typing (flow_program table typed)) g w l p → (q : List Step) (n : ℕ)
      → word_in (flow_typing (flow_program table typed)).table (content (flow_typing (flow_program table typed)) state.memory [] l) (q ++ p) ≡ Held n → ⊥
  pub taken : AreTaken (flow_typing (flow_program table typed)) (sees_in (flow_program table typed)) g.cells state.memory g.stage.depth g.views (facts_of (flow_program table typed) effects g.stage)
      (lasting_of (flow_typing (flow_program table typed)) point.scope) backs g.stage.returns

-- The frame of the package objects has no views, and nothing waits in it.
abbrev pub IsFirst : ViewStage → Type 0
IsFirst e =
    (e.stage.frame.sub ≡ 0) × IsPlain e.stage × ((x : ℕ) → e.views.way x ≡ None) × (e.stage.depth ≡ 0) × (e.cells ≡ [])
    × ((x : ℕ) (p : List Step) → e.views.part_way x p ≡ None)

-- None of these ways meets what a part of a formal designates.
abbrev pub PartsApart : Views → (Way → Type 0) → Type 0
PartsApart v gone = (x : ℕ) (p : List Step) (w z : Way) → v.part_way x p ≡ Some w → gone z → Under z w ⊎ Under w z → ⊥

-- Nothing that is gone for the frames around meets what a view of a frame sees that belongs to them.
abbrev pub AreUnmet : FlowProgram → Effects → ViewStage → List ViewStage → Type 0
AreUnmet program effects g older =
    ((x : ℕ) (w z : Way) → g.views.way x ≡ Some w → IsOuter (home (flow_typing program) g.stage.depth) g.views x w → GoneElsewhere program effects older z
    → Under z w ⊎ Under w z → ⊥)
    × PartsApart g.views (GoneElsewhere program effects older)

-- A way of a frame that waits, with its cell: one of a view, or one to a place that is copied back to, or one of a part
-- of a formal.
abbrev pub IsWayOf : ViewStage → Way → ℕ → Type 0
IsWayOf g w n =
    ((x : ℕ) × (g.views.way x ≡ Some w) × (g.views.cell x ≡ n))
    ⊎ (((c : Lodge) × Has g.cells c × (c.way ≡ w) × (c.cell ≡ n))
    ⊎ ((x : ℕ) × (p : List Step) × (g.views.part_way x p ≡ Some w) × (g.views.part_cell x p ≡ n)))

abbrev pub KeptBy : List ViewStage → Way → ℕ → Type 0
KeptBy older w n = (g : ViewStage) × Has older g × IsWayOf g w n

-- None of the frames around goes past what a view of a frame changes that belongs to them.
abbrev pub ArePast : Typing → (ℕ → Bool) → ℕ → Views → List ViewStage → Type 0
ArePast s sees depth v older =
    (x : ℕ) (w : Way) → v.way x ≡ Some w → (Named (home s depth) (v.up x) → ⊥) → sees x ≡ false → (k : Way) (n : ℕ) → KeptBy older k n → Past w k → ⊥

-- A place of a package object that a frame that waits keeps.
abbrev pub LentBy : FlowProgram → Effects → List ViewStage → Loan → PlaceName → Type 0
LentBy program effects older l n =
    (g : ViewStage) × Has older g × (0 < g.stage.depth) × (f : Fact) × Has (withheld program effects g) f
    × (is_package_object (flow_typing program) n.root ≡ true) × (loan_by f ≡ l) × (place f ≡ n)

-- So they don't; and what a view of a frame was given that begins at a package object goes on from a place that they keep.
abbrev pub IsBeyond : FlowProgram → Effects → ℕ → Views → List ViewStage → Type 0
IsBeyond program effects depth v older =
    ArePast (flow_typing program) (sees_in program) depth v older
    × AreShared (home (flow_typing program) depth) (sees_in program) (LentBy program effects older) v

-- The frames around one that runs a subprogram and copies formals back.
abbrev pub AreWaiting : Table → TypedProgram → Effects → State → ℕ → List Return → List ViewStage → Type 0
AreWaiting table typed effects state callee backs [] = ⊥
AreWaiting table typed effects state callee backs (e ∷ []) = IsFirst e × (backs ≡ [])
AreWaiting table typed effects state callee backs (g ∷ (h ∷ older)) =
    IsWaiting table typed effects state callee backs g × AreWaiting table typed effects state g.stage.frame.sub g.stage.frame.returns (h ∷ older)
    × AreUnmet (flow_program table typed) effects g (h ∷ older) × IsBeyond (flow_program table typed) effects g.stage.depth g.views (h ∷ older)

-- ---- traversal functions

-- The latest value that waits in a frame, if it is of an anonymous type, is given to what takes it.
abbrev pub IsGivenIn : Table → TypedProgram → View → ViewStage → Type 0
IsGivenIn table typed view g =
    (named : NamedSub) → IsNamedSub (flow_named table typed) g.stage.frame.sub named → (p : NamedPoint) → IsAtPoint named.points g.stage.frame.next p
    → AreGiven (flow_typing (flow_program table typed)) view g.stage.depth p.instr g.views g.stage.frame.waits

-- In a frame that waits there is none; but the innermost frame may have given the one below its result.
abbrev pub NoneGiven : Typing → ViewStage → Type 0
NoneGiven s g = (w : Waiting) (others : List Waiting) → g.stage.frame.waits ≡ w ∷ others → is_anonymous (full s.table w.of) ≡ true → ⊥

abbrev pub IsGivenBelow : Table → TypedProgram → View → ViewStage → ViewStage → Type 0
IsGivenBelow table typed view inner g =
    NoneGiven (flow_typing (flow_program table typed)) g
    ⊎ ((is_some (sub_of (flow_program table typed) inner.stage.frame.sub).result ≡ true)
    × (has_returned (sub_of (flow_program table typed) inner.stage.frame.sub) inner.stage.before ≡ true) × (inner.stage.frame.returns ≡ [])
    × IsGivenIn table typed view g)

abbrev pub AreGivenIn : Table → TypedProgram → View → List ViewStage → Type 0
AreGivenIn table typed view [] = Unit {0}
AreGivenIn table typed view (e ∷ []) = IsGivenIn table typed view e
AreGivenIn table typed view (e ∷ (g ∷ older)) =
    IsGivenIn table typed view e × IsGivenBelow table typed view e g
    × AllByRecursion (NoneGiven (flow_typing (flow_program table typed))) older

-- What the first formal of a traversal function sees in its frame is what the first actual designates in the
-- frame below, and each view in the frame has its root in the text.
abbrev pub IsTraversal : Table → TypedProgram → ViewStage → ViewStage → Type 0
IsTraversal table typed inner g =
    (f : ℕ) → traversed_formal (flow_typing (flow_program table typed)) (sub_of (flow_program table typed) inner.stage.frame.sub) ≡ Some f
    → (first : Option Way)
    × AreRooted (flow_typing (flow_program table typed)) (sub_acts (sub_of (flow_program table typed) inner.stage.frame.sub)) f first inner.views
    × ((named : NamedSub) → IsNamedSub (flow_named table typed) g.stage.frame.sub named → (p : NamedPoint) → IsAtPoint named.points g.stage.frame.next p
    → SeesFirst (flow_typing (flow_program table typed)) g.stage.depth p.instr inner.stage.frame.sub g.views first)
    × (inner.stage.frame.returns ≡ [])

abbrev pub AreTraversals : Table → TypedProgram → List ViewStage → Type 0
AreTraversals table typed [] = Unit {0}
AreTraversals table typed (e ∷ []) = Unit {0}
AreTraversals table typed (e ∷ (g ∷ older)) = IsTraversal table typed e g × AreTraversals table typed (g ∷ older)

-- What traversal functions give, and what they go through.
abbrev pub HasTraversals : Table → TypedProgram → View → List ViewStage → Type 0
HasTraversals table typed view stages = AreGivenIn table typed view stages × AreTraversals table typed stages

-- ---- a state

-- The frame of the package objects alone; or that of a subprogram with those around it.
abbrev pub IsRunning : Table → TypedProgram → Effects → State → ViewStage → List ViewStage → Type 0
IsRunning table typed effects state top [] = IsFirst top
IsRunning table typed effects state top (g ∷ older) =
    IsRunnable table typed top.stage.frame.sub × IsResting (flow_typing (flow_program table typed)) top.stage
    × AreWaiting table typed effects state top.stage.frame.sub top.stage.frame.returns (g ∷ older)

-- The innermost frame with its views, those around it, and what holds of them.
pub record IsSound (table : Table) (typed : TypedProgram) (effects : Effects) (state : State) : Type 0 where
  pub top : Stage
  pub views : Views
  pub older : List ViewStage
  pub stages : AreStages (top ∷ stages_of older) state.frames
  pub running : IsRunning table typed effects state (record { stage = top; views = views; cells = [] }) older
  -- what waits is what is in scope
  pub awaited : AreAwaited table typed None (top ∷ stages_of older)
  pub path : ControlPath (path_points (flow_program table typed) effects (sub_of (flow_program table typed) top.frame.sub)) top.before top.frame.next
  -- the state is well owned, each view has a way to its cell, and what ways find gone is moved
  pub viewed : ViewedAlone (home (flow_typing (flow_program table typed)) top.depth) (sees_in (flow_program table typed))
      (known_gone (home (flow_typing (flow_program table typed)) top.depth) (GoneElsewhere (flow_program table typed) effects older)) views
      (owners.view_of (flow_typing (flow_program table typed)) state) (facts_of (flow_program table typed) effects top)
  -- words have the types of what they stand in
  pub kept : Kept (flow_typing (flow_program table typed)) state.memory (waiting_in state)
  pub named : NamedSub
  pub of_sub : IsNamedSub (flow_named table typed) top.frame.sub named
  pub point : NamedPoint
  pub at_point : IsAtPoint named.points top.frame.next point
  -- variables that own are in scope, and so are views
  pub scope : InScope (flow_typing (flow_program table typed)) state.memory top.depth (lasting_of (flow_typing (flow_program table typed)) point.scope)
  pub holds : HoldsAt (flow_typing (flow_program table typed)) (sees_in (flow_program table typed)) top.depth views state.memory point
  pub placed : ArePlaced (flow_program table typed) top.depth (facts_of (flow_program table typed) effects top) views point.scope
  pub past : IsBeyond (flow_program table typed) effects top.depth views older
  pub none_above : NoneAbove (flow_typing (flow_program table typed)) top.depth state.memory
  pub traversals : HasTraversals table typed (owners.view_of (flow_typing (flow_program table typed)) state) (record { stage = top; views = views; cells = [] } ∷ older)

-- ---- where the frames come from

-- An object is declared, or assigned as a whole.
abbrev pub IsStoredAt : Instruction → ℕ → Type 0
IsStoredAt i x = ((v : TypedTree) × (i ≡ Declare x v)) ⊎ ((q : Pos) × (u : ℕ) × (e : TypedTree) × (i ≡ Assign (Name q x NoMore u) e))

-- Each view has the way that it had, or is declared or assigned.
abbrev pub AreTurned : Instruction → Views → Views → Type 0
AreTurned i before later = (x : ℕ) (w : Way) → later.way x ≡ Some w → (before.way x ≡ Some w) ⊎ IsStoredAt i x

-- The views that are left where the scope of an object ends had their ways, and none begins at the object.
abbrev pub AreLeft : (ℕ → ℕ) → ℕ → Views → Views → Type 0
AreLeft at_home y before later = (x : ℕ) (w : Way) → later.way x ≡ Some w → (before.way x ≡ Some w) × (Named at_home w → number_of w ≡ y → ⊥)

-- How the frames after a step, with their views, come from those before it, of which `top` is the innermost one: it goes on; the
-- scope of an object ends; after the last package object the main procedure begins; a subprogram is called, which has executed
-- nothing yet; a function gives its result to its caller; or a call has ended. In the frames that are left, a call changes
-- nothing that owners see but what it takes, and the end of one nothing but what was taken. A call moves nothing.
pub data Follows (program : FlowProgram) (effects : Effects) (i : Instruction) (m : Memory) (top : ViewStage) (older : List ViewStage) (n : Memory) (next : ViewStage) (around : List ViewStage) : Type 0 where
  steps_on : owners.IsNoCall i → (i ≡ Finish → ⊥) → ((y : ℕ) → i ≡ EndScope y → ⊥) → owners.IsOnward top.stage next.stage
      → AreTurned i top.views next.views → around ≡ older → Follows program effects i m top older n next around
  leaves_scope : (y : ℕ) → i ≡ EndScope y → owners.IsOnward top.stage next.stage
      → AreLeft (home (flow_typing program) top.stage.depth) y top.views next.views → around ≡ older
      → Follows program effects i m top older n next around
  begins_main : (below : ViewStage) → older ≡ [] → around ≡ below ∷ [] → owners.IsOnward top.stage below.stage → next.stage.before ≡ []
      → Follows program effects i m top older n next around
  returns_one : owners.IsNoCall i → (i ≡ Finish → ⊥) → ((y : ℕ) → i ≡ EndScope y → ⊥) → (below : ViewStage) (more : List ViewStage) (waits : List Waiting)
      → older ≡ below ∷ more → owners.IsOnward top.stage next.stage → AreTurned i top.views next.views
      → around ≡ record below { stage = record below.stage { frame = record below.stage.frame { waits = waits } } } ∷ more
      → Follows program effects i m top older n next around
  calls_one : (waits : Stage) (cells : List Lodge) → around ≡ record { stage = waits; views = top.views; cells = cells } ∷ older → owners.IsOnward top.stage waits → next.stage.before ≡ []
      → ((f : Fact) → Has (facts_of program effects waits) f → Has (facts_of program effects top.stage) f)
      → AreCarried (flow_typing program) (λ f. f ≡ suc top.stage.depth → ⊥) cells [] m n → Follows program effects i m top older n next around
  ends_one : (cells : List Lodge) → older ≡ record { stage = next.stage; views = next.views; cells = cells } ∷ around
      → AreCarried (flow_typing program) (λ f. f ≡ top.stage.depth → ⊥) cells next.stage.returns m n
      → Follows program effects i m top older n next around

-- What a step leads to, with where its frames come from.
abbrev pub LeadsAlong : Table → TypedProgram → Effects → Instruction → Memory → ViewStage → List ViewStage → Outcome → Type 0
LeadsAlong table typed effects i m top older (Goes state) =
    (next : IsSound table typed effects state)
    × Follows (flow_program table typed) effects i m top older state.memory (record { stage = next.top; views = next.views; cells = [] }) next.older
LeadsAlong table typed effects i m top older (Ends e state) = (IsTrap e → ⊥) × WellOwned (flow_typing (flow_program table typed)) state

-- So it is of each step.
abbrev pub StepsLeadAlong : Table → TypedProgram → Effects → List ℕ → Type 0
StepsLeadAlong table typed effects input =
    (state : State) (sound : IsSound table typed effects state)
    → LeadsAlong table typed effects sound.point.instr state.memory (record { stage = sound.top; views = sound.views; cells = [] }) sound.older
    (step (flow_program table typed) input state)

-- ---- what is to be proved

-- A step of a sound state leads to a sound state, or ends without a trap in a well owned state.
abbrev pub LeadsOn : Table → TypedProgram → Effects → Outcome → Type 0
LeadsOn table typed effects (Goes state) = IsSound table typed effects state
LeadsOn table typed effects (Ends e state) = (IsTrap e → ⊥) × WellOwned (flow_typing (flow_program table typed)) state

abbrev pub StepsLeadOn : Table → TypedProgram → Effects → List ℕ → Type 0
StepsLeadOn table typed effects input =
    (state : State) → IsSound table typed effects state → LeadsOn table typed effects (step (flow_program table typed) input state)
