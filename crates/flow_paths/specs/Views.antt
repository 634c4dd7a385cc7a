-- The rules on constant views, observers, borrowers and traversal functions, which look at the text
-- without paths (docs/FLOW.md, "Views"): V1 to V4.
use Rattle.std.specs.Prelude.{◌≡◌, ℕ, zero, suc, Bool, true, false, not, ◌&&◌, ◌||◌, ◌==◌, List, [], ◌∷◌, map, flat_map, length, get_or, Option, Some, None, is_some, IsTrue}
use Rattle.typed_tree.specs.spark_base.Lists.{Has}
use Rattle.typed_tree.specs.spark_base.declared.position.Pos.{Pos}
use Rattle.typed_tree.specs.place_names.declared.selector.Sel.TheVariants as sel
use Rattle.typed_tree.specs.place_names.Names.{Name, object, extend}
use Rattle.typed_tree.specs.place_names.declared.act.Mode.{Mode}
use Rattle.typed_tree.specs.place_names.declared.act.Mode.TheVariants as mode
use Rattle.typed_tree.specs.place_names.declared.act.Act.{Act}
use Rattle.typed_tree.specs.place_names.declared.act.Act.TheVariants as act
use Rattle.typed_tree.specs.place_names.declared.act.Placed.{Placed}
use Rattle.typed_tree.specs.place_names.declared.rule.Rule.{Rule}
use Rattle.typed_tree.specs.place_names.declared.rule.Rule.TheVariants as rule
use Rattle.typed_tree.specs.place_names.Reports.{Report}
use Rattle.typed_tree.specs.type_definitions.Types.{is_nil}
use Rattle.flow_paths.specs.declared.report.Effects.{Effects}
use Rattle.flow_paths.specs.Instructions.{Instruction, Assign, Call}
use Rattle.flow_paths.specs.Objects.{Typing, object_at, view_of, is_borrower, is_observer, is_formal, is_package_object, is_named_access, traverses}
use Rattle.flow_paths.specs.Acts.{gives_variable}
use Rattle.flow_paths.specs.Points.{FlowPoint}
use Rattle.flow_paths.specs.Laid.{FlowSub, FlowProgram, flow_typing}
use Rattle.flow_paths.specs.Limits.{source_pos}
use Rattle.flow_paths.specs.Effects.{written_by, writes_text}

-- ---- roots

abbrev pub sub_acts : FlowSub → List Act
sub_acts sub = flat_map (λ (p : FlowPoint). map (λ (a : Placed). a.act) p.acts) sub.points

abbrev pub holds_loans : Typing → ℕ → Bool
holds_loans s x = is_borrower s x || is_observer s x

-- The roots of an object, by the acts of a text: of one that is no borrower or observer, the object
-- itself; of a borrower, those of the root of its initial source; of an observer, those of the
-- roots of all its sources. No others.
pub data Roots (s : Typing) (acts : List Act) : ℕ → ℕ → Type 0 where
  itself : (x : ℕ) → IsTrue (not (holds_loans s x)) → Roots s acts x x
  borrows : (h r : ℕ) (m : Name) → Has acts (act.Borrow h m) → Roots s acts m.root r → Roots s acts h r
  observes : (h r : ℕ) (m : Name) (from_observer : Bool) → Has acts (act.Observe h m from_observer)
      → Roots s acts m.root r → Roots s acts h r

-- An object is the one root of another.
abbrev pub IsOnlyRoot : Typing → List Act → ℕ → ℕ → Type 0
IsOnlyRoot s acts x f = Roots s acts x f × ((r : ℕ) → Roots s acts x r → r ≡ f)

-- ---- constant views

abbrev pub is_in_mode : Mode → Bool
is_in_mode mode.In = true
is_in_mode _ = false

abbrev pub is_function : FlowSub → Bool
is_function sub = is_some sub.result

abbrev pub has_selector : Name → Bool
has_selector m = not (is_nil m.sels)

-- A formal or a package object.
abbrev pub is_outer : Typing → ℕ → Bool
is_outer s x = is_formal s x || is_package_object s x

pub data ConstantView (s : Typing) (sub : FlowSub) (m : Name) : Type 0 where
  -- its root is an observer and it has a selector
  of_observer : IsTrue (is_observer s m.root && has_selector m) → ConstantView s sub m
  -- its root is an `in` formal of a procedure, and the formal's type isn't a named access type or
  -- the name is the formal itself
  of_formal : IsTrue (not (is_function sub) && (is_formal s m.root && (is_in_mode (object_at s m.root).mode
      && (not (is_named_access (view_of s m.root)) || not (has_selector m))))) → ConstantView s sub m
  -- it stands in a function, and its root is a formal or a package object
  in_function : IsTrue (is_function sub && is_outer s m.root) → ConstantView s sub m
  -- it stands in a function, its root is a borrower, it has a selector, and a root of the borrower
  -- is a formal or a package object
  of_borrower : (r : ℕ) → IsTrue (is_function sub && (is_borrower s m.root && has_selector m))
      → Roots s (sub_acts sub) m.root r → IsTrue (is_outer s r) → ConstantView s sub m

-- ---- V1

-- What an act changes: a Write, a Move, a Free, and an `out` or `in out` actual.
abbrev pub actual_changes : Mode → Name → Option Name
actual_changes mode.In m = None
actual_changes mode.Out m = Some m
actual_changes mode.InOut m = Some m

abbrev pub changes : Act → Option Name
changes (act.Write m) = Some m
changes (act.Move m parts) = Some m
changes (act.Free m) = Some m
changes (act.Actual m how owning access) = actual_changes how m
changes _ = None

-- What an act lends for writing: a Borrow, and an `in` actual of a named access type in the call of
-- a procedure.
abbrev pub actual_lends : Mode → Bool → Name → Option Name
actual_lends mode.In true m = Some m
actual_lends _ access m = None

abbrev pub lends : Act → Option Name
lends (act.Borrow h m) = Some m
lends (act.Actual m how owning access) = actual_lends how access m
lends _ = None

-- The traversed formal of a traversal function is its first.
abbrev pub first_of : List ℕ → Option ℕ
first_of [] = None
first_of (x ∷ rest) = Some x

abbrev pub traversed_of : Bool → List ℕ → Option ℕ
traversed_of true formals = first_of formals
traversed_of false formals = None

abbrev pub traversed_formal : Typing → FlowSub → Option ℕ
traversed_formal s sub = traversed_of (traverses s.table sub.result) sub.formals

-- A Borrow rooted in the traversed formal of a function that gives a borrower, directly or through
-- a borrower that has that formal as its one root, may borrow from what is constant otherwise.
pub data MayBorrow (s : Typing) (sub : FlowSub) : Act → Type 0 where
  directly : (h f : ℕ) (m : Name) → IsTrue (gives_variable s sub.result) → traversed_formal s sub ≡ Some f
      → m.root ≡ f → MayBorrow s sub (act.Borrow h m)
  through : (h f : ℕ) (m : Name) → IsTrue (gives_variable s sub.result) → traversed_formal s sub ≡ Some f
      → IsTrue (is_borrower s m.root) → IsOnlyRoot s (sub_acts sub) m.root f → MayBorrow s sub (act.Borrow h m)

-- ---- V2

-- A scope encloses itself, and what a scope encloses that stands in it; `steps` bounds the path
-- outwards.
unfoldable pub encloses_within : ℕ → List ℕ → ℕ → ℕ → Bool
encloses_within zero scopes a b = a == b
encloses_within (suc steps) scopes a b = a == b || encloses_within steps scopes a (get_or scopes b b)

abbrev pub encloses : List ℕ → ℕ → ℕ → Bool
encloses scopes a b = encloses_within (length scopes) scopes a b

abbrev pub scope_of : Typing → ℕ → ℕ
scope_of s x = (object_at s x).scope

abbrev pub is_assignment : Instruction → Bool
is_assignment (Assign target e) = true
is_assignment _ = false

-- ---- the reports

-- An instruction calls a procedure.
abbrev pub Calls : Instruction → ℕ → Type 0
Calls (Call sub actuals None) callee = sub ≡ callee
Calls _ callee = ⊥

abbrev pub text_report : Pos → Rule → Name → Report
text_report p r m = record { pos = p; rule = r; name = m; word = None }

abbrev pub ActAt : FlowSub → FlowPoint → Placed → Type 0
ActAt sub p a = Has sub.points p × Has p.acts a

-- What V1 to V4 report of a subprogram.
pub data ViewReport (program : FlowProgram) (effects : Effects) (sub : FlowSub) : Report → Type 0 where
  -- V1: a name that is changed is a constant view
  changed : (p : FlowPoint) (a : Placed) (m : Name) → ActAt sub p a → changes a.act ≡ Some m
      → ConstantView (flow_typing program) sub m → ViewReport program effects sub (text_report a.pos rule.V1 m)
  -- V1: what a name that is lent for writing designates is a constant view
  lent : (p : FlowPoint) (a : Placed) (m : Name) → ActAt sub p a → lends a.act ≡ Some m
      → ConstantView (flow_typing program) sub (extend m (sel.Deref ∷ [])) → (MayBorrow (flow_typing program) sub a.act → ⊥)
      → ViewReport program effects sub (text_report a.pos rule.V1 m)
  -- V1: a borrower is given that is rooted in an observer
  given : (p : FlowPoint) (at : Pos) (m : Name) → ActAt sub p (record { pos = at; act = act.Give m true })
      → IsTrue (is_observer (flow_typing program) m.root) → ViewReport program effects sub (text_report at rule.V1 m)
  -- V1: a function calls a procedure that writes a package object or Ada.Text_IO
  called : (p : FlowPoint) (g : ℕ) (callee : ℕ) → IsTrue (is_function sub) → Has sub.points p
      → Calls p.instr callee → Has (written_by effects callee) g → ViewReport program effects sub (text_report p.pos rule.V1 (object g))
  -- V1: a function calls Put, Put_Line, New_Line or Get
  text_io : (p : FlowPoint) → IsTrue (is_function sub) → Has sub.points p → IsTrue (writes_text p.instr)
      → ViewReport program effects sub (text_report p.pos rule.V1 (object 0))
  -- V2: an observer is assigned from a name whose root's scope doesn't enclose the observer's
  shorter : (p : FlowPoint) (at : Pos) (h : ℕ) (m : Name) (from_observer : Bool)
      → ActAt sub p (record { pos = at; act = act.Observe h m from_observer }) → IsTrue (is_assignment p.instr)
      → IsTrue (not (encloses program.scopes (scope_of (flow_typing program) m.root) (scope_of (flow_typing program) h)))
      → ViewReport program effects sub (text_report at rule.V2 m)
  -- V3: a traversal function gives a name whose root hasn't the traversed formal as its one root
  elsewhere : (p : FlowPoint) (at : Pos) (m : Name) (borrows : Bool)
      → ActAt sub p (record { pos = at; act = act.Give m borrows })
      → ((f : ℕ) → traversed_formal (flow_typing program) sub ≡ Some f → IsOnlyRoot (flow_typing program) (sub_acts sub) m.root f → ⊥)
      → ViewReport program effects sub (text_report at rule.V3 m)
  -- V4: a borrower is assigned from a name that isn't rooted in it; the report stands at that name
  other_root : (p : FlowPoint) (at : Pos) (b : ℕ) (m : Name)
      → ActAt sub p (record { pos = at; act = act.Reborrow b m }) → IsTrue (not (m.root == b))
      → ViewReport program effects sub (text_report (source_pos p.instr at) rule.V4 m)
