-- What is asked of a typed program, subprogram by subprogram, so that it is ready. Nothing here speaks of
-- points, paths or facts.
use Rattle.std.specs.Prelude.{◌≡◌, ℕ, suc, ◌≤◌, ◌<◌, Bool, true, false, not, ◌&&◌, List, ◌∷◌, ◌++◌, flat_map, length, Option, Some, None, is_some}
use Rattle.std.specs.List.{list_all}
use Rattle.machine.specs.spark_base.Lists.{Has}
use Rattle.machine.specs.type_definitions.Types.{Table, full, is_scalar, is_owning}
use Rattle.machine.specs.typed_tree.Trees.{TypedTree, TypedCode}
use Rattle.machine.specs.typed_tree.Trees as typed
use Rattle.machine.specs.typed_tree.Programs.{TypedSub, TypedProgram}
use Rattle.machine.specs.flow_paths.Objects.{Typing, object_at, is_formal, is_package_object}
use Rattle.machine.specs.flow_paths.Instructions.{Call}
use Rattle.machine.specs.flow_paths.Points.{NamedPoint, FlowPoint}
use Rattle.machine.specs.flow_paths.Laid.{FlowSub, FlowProgram, unnumbered, elaboration_points, typing_of, flow_typing, flow_program}
use Rattle.machine.specs.flow_paths.Scopes.{is_settled, is_temporary}
use Rattle.machine.specs.States.{sub_of}
use Rattle.soundness.specs.Sound.{calls_procedures}
use Rattle.soundness.specs.Ready.{AreActuals}
use Rattle.settled_types.specs.OrderLaws.ScopeLaws.Code.{is_formed, Once, objects_of, roots, body_seen}

-- ---- the package objects

-- Code declares objects, and does nothing else.
unfoldable pub declares_only : TypedCode → Bool
declares_only (typed.Declare p x v) = true
declares_only (typed.More a rest) = declares_only a && declares_only rest
declares_only typed.NoMore = true
declares_only _ = false

-- None of some objects is of an owning type.
abbrev pub own_nothing : Typing → List ℕ → Bool
own_nothing s xs = list_all (λ x. not (is_owning s.table (object_at s x).of)) xs

-- No initial value names such an object.
unfoldable pub names_no_owner : Typing → TypedCode → Bool
names_no_owner s (typed.Declare p x v) = own_nothing s (roots v)
names_no_owner s (typed.More a rest) = names_no_owner s a && names_no_owner s rest
names_no_owner s _ = true

-- ---- subprograms

-- Of each subprogram: its objects have numbers of their own. Object 0 is the state of Ada.Text_IO.
pub record IsBody (s : Typing) (sub : TypedSub) : Type 0 where
  pub settled : is_settled s sub.body ≡ true
  pub once : Once (objects_of sub)
  pub numbered : (x : ℕ) → Has (objects_of sub) x → (1 ≤ x) × (x < length s.objects)

-- Of each with a body in the text: its objects belong to no package, and what it names is in scope.
pub record IsLocal (s : Typing) (sub : TypedSub) : Type 0 where
  pub own : (x : ℕ) → Has (objects_of sub) x → is_package_object s x ≡ false
  pub formals : (x : ℕ) → Has sub.formals x → is_formal s x ≡ true
  pub seen : body_seen (is_package_object s) sub ≡ true

-- A subprogram has a number among some.
abbrev pub IsSub : List TypedSub → ℕ → TypedSub → Type 0
IsSub subs n sub = (front : List TypedSub) × (rest : List TypedSub) × (subs ≡ front ++ sub ∷ rest) × (length front ≡ n)

pub record IsInOrder (table : Table) (program : TypedProgram) : Type 0 where
  -- the first one declares the package objects
  pub first : TypedSub
  pub rest : List TypedSub
  pub subs : program.subs ≡ first ∷ rest
  pub declares : declares_only first.body ≡ true
  pub unmoved : names_no_owner (typing_of table program) first.body ≡ true
  pub bodies : (sub : TypedSub) → Has program.subs sub → IsBody (typing_of table program) sub
  pub local : (sub : TypedSub) → Has rest sub → IsLocal (typing_of table program) sub
  -- no object is one of two of the others
  pub apart : Once (flat_map objects_of rest)
  -- in these each exit stands in a loop
  pub formed : (sub : TypedSub) → Has rest sub → is_formed false sub.body ≡ true
  -- the main procedure is one of them
  pub number : ℕ
  pub main : TypedSub
  pub is_main : program.main ≡ Some (suc number)
  pub stands : IsSub rest number main
  pub procedure : main.result ≡ None
  -- no object of the text is a temporary
  pub lasting : (x : ℕ) → is_temporary (object_at (typing_of table program) x).kind ≡ false
  -- object 0 is Ada.Text_IO
  pub text_io : is_package_object (typing_of table program) 0 ≡ false

-- What is called has a body in the text, and is a function where the call has a result.
abbrev pub AreAnswered : Table → TypedProgram → List TypedSub → Type 0
AreAnswered table program rest =
    (sub : FlowSub) → Has (flow_program table program).subs sub → (p : FlowPoint) → Has sub.points p → (n : ℕ) (actuals : TypedTree) (result : Option ℕ)
    → p.instr ≡ Call n actuals result → (k : ℕ) × (callee : TypedSub) × (n ≡ suc k) × IsSub rest k callee × (is_some callee.result ≡ is_some result)

-- The package objects are declared without calls.
abbrev pub AreStill : Table → TypedProgram → TypedSub → Type 0
AreStill table program first = (p : NamedPoint) → Has (elaboration_points (unnumbered (typing_of table program)) first) p → calls_procedures p.instr ≡ true

-- Where the formals of what is called are known as such and are of scalar types, the actuals stay within what
-- they name.
abbrev pub ArePassed : FlowProgram → Type 0
ArePassed program =
    (sub : FlowSub) → Has program.subs sub → (p : FlowPoint) → Has sub.points p → (n : ℕ) (actuals : TypedTree) (result : Option ℕ)
    → p.instr ≡ Call n actuals result → ((x : ℕ) → Has (sub_of program n).formals x → is_formal (flow_typing program) x ≡ true)
    → ((x : ℕ) → Has (sub_of program n).formals x → is_scalar (full program.table (object_at (flow_typing program) x).of) ≡ true)
    → AreActuals (flow_typing program) (sub_of program n).formals actuals
