-- Of what is asked of an accepted program so that its runs are sound: what typing, the layout and the
-- rules see to. Nothing here speaks of a run.
use Rattle.std.specs.Prelude.{◌≡◌, ◌⊎◌, ℕ, true, false, List, [], ◌∷◌, take, drop, get_or, Some, None, is_some}
use Rattle.machine.specs.spark_base.Lists.{Has}
use Rattle.machine.specs.place_names.declared.act.Mode.{Mode}
use Rattle.machine.specs.place_names.declared.act.Mode.TheVariants as mode
use Rattle.machine.specs.place_names.declared.act.Placed.{Placed}
use Rattle.machine.specs.place_names.declared.fact.Fact.TheVariants.{Moved}
use Rattle.machine.specs.place_names.Facts.{adds}
use Rattle.machine.specs.place_names.Names.{Name as PlaceName}
use Rattle.machine.specs.type_definitions.Types.{Table, full, is_scalar}
use Rattle.machine.specs.typed_tree.Trees.{TypedTree, Name, More}
use Rattle.machine.specs.typed_tree.Programs.{TypedProgram}
use Rattle.machine.specs.flow_paths.declared.report.Effects.{Effects}
use Rattle.machine.specs.flow_paths.Instructions.{Instruction, Declare, Assign, Call, Input, Release, Start, Evaluate, Hold, EndScope, Finish}
use Rattle.machine.specs.flow_paths.Objects.{Typing, object_at, is_formal, is_package_object}
use Rattle.machine.specs.flow_paths.Points.{NamedPoint, FlowPoint}
use Rattle.machine.specs.flow_paths.Laid.{FlowSub, FlowProgram, NamedSub, flow_typing, flow_program, flow_named}
use Rattle.machine.specs.flow_paths.Paths.{ControlPath, facts_before}
use Rattle.machine.specs.flow_paths.Effects.{path_points}
use Rattle.machine.specs.flow_paths.Names.{has_call}
use Rattle.machine.specs.flow_paths.Scopes.{taken, is_ready, is_within, Differ, ScopesHold}
use Rattle.machine.specs.States.{sub_of}
use Rattle.machine.specs.Run.{no_point}
use Rattle.soundness.specs.TypedLaws.Needed.{Stays, IsPlace}
use Rattle.soundness.specs.Sound.{IsEntered, is_temporary_object, temporaries_in, returns_value, has_returned}

-- ---- scopes

-- The object that a name is rooted in.
abbrev pub root_of : TypedTree → List ℕ
root_of (Name p x steps t) = x ∷ []
root_of e = []

-- The objects whose names an instruction stores at.
abbrev pub stored_at : Instruction → List ℕ
stored_at (Assign target e) = root_of target
stored_at (Input target) = root_of target
stored_at (Release e) = root_of e
stored_at _ = []

-- What an instruction does with temporaries, after those that it takes: it declares and ends none,
-- and fills its own; a right operand finds that of the left one; at a return no other one is full.
abbrev pub Fills : Typing → Instruction → List ℕ → Type 0
Fills s (Declare x v) scope = is_temporary_object s x ≡ false
Fills s (Start x reversed low high) scope = is_temporary_object s x ≡ false
Fills s (EndScope x) scope = is_temporary_object s x ≡ false
Fills s (Call sub actuals (Some t)) scope = is_temporary_object s t ≡ true
Fills s (Evaluate t e (Some op)) scope = is_temporary_object s t ≡ true
Fills s (Evaluate t e None) scope = (x : ℕ) × (rest : List ℕ) × (scope ≡ x ∷ rest) × (is_temporary_object s x ≡ true)
Fills s (Hold v) scope = temporaries_in s scope ≡ 0
Fills s i scope = Unit {0}

-- The temporaries that are taken are the last ones in scope.
abbrev pub IsSupplied : Typing → NamedPoint → Type 0
IsSupplied s p = (temporaries_in s (take (taken p.instr) p.scope) ≡ taken p.instr) × Fills s p.instr (drop (taken p.instr) p.scope)

-- What is in scope goes on to successors, but for objects that leave silently, and no temporary is at
-- first. At each point: temporaries are supplied; the object that is declared isn't in scope, and the one whose scope ends
-- is the last one in scope (`is_ready`); what is stored at is in scope or belongs to a package; the
-- objects of packages have no end of scope; and where a procedure ends its formals alone are in scope.
pub record AreScoped (table : Table) (typed : TypedProgram) : Type 0 where
  pub goes : (sub : NamedSub) → Has (flow_named table typed) sub → Differ sub.points × ScopesHold (flow_typing (flow_program table typed)) sub.points
  pub starts : (sub : NamedSub) → Has (flow_named table typed) sub → (p : NamedPoint) (rest : List NamedPoint) → sub.points ≡ p ∷ rest
      → temporaries_in (flow_typing (flow_program table typed)) p.scope ≡ 0
  pub supplied : (sub : NamedSub) → Has (flow_named table typed) sub → (p : NamedPoint) → Has sub.points p
      → IsSupplied (flow_typing (flow_program table typed)) p
  pub ready : (sub : NamedSub) → Has (flow_named table typed) sub → (p : NamedPoint) → Has sub.points p → is_ready p p.instr ≡ true
  pub stored : (sub : NamedSub) → Has (flow_named table typed) sub → (p : NamedPoint) → Has sub.points p → (x : ℕ) → Has (stored_at p.instr) x
      → (is_package_object (flow_typing (flow_program table typed)) x ≡ true) ⊎ (is_within x (drop (taken p.instr) p.scope) ≡ true)
  pub ends : (sub : NamedSub) → Has (flow_named table typed) sub → (p : NamedPoint) → Has sub.points p → (x : ℕ) → p.instr ≡ EndScope x
      → is_package_object (flow_typing (flow_program table typed)) x ≡ false
  pub finishes : (sub : NamedSub) → Has (flow_named table typed) sub → (p : NamedPoint) → Has sub.points p → p.instr ≡ Finish
      → (x : ℕ) → is_within x p.scope ≡ true → is_formal (flow_typing (flow_program table typed)) x ≡ true

-- On each control path: where an object is declared, no fact says that a place in it was moved,
-- neither before its initial value is evaluated nor then.
abbrev pub AreNew : FlowProgram → Effects → Type 0
AreNew program effects =
    (sub : FlowSub) → Has program.subs sub → (before : List ℕ) (last : ℕ) → ControlPath (path_points program effects sub) before last
    → (x : ℕ) (v : TypedTree) → (get_or sub.points last no_point).instr ≡ Declare x v
    → (name : PlaceName) → name.root ≡ x
    → (Has (facts_before (path_points program effects sub) before) (Moved name) → ⊥)
    × (Has (facts_before (path_points program effects sub) (last ∷ before)) (Moved name) → ⊥)

-- ---- the package objects

-- The package objects are declared one by one, from values without calls, and nothing is moved for
-- them.
pub record AreElaborated (program : FlowProgram) : Type 0 where
  pub declared : (p : FlowPoint) → Has (sub_of program 0).points p → (x : ℕ) × (v : TypedTree) × (p.instr ≡ Declare x v) × (has_call v ≡ false)
  pub unmoved : (p : FlowPoint) → Has (sub_of program 0).points p → (a : Placed) → Has p.acts a → (name : PlaceName) → Has (adds a.act) (Moved name) → ⊥

-- ---- calls

-- An actual of a scalar type stays within what it names; one that is copied back to is a name.
abbrev pub IsActualBy : Typing → Mode → TypedTree → Type 0
IsActualBy s mode.In e = Stays s e
IsActualBy s m e = (t : ℕ) × IsPlace s e t × (is_scalar (full s.table t) ≡ true)

-- So is each that there is a formal for.
abbrev pub AreActuals : Typing → List ℕ → TypedTree → Type 0
AreActuals s (x ∷ formals) (More e rest) = IsActualBy s (object_at s x).mode e × AreActuals s formals rest
AreActuals s formals actuals = Unit {0}

-- On each control path of a subprogram that may run and gives a result: no return with a value comes
-- after another one, and the end of the call comes after one.
abbrev pub AreReturning : FlowProgram → Effects → Type 0
AreReturning program effects =
    (k : ℕ) → IsEntered program k → is_some (sub_of program k).result ≡ true → (before : List ℕ) (last : ℕ)
    → ControlPath (path_points program effects (sub_of program k)) before last
    → (returns_value (get_or (sub_of program k).points last no_point).instr ≡ true → has_returned (sub_of program k) before ≡ false)
    × ((get_or (sub_of program k).points last no_point).instr ≡ Finish → has_returned (sub_of program k) before ≡ true)
