-- A step whose expressions have the types of their places.
--
-- This is what a lowering to words of known sorts, kinds and bounds asks for. The machine's
-- `is_typed` goes by the sorts of words alone, and a record of one component has the sorts of that
-- component.
use Rattle.std.specs.Prelude.{◌≡◌, ◌⊎◌, ℕ, Bool, true, false, List, [], ◌∷◌, length, Option, Some, None, is_some}
use Rattle.machine.specs.spark_base.Lists.{Has as Holds}
use Rattle.machine.specs.place_names.declared.act.Mode.{Mode}
use Rattle.machine.specs.place_names.declared.act.Mode.TheVariants as mode
use Rattle.machine.specs.type_definitions.declared.table.Shape.TheVariants as shape
use Rattle.machine.specs.type_definitions.Types.{shape_of, full, is_scalar}
use Rattle.machine.specs.type_definitions.Entries.{boolean}
use Rattle.machine.specs.typed_tree.Trees.{TypedTree, Name, Call, Parens, Text, Image, Binary, NoMore, More}
use Rattle.machine.specs.flow_paths.Instructions.{Instruction, Declare, Assign, Output, Input, Release, Test, Choose, Start, Next, Evaluate, LeaveLoop, Hold}
use Rattle.machine.specs.flow_paths.Instructions as instruction
use Rattle.machine.specs.flow_paths.Objects.{Typing, Signature, object_at, sub_at, traverses}
use Rattle.machine.specs.flow_paths.Points.{FlowPoint}
use Rattle.machine.specs.flow_paths.Laid.{FlowSub, FlowProgram, flow_typing}
use Rattle.machine.specs.Typed.{successors}
use Rattle.soundness.specs.TypedLaws.Fine.{Agree, Has, Leads, counts}

-- ---- values

-- What is looked at, for a place of an access type: both types designate one type.
abbrev pub Views : Typing → ℕ → ℕ → Type 0
Views s want t =
    (d : ℕ) × (k : ℕ) × (c : Bool) × (n : Bool) × (e : Bool) × (m : Bool)
    × (shape_of s.table t ≡ shape.Access d c n) × (shape_of s.table want ≡ shape.Access k e m) × Agree s.table d k

-- A source that is looked at, for a place of an anonymous access type.
abbrev pub IsViewed : Typing → ℕ → TypedTree → Type 0
IsViewed s want (Name p x steps t) = Leads s (object_at s x).of steps t × Views s want t
IsViewed s want (Call p sub actuals) = (t : ℕ) × ((sub_at s sub).result ≡ Some t) × Views s want t
IsViewed s want (Parens e) = IsViewed s want e
IsViewed s want e = ⊥

-- A value that a place of a type takes.
abbrev pub Taken : Typing → ℕ → TypedTree → Type 0
Taken s want e = Has s want e ⊎ IsViewed s want e

-- No value or one.
abbrev pub FirstTaken : Typing → ℕ → TypedTree → Type 0
FirstTaken s want (More e rest) = (rest ≡ NoMore) × Taken s want e
FirstTaken s want NoMore = Unit {0}
FirstTaken s want e = ⊥

abbrev pub FirstHas : Typing → ℕ → TypedTree → Type 0
FirstHas s want (More e rest) = (rest ≡ NoMore) × Has s want e
FirstHas s want NoMore = Unit {0}
FirstHas s want e = ⊥

-- A name of a place of this type.
abbrev pub IsPlaceOf : Typing → ℕ → TypedTree → Type 0
IsPlaceOf s t (Name p x steps u) = Leads s (object_at s x).of steps u × (u ≡ t)
IsPlaceOf s t e = ⊥

-- A string: its parts are images and the characters of literals.
unfoldable pub IsText : Typing → TypedTree → Type 0
IsText s (Text b) = Unit {0}
IsText s (Image t e) = (is_scalar (full s.table t) ≡ true) × Has s t e
IsText s (Parens e) = IsText s e
IsText s (Binary op a b) = IsText s a × IsText s b
IsText s e = ⊥

abbrev pub FirstText : Typing → TypedTree → Type 0
FirstText s (More e rest) = (rest ≡ NoMore) × IsText s e
FirstText s NoMore = Unit {0}
FirstText s e = ⊥

-- ---- calls

-- An actual is a value for its formal, or a place by the formal's mode.
abbrev pub IsActual : Typing → ℕ → TypedTree → Type 0
IsActual s x e = by (object_at s x).mode
  where
    by : Mode → Type 0
    by mode.In = Taken s (object_at s x).of e
    by _ = (t : ℕ) × IsPlaceOf s t e × Agree s.table t (object_at s x).of

-- One for each formal.
abbrev pub ActualsTaken : Typing → List ℕ → TypedTree → Type 0
ActualsTaken s (x ∷ formals) (More e rest) = IsActual s x e × ActualsTaken s formals rest
ActualsTaken s [] NoMore = Unit {0}
ActualsTaken s formals e = ⊥

-- What a traversal goes through is no scalar.
abbrev pub GoesThrough : Typing → Signature → Type 0
GoesThrough s sub =
    traverses s.table sub.result ≡ true → (x : ℕ) (rest : List ℕ) → sub.formals ≡ x ∷ rest → is_scalar (full s.table (object_at s x).of) ≡ false

-- A call gives a result just where a function is called.
abbrev pub IsCall : Typing → Bool → ℕ → TypedTree → Type 0
IsCall s given sub actuals =
    ActualsTaken s (sub_at s sub).formals actuals × GoesThrough s (sub_at s sub) × (is_some (sub_at s sub).result ≡ given)

-- A procedure returns no value, and a function one of its type.
abbrev pub Returned : Typing → Option ℕ → TypedTree → Type 0
Returned s None v = v ≡ NoMore
Returned s (Some t) v = (e : TypedTree) × (v ≡ More e NoMore) × Taken s t e

-- ---- steps

abbrev pub IsTypedStep : Typing → Option ℕ → Instruction → Type 0
IsTypedStep s result (Declare x v) = FirstTaken s (object_at s x).of v
IsTypedStep s result (Assign target e) = (t : ℕ) × IsPlaceOf s t target × Taken s t e
IsTypedStep s result (instruction.Call sub actuals r) = IsCall s (is_some r) sub actuals
IsTypedStep s result (Output text line) = FirstText s text
IsTypedStep s result (Input target) = (t : ℕ) × IsPlaceOf s t target × (counts (shape_of s.table t) ≡ true)
IsTypedStep s result (Release e) = (t : ℕ) × (d : ℕ) × IsPlaceOf s t e × (shape_of s.table t ≡ shape.Access d false true)
IsTypedStep s result (Test e) = Has s boolean e
IsTypedStep s result (Choose e choices) = (t : ℕ) × (is_scalar (full s.table t) ≡ true) × Has s t e
IsTypedStep s result (Start x reversed low high) =
    (is_scalar (full s.table (object_at s x).of) ≡ true) × Has s (object_at s x).of low × Has s (object_at s x).of high
IsTypedStep s result (Next x reversed low high) = is_scalar (full s.table (object_at s x).of) ≡ true
IsTypedStep s result (Evaluate t e left) = Has s boolean e
IsTypedStep s result (LeaveLoop e) = FirstHas s boolean e
IsTypedStep s result (Hold v) = Returned s result v
IsTypedStep s result _ = Unit {0}

-- ---- programs

-- The step of each point.
abbrev pub AreTyped : FlowProgram → Type 0
AreTyped program =
    (sub : FlowSub) → Holds program.subs sub → (p : FlowPoint) → Holds sub.points p → IsTypedStep (flow_typing program) sub.result p.instr

-- Each point has as many successors as its instruction leads to. The package objects are declared one
-- by one, and the last one is followed by nothing.
abbrev pub IsCounted : FlowPoint → Type 0
IsCounted p = length p.next ≡ successors p.instr

unfoldable pub AreElaborated : List FlowPoint → Type 0
AreElaborated [] = Unit {0}
AreElaborated (p ∷ []) = length p.next ≡ 0
AreElaborated (p ∷ (q ∷ rest)) = IsCounted p × AreElaborated (q ∷ rest)

abbrev pub AreCounted : List FlowSub → Type 0
AreCounted [] = Unit {0}
AreCounted (first ∷ rest) = AreElaborated first.points × ((sub : FlowSub) → Holds rest sub → (p : FlowPoint) → Holds sub.points p → IsCounted p)
