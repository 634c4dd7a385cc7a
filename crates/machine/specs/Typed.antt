-- Which words an expression gives, and which points of a program are typed (docs/RUN.md, "Words").
--
-- The words of a type have sorts: a value of Integer, one of an enumeration, or an access value
-- that designates objects of a type. In a typed program each place takes words of its own sorts, no
-- name leads out of what it names, the type that is kept of a name is the one that its steps reach,
-- numbers are values of Integer, what stands for each element of an array owns nothing but null,
-- and points have as many successors as their instructions lead to. That the rules of typing see to
-- it isn't proved (docs/PROVED.md).
use Rattle.std.specs.Prelude.{ℕ, zero, suc, Bool, true, false, not, ◌&&◌, ◌||◌, List, [], ◌∷◌, ◌++◌, flat_map, length, slice_get, nat_eq, nat_lt, Option, Some, None, is_some, ℤ, if◌then◌else◌}
use Rattle.std.specs.Ordering.{int_eq}
use Rattle.std.specs.List.{list_all}
use Rattle.flow_paths.specs.resolved_tree.declared.operator.Operator.{Operator}
use Rattle.flow_paths.specs.resolved_tree.declared.operator.Operator.TheVariants as operator
use Rattle.flow_paths.specs.resolved_tree.declared.operator.UnaryOperator.{UnaryOperator}
use Rattle.flow_paths.specs.resolved_tree.declared.operator.UnaryOperator.TheVariants as unary
use Rattle.flow_paths.specs.type_definitions.declared.table.Component.{Component}
use Rattle.flow_paths.specs.type_definitions.declared.table.Shape.{Shape}
use Rattle.flow_paths.specs.type_definitions.declared.table.Shape.TheVariants as shape
use Rattle.flow_paths.specs.type_definitions.Types.{Table, shape_found, shape_of, meant_type, span, is_owning}
use Rattle.flow_paths.specs.type_definitions.Entries.{integer}
use Rattle.flow_paths.specs.typed_tree.Trees.{TypedTree, TypedCode, Number, Literal, Text, Name, Component as IntoComponent, Designated, Element, Call, EndOfFile, Parens, Image, Unary, Binary, Short, IsNull, Aggregate, Alike, New, NoMore, More}
use Rattle.flow_paths.specs.typed_tree.Trees as typed
use Rattle.flow_paths.specs.Instructions.{Instruction, Skip, Declare, Assign, Output, Input, Release, Test, Choose, Start, Next, Evaluate, LeaveLoop, Hold, EndScope, Finish, Fall}
use Rattle.flow_paths.specs.Instructions as instruction
use Rattle.flow_paths.specs.Objects.{Typing, object_at, sub_at}
use Rattle.flow_paths.specs.Points.{FlowPoint}
use Rattle.flow_paths.specs.Laid.{FlowSub, FlowProgram, flow_typing}
use Rattle.run_values.specs.Arithmetic.{is_integer}
use Rattle.machine.specs.Words.{component_type, element_type}
use Rattle.machine.specs.Evaluate.{part_type}

pub data Sort : Type 0 where
  Whole : Sort
  Position : Sort
  Pointer : ℕ → Sort

-- ---- the sorts of the words of a type

abbrev pub repeated_sorts : ℕ → List Sort → List Sort
repeated_sorts zero sorts = []
repeated_sorts (suc n) sorts = sorts ++ repeated_sorts n sorts

abbrev pub sorts_of : (ℕ → List Sort) → Shape → List Sort
sorts_of sorts (shape.Whole low high) = Whole ∷ []
sorts_of sorts (shape.Listed literals low high) = Position ∷ []
sorts_of sorts (shape.Access designated constant named) = Pointer designated ∷ []
sorts_of sorts (shape.Fields components) = flat_map (λ (c : Component). sorts c.of) components
sorts_of sorts (shape.Elements low high element) = repeated_sorts (span low high) (sorts element)
sorts_of sorts (shape.Same of) = sorts of

unfoldable pub sorts_within : ℕ → Table → ℕ → List Sort
sorts_within zero table t = []
sorts_within (suc n) table t = sorts_of (sorts_within n table) (shape_found (slice_get table t))

unfoldable pub sorts : Table → ℕ → List Sort
sorts table t = sorts_within (length table) table t

-- Access values designate objects of one type, or of scalar types of one sort.
abbrev pub same_kind : Shape → Shape → Bool
same_kind (shape.Whole a b) (shape.Whole c d) = true
same_kind (shape.Listed k a b) (shape.Listed l c d) = true
same_kind _ _ = false

abbrev pub same_designated : Table → ℕ → ℕ → Bool
same_designated table a b = nat_eq (meant_type table a) (meant_type table b) || same_kind (shape_of table a) (shape_of table b)

abbrev pub same_sort : Table → Sort → Sort → Bool
same_sort table Whole Whole = true
same_sort table Position Position = true
same_sort table (Pointer a) (Pointer b) = same_designated table a b
same_sort table _ _ = false

abbrev pub same_sorts : Table → List Sort → List Sort → Bool
same_sorts table [] [] = true
same_sorts table (a ∷ more) (b ∷ others) = same_sort table a b && same_sorts table more others
same_sorts table _ _ = false

abbrev pub is_whole : List Sort → Bool
is_whole (Whole ∷ []) = true
is_whole _ = false

abbrev pub is_position : List Sort → Bool
is_position (Position ∷ []) = true
is_position _ = false

abbrev pub is_pointer : List Sort → Bool
is_pointer (Pointer d ∷ []) = true
is_pointer _ = false

abbrev pub points_to : Table → ℕ → List Sort → Bool
points_to table t (Pointer d ∷ []) = same_designated table d t
points_to table t _ = false

-- ---- operators

-- The sort of both operands, and that of the result.
abbrev pub takes_whole : Operator → Bool
takes_whole operator.Add = true
takes_whole operator.Subtract = true
takes_whole operator.Multiply = true
takes_whole operator.Divide = true
takes_whole operator.Modulo = true
takes_whole operator.Remainder = true
takes_whole _ = false

abbrev pub takes_truth : Operator → Bool
takes_truth operator.And = true
takes_truth operator.Or = true
takes_truth operator.Xor = true
takes_truth _ = false

abbrev pub compares_words : Operator → Bool
compares_words operator.Equal = true
compares_words operator.NotEqual = true
compares_words operator.Less = true
compares_words operator.LessEqual = true
compares_words operator.Greater = true
compares_words operator.GreaterEqual = true
compares_words _ = false

abbrev pub is_not : UnaryOperator → Bool
is_not unary.Not = true
is_not _ = false

-- ---- shapes

abbrev pub field_count : Shape → ℕ
field_count (shape.Fields components) = length components
field_count (shape.Elements low high element) = span low high
field_count _ = 0

abbrev pub is_record : Shape → Bool
is_record (shape.Fields components) = true
is_record _ = false

abbrev pub is_array : Shape → Bool
is_array (shape.Elements low high element) = true
is_array _ = false

-- The bounds are those of the array.
abbrev pub has_bounds : ℤ → ℤ → Shape → Bool
has_bounds low high (shape.Elements first last element) = int_eq low first && int_eq high last
has_bounds low high _ = false

abbrev pub designates : Shape → Option ℕ
designates (shape.Access designated constant named) = Some designated
designates _ = None

abbrev pub is_null : TypedTree → Bool
is_null typed.Null = true
is_null _ = false

abbrev pub tree_count : TypedTree → ℕ
tree_count (More e rest) = suc (tree_count rest)
tree_count _ = 0

abbrev pub sorts_of_result : Table → Option ℕ → List Sort
sorts_of_result table None = []
sorts_of_result table (Some t) = sorts table t

-- ---- expressions

unfoldable mutual
  -- an expression gives words of these sorts
  pub gives : Typing → List Sort → TypedTree → Bool
  gives s want (Number v) = is_whole want && is_integer v
  gives s want (Literal n) = is_position want
  gives s want typed.Null = is_pointer want
  gives s want (Name p x steps t) = same_sorts s.table (sorts s.table t) want && leads s t (object_at s x).of steps
  gives s want (Call p sub actuals) = same_sorts s.table (sorts_of_result s.table (sub_at s sub).result) want
  gives s want EndOfFile = is_position want
  gives s want (Parens e) = gives s want e
  gives s want (Unary op e) = if is_not op then is_position want && gives s want e else is_whole want && gives s want e
  gives s want (Binary op a b) =
      (takes_whole op && (is_whole want && (gives s want a && gives s want b)))
      || (takes_truth op && (is_position want && (gives s want a && gives s want b)))
      || (compares_words op && (is_position want
      && ((gives s (Whole ∷ []) a && gives s (Whole ∷ []) b) || (gives s (Position ∷ []) a && gives s (Position ∷ []) b))))
  gives s want (Short op p a q b) = is_position want && (gives s want a && gives s want b)
  gives s want (IsNull equal e) = is_position want && pointed s e
  gives s want (Aggregate t es) =
      same_sorts s.table (sorts s.table t) want && (nat_eq (tree_count es) (field_count (shape_of s.table t)) && parts_given s t 0 es)
  -- of what stands for each element nothing owns but null
  gives s want (Alike t e) =
      (is_array (shape_of s.table t) && (not (is_owning s.table (element_type s.table t)) || is_null e))
      && (same_sorts s.table (sorts s.table t) want && gives s (sorts s.table (element_type s.table t)) e)
  gives s want (New t v) = points_to s.table t want && given_first s (sorts s.table t) v
  gives s want _ = false

  -- an access value, of whatever it designates
  pub pointed : Typing → TypedTree → Bool
  pointed s (Name p x steps t) = is_some (designates (shape_of s.table t)) && leads s t (object_at s x).of steps
  pointed s (Call p sub actuals) = is_pointer (sorts_of_result s.table (sub_at s sub).result)
  pointed s _ = false

  -- the steps of a name lead from a type to another one; the bounds of an index are those of its
  -- array
  pub leads : Typing → ℕ → ℕ → TypedTree → Bool
  leads s to t (IntoComponent i rest) =
      nat_lt i (field_count (shape_of s.table t)) && (is_record (shape_of s.table t) && leads s to (component_type s.table t i) rest)
  leads s to t (Element index low high rest) =
      has_bounds low high (shape_of s.table t) && (gives s (Whole ∷ []) index && leads s to (element_type s.table t) rest)
  leads s to t (Designated rest) = leads_on s to (designates (shape_of s.table t)) rest
  leads s to t NoMore = nat_eq t to
  leads s to t _ = false

  pub leads_on : Typing → ℕ → Option ℕ → TypedTree → Bool
  leads_on s to (Some t) (IntoComponent i rest) =
      nat_lt i (field_count (shape_of s.table t)) && (is_record (shape_of s.table t) && leads s to (component_type s.table t i) rest)
  leads_on s to (Some t) (Element index low high rest) =
      has_bounds low high (shape_of s.table t) && (gives s (Whole ∷ []) index && leads s to (element_type s.table t) rest)
  leads_on s to (Some t) (Designated rest) = leads_on s to (designates (shape_of s.table t)) rest
  leads_on s to (Some t) NoMore = nat_eq t to
  leads_on s to (Some t) _ = false
  leads_on s to None _ = false

  pub parts_given : Typing → ℕ → ℕ → TypedTree → Bool
  parts_given s t i (More e rest) = gives s (sorts s.table (part_type (shape_of s.table t) i)) e && parts_given s t (suc i) rest
  parts_given s t i _ = true

  pub given_first : Typing → List Sort → TypedTree → Bool
  given_first s want (More e rest) = gives s want e
  given_first s want _ = true

-- A string: its parts are images and the characters of literals.
unfoldable pub is_text : Typing → TypedTree → Bool
is_text s (Text t) = true
is_text s (Image t e) = gives s (sorts s.table t) e
is_text s (Parens e) = is_text s e
is_text s (Binary op a b) = is_text s a && is_text s b
is_text s _ = false

-- ---- points

abbrev pub sorts_at : Typing → ℕ → List Sort
sorts_at s x = sorts s.table (object_at s x).of

abbrev pub named_type : TypedTree → ℕ
named_type (Name p x steps t) = t
named_type _ = integer

-- A name of a place.
abbrev pub is_place : Typing → TypedTree → Bool
is_place s (Name p x steps t) = leads s t (object_at s x).of steps
is_place s _ = false

abbrev pub actuals_given : Typing → List ℕ → TypedTree → Bool
actuals_given s (x ∷ formals) (More e rest) = gives s (sorts_at s x) e && actuals_given s formals rest
actuals_given s [] NoMore = true
actuals_given s _ _ = false

abbrev pub texts_given : Typing → TypedTree → Bool
texts_given s (More e rest) = is_text s e
texts_given s _ = true

abbrev pub is_typed_instruction : Typing → Option ℕ → Instruction → Bool
is_typed_instruction s result Skip = true
is_typed_instruction s result (Declare x v) = given_first s (sorts_at s x) v
is_typed_instruction s result (Assign target e) = is_place s target && gives s (sorts s.table (named_type target)) e
is_typed_instruction s result (instruction.Call sub actuals r) = actuals_given s (sub_at s sub).formals actuals
is_typed_instruction s result (Output text line) = texts_given s text
is_typed_instruction s result (Input target) = is_place s target && is_whole (sorts s.table (named_type target))
is_typed_instruction s result (Release e) = is_place s e && is_pointer (sorts s.table (named_type e))
is_typed_instruction s result (Test e) = gives s (Position ∷ []) e
is_typed_instruction s result (Choose e choices) = gives s (Whole ∷ []) e || gives s (Position ∷ []) e
is_typed_instruction s result (Start x reversed low high) =
    (is_whole (sorts_at s x) || is_position (sorts_at s x)) && (gives s (sorts_at s x) low && gives s (sorts_at s x) high)
is_typed_instruction s result (Next x reversed low high) = is_whole (sorts_at s x) || is_position (sorts_at s x)
is_typed_instruction s result (Evaluate t e left) = gives s (Position ∷ []) e
is_typed_instruction s result (LeaveLoop e) = given_first s (Position ∷ []) e
is_typed_instruction s result (Hold v) = given_first s (sorts_of_result s.table result) v
is_typed_instruction s result (EndScope x) = true
is_typed_instruction s result Finish = true
is_typed_instruction s result Fall = true

-- How many successors an instruction leads to.
abbrev pub successors : Instruction → ℕ
successors (Test e) = 2
successors (Choose e choices) = length choices
successors (Next x reversed low high) = 2
successors (Evaluate t e (Some op)) = 2
successors (LeaveLoop (More e rest)) = 2
successors Finish = 0
successors Fall = 0
successors _ = 1

abbrev pub is_typed_point : Typing → Option ℕ → FlowPoint → Bool
is_typed_point s result p = is_typed_instruction s result p.instr && nat_eq (length p.next) (successors p.instr)

abbrev pub is_typed_sub : Typing → FlowSub → Bool
is_typed_sub s sub = list_all (is_typed_point s sub.result) sub.points

-- The package objects are declared one by one. The last one is followed by nothing.
unfoldable pub is_elaboration : Typing → List FlowPoint → Bool
is_elaboration s [] = true
is_elaboration s (p ∷ []) = is_typed_instruction s None p.instr && nat_eq (length p.next) 0
is_elaboration s (p ∷ (q ∷ rest)) = is_typed_point s None p && is_elaboration s (q ∷ rest)

abbrev pub are_typed_subs : Typing → List FlowSub → Bool
are_typed_subs s [] = true
are_typed_subs s (first ∷ rest) = is_elaboration s first.points && list_all (is_typed_sub s) rest

abbrev pub is_typed : FlowProgram → Bool
is_typed program = are_typed_subs (flow_typing program) program.subs
