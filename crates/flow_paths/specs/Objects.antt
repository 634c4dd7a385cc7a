-- What the layout asks of objects, types and subprograms (docs/FLOW.md, "Acts").
use Rattle.std.specs.Prelude.{ℕ, Bool, true, false, not, ◌&&◌, ◌||◌, List, [], ◌∷◌, map, get_or, Option, Some, None, is_some, if◌then◌else◌}
use Rattle.typed_tree.specs.place_names.declared.act.Mode.{Mode}
use Rattle.typed_tree.specs.place_names.declared.act.Mode.TheVariants as mode
use Rattle.typed_tree.specs.type_definitions.declared.judgement.View.{View}
use Rattle.typed_tree.specs.type_definitions.declared.judgement.View.TheVariants as view
use Rattle.typed_tree.specs.type_definitions.Types.{Table, full, is_owning}
use Rattle.typed_tree.specs.declared.object.Object.{Object}
use Rattle.typed_tree.specs.declared.object.ObjectKind.{ObjectKind}
use Rattle.typed_tree.specs.declared.object.ObjectKind.TheVariants as object_kind
use Rattle.typed_tree.specs.Programs.{text_io}

-- The formals of a subprogram, and the type of its result where it is a function.
pub record Signature : Type 0 where
  pub formals : List ℕ
  pub result : Option ℕ

-- What is known of the parts of a program by number: its types, its objects and its subprograms.
pub record Typing : Type 0 where
  pub table : Table
  pub objects : List Object
  pub subs : List Signature

abbrev pub object_at : Typing → ℕ → Object
object_at s x = get_or s.objects x text_io

abbrev pub sub_at : Typing → ℕ → Signature
sub_at s n = get_or s.subs n (record { formals = []; result = None })

-- ---- types

-- An anonymous access-to-variable type, and an anonymous access-to-constant type.
abbrev pub is_borrowing : View → Bool
is_borrowing (view.Access designated constant named) = not named && not constant
is_borrowing _ = false

abbrev pub is_observing : View → Bool
is_observing (view.Access designated constant named) = not named && constant
is_observing _ = false

abbrev pub is_anonymous : View → Bool
is_anonymous v = is_borrowing v || is_observing v

abbrev pub is_named_access : View → Bool
is_named_access (view.Access designated constant named) = named && not constant
is_named_access _ = false

-- An access-to-variable type, named or anonymous.
abbrev pub is_variable_access : View → Bool
is_variable_access (view.Access designated constant named) = not constant
is_variable_access _ = false

-- What an access type designates.
abbrev pub designated_of : ℕ → View → ℕ
designated_of t (view.Access designated constant named) = designated
designated_of t _ = t

abbrev pub designated : Table → ℕ → ℕ
designated table t = designated_of t (full table t)

abbrev pub view_of : Typing → ℕ → View
view_of s x = full s.table (object_at s x).of

-- ---- objects

abbrev pub is_variable : ObjectKind → Bool
is_variable object_kind.Variable = true
is_variable _ = false

abbrev pub is_formal_kind : ObjectKind → Bool
is_formal_kind object_kind.Formal = true
is_formal_kind _ = false

abbrev pub is_state : ObjectKind → Bool
is_state object_kind.TextIo = true
is_state _ = false

-- A borrower is a local object of an anonymous access-to-variable type, and an observer one of an
-- anonymous access-to-constant type.
abbrev pub is_borrower : Typing → ℕ → Bool
is_borrower s x = is_variable (object_at s x).kind && is_borrowing (view_of s x)

abbrev pub is_observer : Typing → ℕ → Bool
is_observer s x = is_variable (object_at s x).kind && is_observing (view_of s x)

abbrev pub is_formal : Typing → ℕ → Bool
is_formal s x = is_formal_kind (object_at s x).kind

-- Ada.Text_IO is none.
abbrev pub is_package_object : Typing → ℕ → Bool
is_package_object s x = is_some (object_at s x).«package» && not (is_state (object_at s x).kind)

-- The scope of an object of an owning or anonymous access type ends at a point of its own.
abbrev pub has_scope_end : Typing → ℕ → Bool
has_scope_end s x = is_owning s.table (object_at s x).of || is_anonymous (view_of s x)

-- ---- calls

-- How an actual is passed: its value is; it is what a traversal goes through; or its place is, by
-- the mode, whether the type of the formal is owning, and whether it is a named access type in the
-- call of a procedure.
pub data Passing : Type 0 where
  ByValue : Passing
  Traversed : Passing
  Place : Mode → Bool → Bool → Passing

abbrev pub passing_by : Mode → Bool → Bool → Passing
passing_by mode.In owning access = if owning then Place mode.In owning access else ByValue
passing_by mode.Out owning access = Place mode.Out owning access
passing_by mode.InOut owning access = Place mode.InOut owning access

abbrev pub passing : Typing → Bool → ℕ → Passing
passing s procedure x =
    passing_by (object_at s x).mode (is_owning s.table (object_at s x).of) (procedure && is_named_access (view_of s x))

-- The result is of an anonymous access type.
abbrev pub traverses : Table → Option ℕ → Bool
traverses table None = false
traverses table (Some t) = is_anonymous (full table t)

-- A traversal goes through the first actual.
abbrev pub first_traversed : List Passing → List Passing
first_traversed [] = []
first_traversed (_ ∷ rest) = Traversed ∷ rest

-- How the actuals of a subprogram are passed, in the order of the formals.
abbrev pub passings : Typing → Signature → List Passing
passings s sub =
    let each : List Passing = map (passing s (not (is_some sub.result))) sub.formals in
    if traverses s.table sub.result then first_traversed each else each
