-- From programs that are laid out to programs as they are run.
use Rattle.std.specs.Prelude.{ℕ, suc, zero, ◌+◌, Bool, true, false, not, ◌==◌, List, [], ◌∷◌, ◌++◌, map, flat_map, length, slice_get, nat_lt, Option, Some, None, is_some, option_and_then, ℤ, pos, negsuc, if◌then◌else◌}
use Rattle.std.specs.List.{list_any}
use Rattle.machine.specs.spark_base.declared.position.Pos.{Pos}
use Rattle.machine.specs.place_names.declared.act.Mode.TheVariants as mode
use Rattle.machine.specs.typed_tree.declared.node.ShortCircuit.{ShortCircuit}
use Rattle.machine.specs.typed_tree.declared.node.ShortCircuit.TheVariants as short
use Rattle.kept_cells.specs.run_values.declared.value.Kind.{Kind}
use Rattle.kept_cells.specs.run_values.declared.value.Kind.TheVariants as sort
use Rattle.machine.specs.type_definitions.declared.table.Shape.{Shape}
use Rattle.machine.specs.type_definitions.declared.table.Shape.TheVariants as shape
use Rattle.machine.specs.type_definitions.Types.{Table, shape_of, full, base, is_owning}
use Rattle.machine.specs.type_definitions.Entries.{boolean}
use Rattle.machine.specs.typed_tree.Trees.{TypedTree, TypedCode, Name, Component as IntoComponent, Designated, Element, Parens, Image, Unary, Binary, Short, IsNull, Aggregate, Alike, New, Text, Interval, Others, NoMore, More}
use Rattle.machine.specs.typed_tree.Trees as typed
use Rattle.machine.specs.flow_paths.Instructions.{Instruction, Skip, Declare, Assign, Output, Input, Release, Test, Choose, Start, Next, Evaluate, LeaveLoop, Hold, EndScope, Finish, Fall}
use Rattle.machine.specs.flow_paths.Instructions as instruction
use Rattle.machine.specs.flow_paths.Objects.{Typing, object_at, sub_at, is_package_object, is_anonymous, view_of, Passing, ByValue, Traversed, passings}
use Rattle.machine.specs.flow_paths.Objects as objects
use Rattle.machine.specs.flow_paths.Names.{has_call, waiting, first}
use Rattle.machine.specs.flow_paths.Points.{FlowPoint}
use Rattle.machine.specs.flow_paths.Laid.{FlowSub, FlowProgram, flow_typing, result_of}
use Rattle.machine.specs.Typed.{Sort, Whole, Position, Pointer}
use Rattle.machine.specs.Evaluate.{Use, AsValue, AsView}
use Rattle.machine.specs.States.{sub_of, stack_words}
use Rattle.run_codes.specs.Codes.{Code, Number, Place, InFrame, Fill, Checked, Pointer as LookedAt, Default, Actual, From, To, Piece, Bytes, NumberImage, LiteralImage, Choice, Does, Put, Store, Point, Room, Object, Counter, Sub}
use Rattle.run_codes.specs.Codes as codes
use Rattle.run_codes.specs.Flat.{default_words}
use Rattle.run_codes.specs.Lowered.{Kept, Site, offset_of, no_index, Placed, option_map, Lowered, Scalar, scalar_of, same_scalar, one_type, lowered, place, value}

-- ---- the objects of a subprogram

abbrev pub kept : ℕ → Bool → Kept
kept x loops = record { object = x; loops = loops }

abbrev pub has_room : ℕ → List Kept → Bool
has_room x all = list_any (λ (k : Kept). k.object == x) all

-- Those that are declared, where points first name them.
abbrev pub with_room : Kept → List Kept → List Kept
with_room k all = if has_room k.object all then all else all ++ k ∷ []

abbrev pub room_of : Instruction → List Kept → List Kept
room_of (Declare x v) all = with_room (kept x false) all
room_of (Start x reversed low high) all = with_room (kept x true) all
room_of _ all = all

abbrev pub rooms_of : List FlowPoint → List Kept → List Kept
rooms_of [] all = all
rooms_of (p ∷ rest) all = rooms_of rest (room_of p.instr all)

-- The formals stand first.
abbrev pub objects_of : FlowSub → List Kept
objects_of sub = rooms_of sub.points (map (λ x. kept x false) sub.formals)

abbrev pub rooms : Typing → List Kept → List Room
rooms s all = flat_map (λ (k : Kept). Object (object_at s k.object).of ∷ (if k.loops then Counter ∷ [] else [])) all

-- ---- values that a point takes

-- The types of those that an expression takes.
unfoldable pub taken_types : Typing → TypedTree → List ℕ
taken_types s (typed.Call p sub actuals) = result_of (sub_at s sub).result ∷ []
taken_types s (Name p x steps t) = taken_types s steps
taken_types s (IntoComponent i rest) = taken_types s rest
taken_types s (Designated rest) = taken_types s rest
taken_types s (Element index low high rest) = taken_types s index ++ taken_types s rest
taken_types s (Image t e) = taken_types s e
taken_types s (Parens e) = taken_types s e
taken_types s (Unary op e) = taken_types s e
taken_types s (Binary op a b) = taken_types s a ++ taken_types s b
taken_types s (Short op p a q b) = if has_call b then boolean ∷ [] else taken_types s a ++ taken_types s b
taken_types s (IsNull equal e) = taken_types s e
taken_types s (Aggregate t es) = taken_types s es
taken_types s (Alike t e) = taken_types s e
taken_types s (New t v) = taken_types s v
taken_types s (More e rest) = taken_types s e ++ taken_types s rest
taken_types s _ = []

abbrev pub point_takes : Typing → Instruction → List ℕ
point_takes s Skip = []
point_takes s (Declare x v) = taken_types s v
point_takes s (Assign target e) = taken_types s e ++ taken_types s target
point_takes s (instruction.Call sub actuals result) = taken_types s actuals
point_takes s (Output text line) = taken_types s text
point_takes s (Input target) = taken_types s target
point_takes s (Release e) = taken_types s e
point_takes s (Test e) = taken_types s e
point_takes s (Choose e choices) = taken_types s e
point_takes s (Start x reversed low high) = taken_types s low ++ taken_types s high
point_takes s (Next x reversed low high) = []
point_takes s (Evaluate t e left) = taken_types s e
point_takes s (LeaveLoop e) = taken_types s e
point_takes s (Hold v) = taken_types s v
point_takes s (EndScope x) = []
point_takes s Finish = []
point_takes s Fall = []

-- ---- what points go by

-- The result of the subprogram; the numbers of its points among all; and whether it declares the objects of
-- packages.
pub record Around : Type 0 where
  pub site : Site
  pub result : Option ℕ
  pub first : ℕ
  pub count : ℕ
  pub is_first : Bool

abbrev pub typing : Around → Typing
typing a = a.site.typing

-- The k-th successor, where there is one. Only the last package object is followed by none.
abbrev pub going : Around → FlowPoint → ℕ → Option (Option ℕ)
going a p k = by (slice_get p.next k)
  where
    by : Option ℕ → Option (Option ℕ)
    by None = if a.is_first then Some None else None
    by (Some n) = if nat_lt n a.count then Some (Some (a.first + n)) else None

-- The first room of an object is that of a parameter.
abbrev pub is_loop : ℕ → List Kept → Bool
is_loop x [] = false
is_loop x (k ∷ rest) = if k.object == x then k.loops else is_loop x rest

-- The offset of an object that the subprogram itself declares.
abbrev pub own_offset : Around → ℕ → Option ℕ
own_offset a x = if (if is_package_object (typing a) x then a.is_first else not a.is_first) then offset_of a.site x else None

-- The same of the parameter of a loop, whose words lie after it.
abbrev pub own_loop : Around → ℕ → Option ℕ
own_loop a x = if is_loop x a.site.own then own_offset a x else None

abbrev pub on_going : Around → FlowPoint → (Option ℕ → Option Does) → Option Does
on_going a p f = option_and_then f (going a p 0)

-- The same where there is a point that follows: what begins a frame or a loop isn't the last package object.
abbrev pub on_next : Around → FlowPoint → (Option ℕ → Option Does) → Option Does
on_next a p f = option_and_then by (going a p 0)
  where
    by : Option ℕ → Option Does
    by None = None
    by (Some n) = f (Some n)

abbrev pub type_of : Around → ℕ → ℕ
type_of a x = (object_at (typing a) x).of

-- ---- stores

abbrev pub use_for : Table → ℕ → Use
use_for table t = if is_anonymous (full table t) then AsView else AsValue

abbrev pub kind_at : Shape → Kind
kind_at (shape.Whole low high) = sort.Int
kind_at (shape.Listed literals low high) = sort.Enum
kind_at _ = sort.Access

-- A scalar, and what is looked at where nothing is checked for leaks, is one word.
abbrev pub put_at : Shape → Placed → Fill → Option Pos → Option ℕ → Does
put_at s q (Checked e low high) checks next = by_place q.place
  where
    by_place : Place → Does
    by_place (InFrame at (Number (pos zero))) = Put at (Checked e low high) next
    by_place p = Store p (Checked e low high) (kind_at s) next
put_at s q (LookedAt e) None next = by_place q.place
  where
    by_place : Place → Does
    by_place (InFrame at (Number (pos zero))) = Put at (LookedAt e) next
    by_place p = codes.Assign p (LookedAt e) q.of None next
put_at s q v checks next = codes.Assign q.place v q.of checks next

abbrev pub stored_at : Table → Placed → Fill → Option Pos → Option ℕ → Does
stored_at table q v checks next = put_at (shape_of table q.of) q v checks next

-- ---- actuals

abbrev pub name_pos : Pos → TypedTree → Pos
name_pos p (Name q x steps t) = q
name_pos p _ = p

abbrev pub is_scalar_shape : Shape → Bool
is_scalar_shape s = is_some (scalar_of s)

-- A value that is looked at and not checked.
abbrev pub viewed_value : Site → ℕ → ℕ → TypedTree → Option Actual
viewed_value c k t e =
    if is_scalar_shape (shape_of c.typing.table t) then None else option_map codes.ByValue (value c k AsView t e)

abbrev pub actual_place : Site → ℕ → ℕ → TypedTree → (Placed → Actual) → Option Actual
actual_place c k t e f =
    option_and_then (λ q. if one_type c.typing.table q.of t then Some (f q) else None) (place c k e)

abbrev pub actual : Site → Pos → ℕ → Passing → ℕ → TypedTree → Option Actual
actual c p k ByValue x e =
    option_map codes.ByValue (value c k (use_for c.typing.table (object_at c.typing x).of) (object_at c.typing x).of e)
actual c p k Traversed x e = viewed_value c k (object_at c.typing x).of e
actual c p k (objects.Place mode.In owning access) x e = viewed_value c k (object_at c.typing x).of e
actual c p k (objects.Place mode.Out owning access) x e =
    actual_place c k (object_at c.typing x).of e (λ q. To q.place q.of (name_pos p e))
actual c p k (objects.Place mode.InOut owning access) x e =
    actual_place c k (object_at c.typing x).of e (λ q. From q.place q.of (object_at c.typing x).of)

abbrev pub with_first : {A : Type 0} → Option A → Option (List A) → Option (List A)
with_first (Some a) (Some rest) = Some (a ∷ rest)
with_first _ _ = None

abbrev pub actuals : Site → Pos → ℕ → List Passing → List ℕ → TypedTree → Option (List Actual)
actuals c p k [] [] NoMore = Some []
actuals c p k (way ∷ ways) (x ∷ formals) (More e rest) =
    with_first (actual c p k way x e) (actuals c p (k + waiting e) ways formals rest)
actuals c p k _ _ _ = None

-- ---- strings

abbrev pub append_all : {A : Type 0} → Option (List A) → Option (List A) → Option (List A)
append_all (Some a) (Some b) = Some (a ++ b)
append_all _ _ = None

abbrev pub image_piece : Table → ℕ → Lowered → Option (List Piece)
image_piece table t l = by_sort l.sort
  where
    by_sort : Sort → Option (List Piece)
    by_sort Whole = Some (NumberImage l.code ∷ [])
    by_sort Position = Some (LiteralImage l.code (base table t) ∷ [])
    by_sort (Pointer d) = None

unfoldable pub pieces : Site → ℕ → TypedTree → Option (List Piece)
pieces c k (Text bytes) = Some (Bytes bytes ∷ [])
pieces c k (Image t e) = option_and_then (image_piece c.typing.table t) (lowered c k AsValue e)
pieces c k (Parens e) = pieces c k e
pieces c k (Binary op a b) = append_all (pieces c k a) (pieces c (k + waiting a) b)
pieces c k _ = None

abbrev pub text_pieces : Site → TypedTree → Option (List Piece)
text_pieces c (More e rest) = pieces c 0 e
text_pieces c _ = Some []

-- ---- choices

abbrev pub choice : ℤ → ℤ → ℕ → Choice
choice low high next = record { low = low; high = high; next = next }

-- Those of an alternative. `others` has all values.
unfoldable pub choices_of : ℕ → TypedCode → List Choice
choices_of next (More (Interval low high) rest) = choice low high next ∷ choices_of next rest
choices_of next (More Others rest) = choice (negsuc 2147483647) (pos 2147483647) next ∷ choices_of next rest
choices_of next (More _ rest) = choices_of next rest
choices_of next _ = []

abbrev pub alternatives : Around → FlowPoint → ℕ → List TypedCode → Option (List Choice)
alternatives a p k [] = Some []
alternatives a p k (c ∷ rest) = append_all (by (going a p k)) (alternatives a p (suc k) rest)
  where
    by : Option (Option ℕ) → Option (List Choice)
    by (Some (Some n)) = Some (choices_of n c)
    by _ = None

-- ---- instructions

-- A code whose word is a truth, and one with a word of a scalar sort.
abbrev pub truth_code : Lowered → Option Code
truth_code l = by_sort l.sort
  where
    by_sort : Sort → Option Code
    by_sort Position = Some l.code
    by_sort _ = None

abbrev pub scalar_code : Sort → Lowered → Option Code
scalar_code s l = if same_scalar s l.sort then Some l.code else None

abbrev pub condition : Around → TypedTree → Option Code
condition a e = option_and_then truth_code (lowered a.site 0 AsValue e)

abbrev pub chosen_code : Lowered → Option Code
chosen_code l = by_sort l.sort
  where
    by_sort : Sort → Option Code
    by_sort (Pointer d) = None
    by_sort _ = Some l.code

abbrev pub tested : Around → FlowPoint → TypedTree → Option Does
tested a p e = option_and_then (λ c. option_and_then (λ n. option_map (codes.Test c n) (going a p 1)) (going a p 0)) (condition a e)

abbrev pub declared : Around → FlowPoint → ℕ → TypedTree → Option Does
declared a p x v =
    option_and_then (λ at. option_and_then (λ w. on_going a p (λ n. Some (stored_at (typing a).table (record { place = InFrame at no_index; of = type_of a x }) w None n))) (by v))
    (own_offset a x)
  where
    by : TypedTree → Option Fill
    by (More e rest) = value a.site 0 (use_for (typing a).table (type_of a x)) (type_of a x) e
    by NoMore = Some (Default (type_of a x))
    by _ = None

abbrev pub assigned : Around → FlowPoint → TypedTree → TypedTree → Option Does
assigned a p target e =
    option_and_then (λ q. option_and_then (λ v. on_going a p (λ n. Some (stored_at (typing a).table q v (if is_owning (typing a).table q.of then Some (name_pos p.pos target) else None) n)))
    (value a.site 0 (use_for (typing a).table q.of) q.of e)) (place a.site (waiting e) target)

abbrev pub called : Around → FlowPoint → ℕ → TypedTree → Option Does
called a p sub e =
    option_and_then (λ all. on_next a p (λ n. Some (codes.Call sub all n)))
    (actuals a.site p.pos 0 (passings (typing a) (sub_at (typing a) sub)) (sub_at (typing a) sub).formals e)

abbrev pub input_to : Around → FlowPoint → Placed → Option Does
input_to a p q = by_shape (shape_of (typing a).table q.of)
  where
    by_shape : Shape → Option Does
    by_shape (shape.Whole low high) = on_going a p (λ n. Some (codes.Input q.place low high n))
    by_shape _ = None

abbrev pub release_at : Around → FlowPoint → TypedTree → Placed → Option Does
release_at a p e q = by_shape (shape_of (typing a).table q.of)
  where
    by_shape : Shape → Option Does
    by_shape (shape.Access designated constant named) = on_going a p (λ n. Some (codes.Release q.place designated (name_pos p.pos e) n))
    by_shape _ = None

abbrev pub chosen : Around → FlowPoint → TypedTree → List TypedCode → Option Does
chosen a p e all =
    option_and_then (λ c. option_map (codes.Choose c) (alternatives a p 0 all)) (option_and_then chosen_code (lowered a.site 0 AsValue e))

abbrev pub started : Around → FlowPoint → ℕ → TypedTree → TypedTree → Option Does
started a p x low high =
    option_and_then (λ at. option_and_then (λ (s : Scalar).
    option_and_then (λ l. option_and_then (λ h. on_next a p (λ n. Some (codes.Start at (at + 1) l h s.low s.high n)))
    (option_and_then (scalar_code s.sort) (lowered a.site (waiting low) AsValue high)))
    (option_and_then (scalar_code s.sort) (lowered a.site 0 AsValue low)))
    (scalar_of (shape_of (typing a).table (type_of a x)))) (own_loop a x)

abbrev pub next_turn : Around → FlowPoint → ℕ → Bool → Option Does
next_turn a p x reversed =
    option_and_then (λ at. option_and_then (λ (s : Scalar). option_and_then (λ n. option_map (codes.Next at (at + 1) reversed (default_word (default_words (typing a).table (type_of a x))) n) (going a p 1)) (going a p 0))
    (scalar_of (shape_of (typing a).table (type_of a x)))) (own_loop a x)
  where
    default_word : List ℤ → ℤ
    default_word [] = pos 0
    default_word (w ∷ ws) = w

abbrev pub is_or_else : ShortCircuit → Bool
is_or_else short.OrElse = true
is_or_else short.AndThen = false

abbrev pub operand : Around → FlowPoint → TypedTree → Option ShortCircuit → Option Does
operand a p e (Some op) =
    option_and_then (λ c. option_and_then (λ n. option_map (codes.EvaluateLeft c (is_or_else op) n) (going a p 1)) (going a p 0)) (condition a e)
operand a p e None = option_and_then (λ c. on_going a p (λ n. Some (codes.EvaluateRight c n))) (condition a e)

abbrev pub gone_on : Around → FlowPoint → Option Does
gone_on a p = on_going a p (λ n. Some (codes.Go n))

-- The caller waits for the result.
abbrev pub held_result : Around → FlowPoint → TypedTree → Option ℕ → Option Does
held_result a p (More e rest) (Some of) =
    option_and_then (λ v. on_going a p (by v)) (value a.site 0 (use_for (typing a).table of) of e)
  where
    by : Fill → Option ℕ → Option Does
    by v None = None
    by v (Some n) = Some (codes.Hold v of (Some n))
held_result a p _ _ = gone_on a p

abbrev pub scope_end : Around → FlowPoint → ℕ → Option Does
scope_end a p x = option_and_then (λ at. on_going a p (λ n. Some (by_shape (shape_of (typing a).table (type_of a x)) at n))) (own_offset a x)
  where
    by_shape : Shape → ℕ → Option ℕ → Does
    by_shape (shape.Access designated constant true) at n = codes.EndPointer at n
    by_shape _ at n = codes.EndScope at (type_of a x) n

abbrev pub does : Around → FlowPoint → Instruction → Option Does
does a p Skip = gone_on a p
does a p (Declare x v) = declared a p x v
does a p (Assign target e) = assigned a p target e
does a p (instruction.Call sub e result) = called a p sub e
does a p (Output text line) = option_and_then (λ t. on_going a p (λ n. Some (codes.Output t line n))) (text_pieces a.site text)
does a p (Input target) = option_and_then (input_to a p) (place a.site 0 target)
does a p (Release e) = option_and_then (release_at a p e) (place a.site 0 e)
does a p (Test e) = tested a p e
does a p (Choose e choices) = chosen a p e choices
does a p (Start x reversed low high) = started a p x low high
does a p (Next x reversed low high) = next_turn a p x reversed
does a p (Evaluate t e left) = operand a p e left
does a p (LeaveLoop (More e rest)) = tested a p e
does a p (LeaveLoop e) = gone_on a p
does a p (Hold v) = held_result a p v a.result
does a p (EndScope x) = scope_end a p x
does a p Finish = Some codes.Finish
does a p Fall = Some codes.Fall

abbrev pub with_takes : Around → List ℕ → Around
with_takes a takes = record a { site = record a.site { takes = takes } }

abbrev pub point : Around → FlowPoint → Option Point
point a p =
    let takes : List ℕ = point_takes (typing a) p.instr in
    option_map (λ d. record { takes = takes; does = d; pos = p.pos }) (does (with_takes a takes) p p.instr)

-- ---- programs

pub record Program : Type 0 where
  pub points : List Point
  pub subs : List Sub
  pub main : Option ℕ

abbrev pub all_points : Around → List FlowPoint → Option (List Point)
all_points a [] = Some []
all_points a (p ∷ rest) = with_first (point a p) (all_points a rest)

-- No frame has more words than all may have.
abbrev pub fallen : FlowPoint → Point
fallen p = record { takes = []; does = codes.Fall; pos = p.pos }

abbrev pub sub_points : Around → FlowSub → Option (List Point)
sub_points a sub = if nat_lt stack_words sub.words then Some (map fallen sub.points) else all_points a sub.points

abbrev pub around : Typing → List Kept → ℕ → Bool → FlowSub → Around
around s of_packages first is_first sub = record {
  site = record { typing = s; own = objects_of sub; package_objects = of_packages; takes = [] };
  result = sub.result;
  first = first;
  count = length sub.points;
  is_first = is_first;
}

-- The points of the subprograms, whose first one has a number.
abbrev pub points_from : Typing → List Kept → ℕ → Bool → List FlowSub → Option (List Point)
points_from s of_packages n is_first [] = Some []
points_from s of_packages n is_first (sub ∷ rest) =
    append_all (sub_points (around s of_packages n is_first sub) sub) (points_from s of_packages (n + length sub.points) false rest)

abbrev pub sub_row : Typing → ℕ → FlowSub → Sub
sub_row s n sub = record {
  first = n;
  words = sub.words;
  rooms = rooms s (objects_of sub);
  formals = map (λ x. (object_at s x).of) sub.formals;
}

abbrev pub sub_rows : Typing → ℕ → List FlowSub → List Sub
sub_rows s n [] = []
sub_rows s n (sub ∷ rest) = sub_row s n sub ∷ sub_rows s (n + length sub.points) rest

unfoldable pub lowered_program : FlowProgram → Option Program
lowered_program program =
    let s : Typing = flow_typing program in
    option_map (λ points. record { points = points; subs = sub_rows s 0 program.subs; main = program.main })
    (points_from s (objects_of (sub_of program 0)) 0 true program.subs)
