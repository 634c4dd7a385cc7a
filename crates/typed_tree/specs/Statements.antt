-- Typed statements (docs/LANGUAGE.md, "Typed programs"; Ada 2012, 3.3.1, 5 and 6): what is meant by
-- statements and declarations that break no sentence. Declarations of objects are statements;
-- others leave nothing.
use Rattle.std.specs.Prelude.{ℕ, ◌+◌, true, false, List, [], ◌∷◌, ◌++◌, map, Option, Some, None}
use Rattle.type_definitions.specs.spark_base.declared.position.Pos.{Pos}
use Rattle.type_definitions.specs.resolved_tree.Trees.{Tree, Named, More, position, Code, Bounds, Marked, Constrained, RangeOf, Objects, Numbers, SubBody, Package, PackageBody, Skip, Assign, Call, Exit, Return, If, Branch, Case, Value, Interval, When, Loop, While, For, Block, code_items}
use Rattle.type_definitions.specs.declared.table.Predefined.{Predefined}
use Rattle.type_definitions.specs.declared.table.Predefined.TheVariants as predefined
use Rattle.type_definitions.specs.declared.table.Entry.{Entry}
use Rattle.type_definitions.specs.declared.table.Entry.TheVariants as entry
use Rattle.type_definitions.specs.declared.judgement.View.{View}
use Rattle.type_definitions.specs.declared.judgement.View.TheVariants as view
use Rattle.type_definitions.specs.declared.judgement.Reading.{Reading}
use Rattle.type_definitions.specs.declared.judgement.Reading.TheVariants as reading
use Rattle.type_definitions.specs.Types.{full}
use Rattle.type_definitions.specs.Entries.{entry_of, integer, boolean, marked}
use Rattle.type_definitions.specs.Names.{Context, seen, reading_of}
use Rattle.type_definitions.specs.Expressions.{call_arguments, profile_of, result_type}
use Rattle.type_definitions.specs.Statements.{choice_value, target_reading}
use Rattle.type_definitions.specs.Gathered.{indicated, declared_pos, declared_number}
use Rattle.type_definitions.specs.Declarations.{first_number}
use Rattle.typed_tree.specs.Trees.{TypedTree, TypedCode, typed_code_list}
use Rattle.typed_tree.specs.Trees as typed
use Rattle.typed_tree.specs.Expressions.{Site, object_number, sub_number, typed_expression, typed_first, typed_actuals, typed_optional}

-- ---- scopes

-- How many scopes begin in code: each body of a subprogram, each block, and each `for` loop is one.
unfoldable pub scope_count : Code → ℕ
scope_count (SubBody front items stmts end) = 1 + (scope_count items + scope_count stmts)
scope_count (Package d visible hidden) = scope_count visible + scope_count hidden
scope_count (PackageBody d parts) = scope_count parts
scope_count (If p branches otherwise) = scope_count branches + scope_count otherwise
scope_count (Branch p e stmts) = scope_count stmts
scope_count (Case p e whens) = scope_count whens
scope_count (When choices stmts) = scope_count stmts
scope_count (Loop p stmts) = scope_count stmts
scope_count (While p e stmts) = scope_count stmts
scope_count (For p d reversed range stmts) = 1 + scope_count stmts
scope_count (Block p items stmts end) = 1 + (scope_count items + scope_count stmts)
scope_count (More a rest) = scope_count a + scope_count rest
scope_count _ = 0

-- ---- declarations of objects

-- Each identifier is a declaration, which evaluates the value for itself (Ada 2012, 3.3.1(7)). The
-- value stands once in the text, and is typed for the type of the first.
abbrev pub typed_object : Site → TypedTree → Code → TypedCode
typed_object s v d = typed.Declare (declared_pos d) (object_number s (declared_number d)) v

abbrev pub typed_objects : Site → Code → TypedTree → List TypedCode
typed_objects s ids v = map (typed_object s v) (code_items ids)

-- ---- statements without statements in them

abbrev pub type_read : Reading → ℕ
type_read (reading.Place t) = t
type_read _ = integer

abbrev pub typed_assign : Site → Tree → Tree → TypedCode
typed_assign s target e =
    typed.Assign (position target) (typed_expression s integer target)
    (typed_expression s (type_read (target_reading s.context target)) e)

-- What is written: the string expression of a call.
abbrev pub typed_text : Site → Tree → TypedTree
typed_text s args = typed.More (typed_first s integer args) typed.NoMore

abbrev pub predefined_call : Site → Pos → Predefined → Tree → TypedCode
predefined_call s p predefined.Put args = typed.Output p (typed_text s args) false
predefined_call s p predefined.PutLine args = typed.Output p (typed_text s args) true
predefined_call s p predefined.NewLine args = typed.Output p typed.NoMore true
predefined_call s p predefined.Get args = typed.Input p (typed_first s integer args)
predefined_call s p predefined.EndOfFile args = typed.Skip p
predefined_call s p predefined.Deallocation args = typed.Skip p

abbrev pub call_of : Site → Pos → ℕ → Entry → Tree → TypedCode
call_of s p d (entry.Subprogram profile) rest = typed.Call p (sub_number s d) (typed_actuals s d rest)
call_of s p d (entry.Instance t) rest = typed.Release p (typed_first s t (call_arguments rest))
call_of s p d (entry.Predefined which) rest = predefined_call s p which (call_arguments rest)
call_of s p d _ rest = typed.Skip p

abbrev pub typed_call : Site → Tree → TypedCode
typed_call s (Named p d rest) = call_of s p d (entry_of s.context.known d) rest
typed_call s x = typed.Skip (position x)

-- The type that a `return` gives a value of.
abbrev pub returned_type : Context → Option ℕ → ℕ
returned_type c None = integer
returned_type c (Some f) = result_type (profile_of (entry_of c.known f)).result

-- ---- ranges and choices

-- The first and the last value of a type or an array.
abbrev pub bounds_seen : View → TypedTree × TypedTree
bounds_seen (view.Whole low high) = (typed.Number low, typed.Number high)
bounds_seen (view.Listed low high) = (typed.Literal low, typed.Literal high)
bounds_seen (view.Elements low high of) = (typed.Number low, typed.Number high)
bounds_seen _ = (typed.Null, typed.Null)

-- The array of A'Range: an object or a type.
abbrev pub array_seen : Context → ℕ → Reading → View
array_seen c d (reading.Place t) = seen c t
array_seen c d _ = seen c d

abbrev pub range_of : Context → Tree → TypedTree × TypedTree
range_of c (Named p d rest) = bounds_seen (array_seen c d (reading_of c d rest))
range_of c _ = bounds_seen view.Hidden

-- The bounds of a range, which are evaluated once (Ada 2012, 5.5(9)).
abbrev pub typed_range : Site → Code → TypedTree × TypedTree
typed_range s (Bounds low high) = (typed_expression s integer low, typed_expression s integer high)
typed_range s (Constrained m low high) = (typed_expression s integer low, typed_expression s integer high)
typed_range s (Marked m) = bounds_seen (full s.context.known.table (marked s.context.known m))
typed_range s (RangeOf e) = range_of s.context e
typed_range s _ = bounds_seen view.Hidden

abbrev pub typed_choice : Context → Code → TypedCode
typed_choice c (Value e) = typed.Interval (choice_value c e) (choice_value c e)
typed_choice c (Interval low high) = typed.Interval (choice_value c low) (choice_value c high)
typed_choice c _ = typed.Others

abbrev pub typed_choices : Context → Code → TypedCode
typed_choices c choices = typed_code_list (map (typed_choice c) (code_items choices))

-- ---- all of the code

-- A statement that holds no others, or a declaration.
abbrev pub plain_statements : Site → Code → List TypedCode
plain_statements s (Objects ids constant i v) =
    typed_objects s ids (typed_optional s (indicated s.context.known (first_number ids) i) v)
plain_statements s (Numbers ids e) = typed_objects s ids (typed.More (typed_expression s integer e) typed.NoMore)
plain_statements s (Skip p) = typed.Skip p ∷ []
plain_statements s (Assign target e) = typed_assign s target e ∷ []
plain_statements s (Call name) = typed_call s name ∷ []
plain_statements s (Exit p when) = typed.Exit p (typed_optional s boolean when) ∷ []
plain_statements s (Return p v) = typed.Return p (typed_optional s (returned_type s.context s.context.sub) v) ∷ []
plain_statements s _ = []

-- The statements that code means; n is the number of the next scope that begins.
unfoldable pub statements : Site → ℕ → Code → List TypedCode
statements s n (If p branches otherwise) =
    typed.If (typed_code_list (statements s n branches)) (typed_code_list (statements s (n + scope_count branches) otherwise)) ∷ []
statements s n (Branch p e stmts) = typed.Branch p (typed_expression s boolean e) (typed_code_list (statements s n stmts)) ∷ []
statements s n (Case p e whens) = typed.Case p (typed_expression s integer e) (typed_code_list (statements s n whens)) ∷ []
statements s n (When choices stmts) =
    typed.When (typed_choices s.context choices) (typed_code_list (statements s n stmts)) ∷ []
statements s n (Loop p stmts) = typed.Loop (typed_code_list (statements s n stmts)) ∷ []
statements s n (While p e stmts) = typed.While p (typed_expression s boolean e) (typed_code_list (statements s n stmts)) ∷ []
statements s n (For p d reversed range stmts) =
    typed.For p (object_number s (declared_number d)) reversed (typed_range s range).0 (typed_range s range).1
    (typed_code_list (statements s (n + 1) stmts)) ∷ []
statements s n (Block p items stmts end) =
    typed.Block n (typed_code_list (statements s (n + 1) items ++ statements s (n + 1 + scope_count items) stmts)) end ∷ []
statements s n (More a rest) = statements s n a ++ statements s (n + scope_count a) rest
statements s n code = plain_statements s code

-- The declarations and the statements of a body.
abbrev pub typed_body : Site → ℕ → Code → Code → TypedCode
typed_body s n items stmts = typed_code_list (statements s n items ++ statements s (n + scope_count items) stmts)
