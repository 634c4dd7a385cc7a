-- Laid-out subprograms and programs (docs/FLOW.md, "Points").
--
-- Subprogram 0 declares the package objects; the others follow in the order of their bodies. Each
-- has its points with numbers, in the order of the text.
use Rattle.std.specs.Prelude.{ℕ, suc, ◌+◌, not, ◌&&◌, ◌||◌, ◌==◌, List, [], ◌∷◌, ◌++◌, map, filter, flat_map, reverse, length, sum, Option, Some, None, is_some, if◌then◌else◌}
use Rattle.std.specs.List.{list_any, position_or_len}
use Rattle.typed_tree.specs.spark_base.declared.position.Pos.{Pos}
use Rattle.typed_tree.specs.place_names.declared.act.Act.{Act}
use Rattle.typed_tree.specs.place_names.declared.act.Placed.{Placed}
use Rattle.typed_tree.specs.place_names.declared.act.Mode.TheVariants as mode
use Rattle.typed_tree.specs.place_names.declared.fact.Fact.{Fact}
use Rattle.typed_tree.specs.place_names.Facts.{place, adds, is_same_fact}
use Rattle.typed_tree.specs.type_definitions.Types.{Table, words}
use Rattle.typed_tree.specs.type_definitions.Entries.{integer, boolean}
use Rattle.typed_tree.specs.declared.object.Object.{Object}
use Rattle.typed_tree.specs.declared.object.ObjectKind.TheVariants as object_kind
use Rattle.typed_tree.specs.Trees.{TypedCode, Declare, If, Branch, Case, When, Loop, While, For, Block, More}
use Rattle.typed_tree.specs.Programs.{TypedSub, TypedProgram}
use Rattle.flow_paths.specs.Instructions.{Instruction, Call, Evaluate, Finish, Fall}
use Rattle.flow_paths.specs.Objects.{Typing, Signature, object_at, sub_at, is_formal, is_package_object}
use Rattle.flow_paths.specs.Acts.{Frame, acts_of}
use Rattle.flow_paths.specs.Points.{Place, PointName, row_at, same_place, same_point, NamedPoint, point, entry, FlowPoint, flow_point}
use Rattle.flow_paths.specs.Prep.{Setting}
use Rattle.flow_paths.specs.Layout.{Around, declared, ending, ends, laid}

-- ---- the points of a subprogram, by name

-- What stands around the body of a subprogram. The formals are in scope from the start.
abbrev pub around_body : Setting → TypedSub → Around
around_body s sub = record {
  leave = [];
  in_loop = [];
  in_all = ending s sub.body;
  scope = reverse sub.formals;
  formals = reverse sub.formals;
}

abbrev pub scope_at_end : TypedSub → List ℕ
scope_at_end sub = reverse (declared sub.body) ++ reverse sub.formals

-- The end of a procedure: the ends of its scope, and Finish.
abbrev pub procedure_end : Setting → TypedSub → List NamedPoint
procedure_end s sub =
    let finish : PointName = row_at [] (length (ending s sub.body)) in
    ends [] 0 sub.end (ending s sub.body) (scope_at_end sub) (finish ∷ [])
    ++ point finish sub.end Finish (reverse sub.formals) [] ∷ []

-- The end of a function raises Program_Error.
abbrev pub function_end : TypedSub → List NamedPoint
function_end sub = point (row_at [] 0) sub.end Fall (scope_at_end sub) [] ∷ []

abbrev pub body_points : Setting → TypedSub → List NamedPoint → List NamedPoint
body_points s sub end = laid s sub.body (0 ∷ []) (around_body s sub) (entry end []) ++ end

abbrev pub sub_points : Setting → TypedSub → List NamedPoint
sub_points s sub = body_points s sub (if is_some sub.result then function_end sub else procedure_end s sub)

-- The package objects are declared in the order of the text, and nothing ends. The first point of
-- the main procedure follows without a step.
abbrev pub elaboration_points : Setting → TypedSub → List NamedPoint
elaboration_points s sub = body_points s sub []

-- ---- temporaries

-- A point whose value waits fills the temporary that has its place. Both operands of a short
-- circuit fill one, the left one first.
pub record Temporary : Type 0 where
  pub place : Place
  pub of : ℕ

abbrev pub result_of : Option ℕ → ℕ
result_of None = integer
result_of (Some t) = t

abbrev pub filled : Typing → Place → Instruction → List Temporary
filled s at (Call sub actuals (Some t)) = record { place = at; of = result_of (sub_at s sub).result } ∷ []
filled s at (Evaluate t e (Some op)) = record { place = at; of = boolean } ∷ []
filled s at _ = []

abbrev pub temporaries : Typing → List NamedPoint → List Temporary
temporaries s points = flat_map (λ p. filled s p.name.place p.instr) points

-- The numbers are those from n on, in the order of the points that fill them.
abbrev pub numbers_from : ℕ → List Temporary → Place → ℕ
numbers_from n all at = n + position_or_len (λ t. same_place at t.place) all

-- Points before the temporaries have their numbers.
abbrev pub unnumbered : Typing → Setting
unnumbered s = record { typing = s; temporary = λ at. 0 }

abbrev pub temporary_object : Temporary → Object
temporary_object t = record {
  name = [];
  «package» = None;
  of = t.of;
  kind = object_kind.Temporary;
  mode = mode.In;
  scope = 0;
}

-- ---- facts

-- A list without what was there before.
unfoldable pub distinct : List Fact → List Fact
distinct [] = []
distinct (f ∷ rest) = f ∷ filter (λ g. not (is_same_fact f g)) (distinct rest)

-- Each fact that some acts can add, in the order of the first act that adds it.
abbrev pub facts_of : List Act → List Fact
facts_of acts = distinct (flat_map adds acts)

-- The formals and the package objects from the n-th object on in which some fact is rooted.
abbrev pub kept_roots : Typing → ℕ → List Object → List Fact → List ℕ
kept_roots s n [] facts = []
kept_roots s n (_ ∷ rest) facts =
    if (is_formal s n || is_package_object s n) && list_any (λ f. (place f).root == n) facts
    then n ∷ kept_roots s (suc n) rest facts else kept_roots s (suc n) rest facts

-- No fact comes from the end of a call, so what that looks at doesn't matter here.
abbrev pub frame_of : Typing → TypedSub → List ℕ → Frame
frame_of s sub roots = record { typing = s; result = sub.result; roots = roots }

abbrev pub point_acts : Frame → NamedPoint → List Act
point_acts f p = map (λ (a : Placed). a.act) (acts_of f p.pos p.instr)

abbrev pub sub_facts : Typing → TypedSub → List NamedPoint → List Fact
sub_facts s sub points = facts_of (flat_map (point_acts (frame_of s sub [])) points)

-- ---- words

-- The objects that a text declares, those of inner blocks and the parameters of loops included.
unfoldable pub declared_within : TypedCode → List ℕ
declared_within (Declare p x v) = x ∷ []
declared_within (If branches otherwise) = declared_within branches ++ declared_within otherwise
declared_within (Branch p e stmts) = declared_within stmts
declared_within (Case p e whens) = declared_within whens
declared_within (When choices stmts) = declared_within stmts
declared_within (Loop stmts) = declared_within stmts
declared_within (While p e stmts) = declared_within stmts
declared_within (For p x reversed low high stmts) = x ∷ declared_within stmts
declared_within (Block n stmts end) = declared_within stmts
declared_within (More a rest) = declared_within a ++ declared_within rest
declared_within _ = []

abbrev pub object_words : Typing → ℕ → ℕ
object_words s x = words s.table (object_at s x).of

-- The words of a frame: those of its formals, of all objects declared in its text and of its
-- temporaries, and one word more. The parameter of a loop, as each scalar, has one word.
abbrev pub frame_words : Typing → TypedSub → List Temporary → ℕ
frame_words s sub all =
    sum (map (object_words s) (sub.formals ++ declared_within sub.body)) + sum (map (λ t. words s.table t.of) all) + 1

-- ---- numbers

pub record FlowSub : Type 0 where
  pub pos : Pos
  pub words : ℕ
  pub formals : List ℕ
  pub result : Option ℕ
  pub points : List FlowPoint
  pub facts : List Fact

-- Points are numbered as they stand.
abbrev pub number_in : List NamedPoint → PointName → ℕ
number_in points name = position_or_len (λ p. same_point name p.name) points

abbrev pub numbered : Frame → List NamedPoint → List FlowPoint
numbered f points = map (flow_point f (number_in points)) points

-- ---- all subprograms by name

-- A subprogram, its temporaries and its points.
pub record NamedSub : Type 0 where
  pub sub : TypedSub
  pub temporaries : List Temporary
  pub points : List NamedPoint

-- Temporaries have the numbers from n on, those of a subprogram after those of the subprograms
-- before it.
abbrev pub sub_temporaries : Typing → TypedSub → List Temporary
sub_temporaries s sub = temporaries s (sub_points (unnumbered s) sub)

abbrev pub named_sub : Typing → ℕ → List Temporary → TypedSub → NamedSub
named_sub s n all sub = record {
  sub = sub;
  temporaries = all;
  points = sub_points (record { typing = s; temporary = numbers_from n all }) sub;
}

abbrev pub named_subs : Typing → ℕ → List TypedSub → List NamedSub
named_subs s n [] = []
named_subs s n (sub ∷ rest) =
    let all : List Temporary = sub_temporaries s sub in
    named_sub s n all sub ∷ named_subs s (n + length all) rest

-- The package objects call no function of the program, and need no temporaries. Those of the other
-- subprograms have the numbers after those of all objects.
abbrev pub elaborated : Typing → TypedSub → NamedSub
elaborated s sub = record { sub = sub; temporaries = []; points = elaboration_points (unnumbered s) sub }

abbrev pub all_named : Typing → List TypedSub → List NamedSub
all_named s [] = []
all_named s (sub ∷ rest) = elaborated s sub ∷ named_subs s (length s.objects) rest

-- ---- subprograms with numbered points

abbrev pub flow_sub : Typing → NamedSub → FlowSub
flow_sub s named =
    let facts : List Fact = sub_facts s named.sub named.points in
    record {
      pos = named.sub.pos;
      words = frame_words s named.sub named.temporaries;
      formals = named.sub.formals;
      result = named.sub.result;
      points = numbered (frame_of s named.sub (kept_roots s 0 s.objects facts)) named.points;
      facts = facts;
    }

-- ---- programs

pub record FlowProgram : Type 0 where
  pub table : Table
  pub objects : List Object
  pub scopes : List ℕ
  pub subs : List FlowSub
  pub main : Option ℕ

abbrev pub signature : TypedSub → Signature
signature sub = record { formals = sub.formals; result = sub.result }

abbrev pub typing_of : Table → TypedProgram → Typing
typing_of table program = record { table = table; objects = program.objects; subs = map signature program.subs }

-- What is known of the parts of a program that is laid out.
abbrev pub flow_typing : FlowProgram → Typing
flow_typing program = record {
  table = program.table;
  objects = program.objects;
  subs = map (λ (sub : FlowSub). record { formals = sub.formals; result = sub.result }) program.subs;
}

-- The layout of a typed program.
abbrev pub program_of : Table → TypedProgram → Typing → List NamedSub → FlowProgram
program_of table program s named = record {
  table = table;
  objects = program.objects ++ map temporary_object (flat_map (λ n. n.temporaries) named);
  scopes = program.scopes;
  subs = map (flow_sub s) named;
  main = program.main;
}

abbrev pub flow_named : Table → TypedProgram → List NamedSub
flow_named table program = all_named (typing_of table program) program.subs

unfoldable pub flow_program : Table → TypedProgram → FlowProgram
flow_program table program = program_of table program (typing_of table program) (flow_named table program)
