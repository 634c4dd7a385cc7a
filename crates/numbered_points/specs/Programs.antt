-- Subprograms and programs with points by numbers (docs/FLOW.md, "Points").
--
-- One subprogram is laid out after the other. The temporaries of each have the numbers after those
-- of the one before, and the first ones follow all objects.
use Rattle.std.specs.Prelude.{ℕ, ◌+◌, Bool, true, false, List, [], ◌∷◌, ◌++◌, map, flat_map, sum, length, Some, is_some, if◌then◌else◌}
use Rattle.spark_base.specs.declared.position.Pos.{Pos}
use Rattle.place_names.specs.declared.act.Act.{Act}
use Rattle.place_names.specs.declared.act.Act.TheVariants as act
use Rattle.place_names.specs.declared.act.Placed.{Placed}
use Rattle.place_names.specs.declared.fact.Fact.{Fact}
use Rattle.type_definitions.specs.Types.{Table, words}
use Rattle.type_definitions.specs.Entries.{boolean}
use Rattle.typed_tree.specs.declared.object.Object.{Object}
use Rattle.typed_tree.specs.Programs.{TypedSub, TypedProgram}
use Rattle.flow_paths.specs.Instructions.{Instruction, Evaluate, Finish, Fall}
use Rattle.flow_paths.specs.Instructions as instruction
use Rattle.flow_paths.specs.Objects.{Typing, sub_at}
use Rattle.flow_paths.specs.Acts.{placed}
use Rattle.flow_paths.specs.Points.{FlowPoint}
use Rattle.flow_paths.specs.Laid.{result_of, temporary_object, facts_of, kept_roots, frame_of, declared_within, object_words, FlowSub, FlowProgram, typing_of}
use Rattle.numbered_points.specs.Extents.{Ways, size, ended_in, code_extent}
use Rattle.numbered_points.specs.Prepared.{Maker, make}
use Rattle.numbered_points.specs.Statements.{closed, laid_numbers}

-- ---- the points of a subprogram

abbrev pub body_ways : Typing → TypedSub → Ways
body_ways s sub = record { leave = []; in_loop = []; in_all = ended_in s sub.body }

abbrev pub body_size : Typing → TypedSub → ℕ
body_size s sub = size (code_extent s sub.body) (body_ways s sub)

-- Those of the body, the next temporary having the number t.
abbrev pub body_numbers : Maker → TypedSub → ℕ → List ℕ → List FlowPoint
body_numbers g sub t k = laid_numbers g sub.body 0 t (body_ways g.frame.typing sub) k

-- Those after it, the first with the number n. The end of a function raises Program_Error.
abbrev pub end_numbers : Maker → TypedSub → ℕ → List FlowPoint
end_numbers g sub n =
    if is_some sub.result then make g sub.end Fall [] ∷ []
    else closed g sub.end (ended_in g.frame.typing sub.body) n

abbrev pub sub_numbers : Maker → TypedSub → ℕ → List FlowPoint
sub_numbers g sub t =
    body_numbers g sub t (body_size g.frame.typing sub ∷ []) ++ end_numbers g sub (body_size g.frame.typing sub)

-- Those that declare the package objects. Temporaries have no numbers.
abbrev pub package_numbers : Maker → TypedSub → List FlowPoint
package_numbers g sub = body_numbers g sub 0 []

-- ---- temporaries

-- The type of the temporary that an instruction fills first.
abbrev pub filled_type : Typing → Instruction → List ℕ
filled_type s (instruction.Call sub actuals (Some t)) = result_of (sub_at s sub).result ∷ []
filled_type s (Evaluate t e (Some op)) = boolean ∷ []
filled_type s _ = []

-- The types of all temporaries, in the order of their numbers.
abbrev pub filled_types : Typing → List FlowPoint → List ℕ
filled_types s points = flat_map (λ (p : FlowPoint). filled_type s p.instr) points

abbrev pub waiting_object : ℕ → Object
waiting_object t = temporary_object (record { place = []; of = t })

-- ---- facts and words

abbrev pub acts_at : FlowPoint → List Act
acts_at p = map (λ (a : Placed). a.act) p.acts

abbrev pub facts_in : List FlowPoint → List Fact
facts_in points = facts_of (flat_map acts_at points)

abbrev pub words_in : Typing → TypedSub → List ℕ → ℕ
words_in s sub types =
    sum (map (object_words s) (sub.formals ++ declared_within sub.body)) + sum (map (words s.table) types) + 1

-- What is looked at by the end of a call, where points were made without.
abbrev pub acts_with : List ℕ → Pos → Instruction → List Placed → List Placed
acts_with roots p Finish acts = placed p (act.Return roots) ∷ []
acts_with roots p _ acts = acts

abbrev pub rooted : List ℕ → FlowPoint → FlowPoint
rooted roots p = record p { acts = acts_with roots p.pos p.instr p.acts }

-- ---- subprograms

-- A subprogram, and the types of its temporaries in the order of their numbers.
pub record NumberedSub : Type 0 where
  pub types : List ℕ
  pub sub : FlowSub

-- What points are made by. No fact comes from the end of a call, so facts are known before what
-- that looks at.
abbrev pub maker : Typing → TypedSub → Bool → List ℕ → Maker
maker s sub counted roots = record { frame = frame_of s sub roots; counted = counted }

abbrev pub roots_in : Typing → List FlowPoint → List ℕ
roots_in s points = kept_roots s 0 s.objects (facts_in points)

-- The subprogram with the points that `make_points` makes with some roots.
abbrev pub sub_with : Typing → TypedSub → List ℕ → (List ℕ → List FlowPoint) → NumberedSub
sub_with s sub types make_points = record {
  types = types;
  sub = record {
    pos = sub.pos;
    words = words_in s sub types;
    formals = sub.formals;
    result = sub.result;
    points = make_points (roots_in s (make_points []));
    facts = facts_in (make_points []);
  };
}

-- The same, of points that were made with no roots.
abbrev pub sub_once : Typing → TypedSub → List ℕ → List FlowPoint → NumberedSub
sub_once s sub types points = record {
  types = types;
  sub = record {
    pos = sub.pos;
    words = words_in s sub types;
    formals = sub.formals;
    result = sub.result;
    points = map (rooted (roots_in s points)) points;
    facts = facts_in points;
  };
}

abbrev pub numbered_sub : Typing → ℕ → TypedSub → NumberedSub
numbered_sub s t sub =
    sub_with s sub (filled_types s (sub_numbers (maker s sub true []) sub t)) (λ roots. sub_numbers (maker s sub true roots) sub t)

abbrev pub numbered_subs : Typing → ℕ → List TypedSub → List NumberedSub
numbered_subs s t [] = []
numbered_subs s t (sub ∷ rest) =
    numbered_sub s t sub ∷ numbered_subs s (t + length (numbered_sub s t sub).types) rest

-- The package objects need no temporaries.
abbrev pub numbered_package : Typing → TypedSub → NumberedSub
numbered_package s sub = sub_with s sub [] (λ roots. package_numbers (maker s sub false roots) sub)

abbrev pub all_numbered : Typing → List TypedSub → List NumberedSub
all_numbered s [] = []
all_numbered s (sub ∷ rest) = numbered_package s sub ∷ numbered_subs s (length s.objects) rest

-- ---- programs

abbrev pub program_with : Table → TypedProgram → List NumberedSub → FlowProgram
program_with table program all = record {
  table = table;
  objects = program.objects ++ map waiting_object (flat_map (λ (n : NumberedSub). n.types) all);
  scopes = program.scopes;
  subs = map (λ (n : NumberedSub). n.sub) all;
  main = program.main;
}

-- The layout of a typed program, as one pass makes it.
unfoldable pub program_numbers : Table → TypedProgram → FlowProgram
program_numbers table program = program_with table program (all_numbered (typing_of table program) program.subs)
