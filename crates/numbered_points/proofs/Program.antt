-- A program with numbers, as one pass lays it out, is the program that is defined by names.
use Rattle.std.proofs.Common.{◌≡◌, ℕ, ◌+◌, true, false, List, [], ◌∷◌, ◌++◌, length, map, refl, sym, ap, ◌∙◌, Some, None}
use Rattle.std.specs.Prelude.{flat_map, sum}
use Rattle.std.proofs.lemmas.List.{map-append, length-map}
use Rattle.place_names.specs.declared.act.Act.{Act}
use Rattle.type_definitions.specs.Types.{Table, words}
use Rattle.typed_tree.specs.declared.object.Object.{Object}
use Rattle.typed_tree.specs.Programs.{TypedSub, TypedProgram}
use Rattle.flow_paths.specs.Instructions.{Instruction, Call, Evaluate}
use Rattle.flow_paths.specs.Objects.{Typing}
use Rattle.flow_paths.specs.Acts.{Frame}
use Rattle.flow_paths.specs.Points.{PointName, NamedPoint, FlowPoint, flow_point}
use Rattle.flow_paths.specs.Laid.{Temporary, filled, temporaries, temporary_object, frame_of, kept_roots, facts_of, point_acts, sub_facts, object_words, declared_within, frame_words, sub_points, elaboration_points, unnumbered, number_in, numbered, NamedSub, named_sub, named_subs, elaborated, all_named, FlowSub, flow_sub, typing_of, flow_program}
use Rattle.numbered_points.specs.Programs.{filled_type, filled_types, waiting_object, acts_at, facts_in, words_in, NumberedSub, maker, sub_with, sub_numbers, package_numbers, numbered_sub, numbered_subs, numbered_package, all_numbered, program_numbers}
use Rattle.numbered_points.proofs.Subprograms.{all_of, setting_at, types_same, sub_made, package_made}

-- ---- what is read off the points

abbrev type_of : Temporary → ℕ
type_of t = t.of

type_filled : (s : Typing) (p : NamedPoint) (i : Instruction) → filled_type s i ≡ map type_of (filled s p.name.place i)
type_filled s p (Call sub actuals (Some t)) = refl
type_filled s p (Call sub actuals None) = refl
type_filled s p (Evaluate t e (Some op)) = refl
type_filled s p (Evaluate t e None) = refl
type_filled s p _ = refl

types_are : (s : Typing) (f : Frame) (number : PointName → ℕ) (ps : List NamedPoint)
    → filled_types s (map (flow_point f number) ps) ≡ map type_of (temporaries s ps)
types_are s f number [] = refl
types_are s f number (p ∷ ps) =
    (λ i. type_filled s p p.instr i ++ types_are s f number ps i)
    ∙ sym (map-append type_of (filled s p.name.place p.instr) (temporaries s ps))

acts_are : (f : Frame) (number : PointName → ℕ) (ps : List NamedPoint) → flat_map acts_at (map (flow_point f number) ps) ≡ flat_map (point_acts f) ps
acts_are f number [] = refl
acts_are f number (p ∷ ps) = ap (λ (rest : List Act). point_acts f p ++ rest) (acts_are f number ps)

words_are : (table : Table) (ts : List Temporary) → map (words table) (map type_of ts) ≡ map (λ (t : Temporary). words table t.of) ts
words_are table [] = refl
words_are table (t ∷ ts) = ap (λ ns. words table t.of ∷ ns) (words_are table ts)

-- ---- one subprogram

-- A subprogram by names as one with numbers.
abbrev pub as_numbered : Typing → NamedSub → NumberedSub
as_numbered s named = record { types = map type_of named.temporaries; sub = flow_sub s named }

-- What a subprogram needs: points of which `make_points` makes those with numbers.
with_same : (s : Typing) (sub : TypedSub) (types : List ℕ) (ts : List Temporary) (points : List NamedPoint) (make_points : List ℕ → List FlowPoint)
    → types ≡ map type_of ts → ((roots : List ℕ) → make_points roots ≡ numbered (frame_of s sub roots) points)
    → sub_with s sub types make_points ≡ as_numbered s (record { sub = sub; temporaries = ts; points = points })
with_same s sub types ts points make_points is same =
    let facts : facts_in (make_points []) ≡ sub_facts s sub points =
    ap facts_in (same []) ∙ ap facts_of (acts_are (frame_of s sub []) (number_in points) points) in
    let placed : make_points (kept_roots s 0 s.objects (facts_in (make_points [])))
    ≡ numbered (frame_of s sub (kept_roots s 0 s.objects (sub_facts s sub points))) points =
    ap (λ fs. make_points (kept_roots s 0 s.objects fs)) facts ∙ same (kept_roots s 0 s.objects (sub_facts s sub points)) in
    let size : words_in s sub types ≡ frame_words s sub ts =
    ap (words_in s sub) is ∙ ap (λ ns. sum (map (object_words s) (sub.formals ++ declared_within sub.body)) + sum ns + 1) (words_are s.table ts) in
    λ i. record {
      types = is i;
      sub = record { pos = sub.pos; words = size i; formals = sub.formals; result = sub.result; points = placed i; facts = facts i };
    }

pub sub_same : (s : Typing) (t : ℕ) (sub : TypedSub) → numbered_sub s t sub ≡ as_numbered s (named_sub s t (all_of s sub) sub)
sub_same s t sub =
    let points : List NamedPoint = sub_points (setting_at s t sub) sub in
    let same : (roots : List ℕ) → sub_numbers (maker s sub true roots) sub t ≡ numbered (frame_of s sub roots) points =
    λ roots. sym (sub_made (maker s sub true roots) t sub refl) in
    let types : filled_types s (sub_numbers (maker s sub true []) sub t) ≡ map type_of (all_of s sub) =
    ap (filled_types s) (same []) ∙ types_are s (frame_of s sub []) (number_in points) points ∙ ap (map type_of) (types_same s t sub) in
    with_same s sub (filled_types s (sub_numbers (maker s sub true []) sub t)) (all_of s sub) points
    (λ roots. sub_numbers (maker s sub true roots) sub t) types same

pub package_same : (s : Typing) (sub : TypedSub) → numbered_package s sub ≡ as_numbered s (elaborated s sub)
package_same s sub =
    with_same s sub [] [] (elaboration_points (unnumbered s) sub) (λ roots. package_numbers (maker s sub false roots) sub) refl
    (λ roots. sym (package_made (maker s sub false roots) sub refl))

-- ---- all subprograms

pub subs_same : (s : Typing) (t : ℕ) (subs : List TypedSub) → numbered_subs s t subs ≡ map (as_numbered s) (named_subs s t subs)
subs_same s t [] = refl
subs_same s t (sub ∷ rest) =
    let first : numbered_sub s t sub ≡ as_numbered s (named_sub s t (all_of s sub) sub) = sub_same s t sub in
    let count : length (numbered_sub s t sub).types ≡ length (all_of s sub) =
    ap (λ (n : NumberedSub). length n.types) first ∙ length-map (all_of s sub) type_of in
    let later : numbered_subs s (t + length (numbered_sub s t sub).types) rest ≡ map (as_numbered s) (named_subs s (t + length (all_of s sub)) rest) =
    ap (λ n. numbered_subs s (t + n) rest) count ∙ subs_same s (t + length (all_of s sub)) rest in
    λ i. first i ∷ later i

pub all_same : (s : Typing) (subs : List TypedSub) → all_numbered s subs ≡ map (as_numbered s) (all_named s subs)
all_same s [] = refl
all_same s (sub ∷ rest) = λ i. package_same s sub i ∷ subs_same s (length s.objects) rest i

-- ---- the program

objects_same : (ts : List Temporary) → map waiting_object (map type_of ts) ≡ map temporary_object ts
objects_same [] = refl
objects_same (t ∷ ts) = ap (λ (rest : List Object). temporary_object t ∷ rest) (objects_same ts)

all_types : (s : Typing) (named : List NamedSub)
    → flat_map (λ (n : NumberedSub). n.types) (map (as_numbered s) named) ≡ map type_of (flat_map (λ (n : NamedSub). n.temporaries) named)
all_types s [] = refl
all_types s (n ∷ named) =
    ap (λ (rest : List ℕ). map type_of n.temporaries ++ rest) (all_types s named)
    ∙ sym (map-append type_of n.temporaries (flat_map (λ (m : NamedSub). m.temporaries) named))

all_subs : (s : Typing) (named : List NamedSub) → map (λ (n : NumberedSub). n.sub) (map (as_numbered s) named) ≡ map (flow_sub s) named
all_subs s [] = refl
all_subs s (n ∷ named) = ap (λ (rest : List FlowSub). flow_sub s n ∷ rest) (all_subs s named)

pub program_same : (table : Table) (program : TypedProgram) → program_numbers table program ≡ flow_program table program
unfolding program_numbers flow_program
program_same table program =
    let s : Typing = typing_of table program in
    let all : List NumberedSub = all_numbered s program.subs in
    let named : List NamedSub = all_named s program.subs in
    let same : all ≡ map (as_numbered s) named = all_same s program.subs in
    let objects : map waiting_object (flat_map (λ (n : NumberedSub). n.types) all) ≡ map temporary_object (flat_map (λ (n : NamedSub). n.temporaries) named) =
    ap (λ (ns : List NumberedSub). map waiting_object (flat_map (λ (n : NumberedSub). n.types) ns)) same
    ∙ ap (map waiting_object) (all_types s named) ∙ objects_same (flat_map (λ (n : NamedSub). n.temporaries) named) in
    let subs : map (λ (n : NumberedSub). n.sub) all ≡ map (flow_sub s) named =
    ap (map (λ (n : NumberedSub). n.sub)) same ∙ all_subs s named in
    λ i. record {
      table = table;
      objects = program.objects ++ objects i;
      scopes = program.scopes;
      subs = subs i;
      main = program.main;
    }
