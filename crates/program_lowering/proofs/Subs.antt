-- Subprograms, their frames and their program.
use Rattle.std.proofs.Common.{◌≡◌, refl, sym, ap, ◌∙◌, ℕ, ◌+◌, Bool, true, false, List, [], ◌∷◌, ◌++◌, map, flat_map, take, length, Option, Some, append_assoc, arith}
use Rattle.std.proofs.lemmas.Grind.{common_steps}
use Rattle.std.proofs.lemmas.List.{map-append}
use Rattle.std.specs.Prelude.{if◌then◌else◌}
use Rattle.type_definitions.specs.Types.{Table}
use Rattle.typed_tree.specs.declared.object.Object.{Object as ObjectRow}
use Rattle.typed_tree.specs.Nodes.{TypedNodes}
use Rattle.flow_paths.specs.declared.point.LaidSub.{LaidSub}
use Rattle.flow_paths.specs.Instructions.{Instruction, Skip, Declare, Assign, Call, Output, Input, Release, Test, Choose, Start, Next, Evaluate, LeaveLoop, Hold, EndScope, Finish, Fall}
use Rattle.flow_paths.specs.Points.{FlowPoint}
use Rattle.flow_paths.specs.Objects.{Typing, object_at}
use Rattle.flow_paths.specs.Laid.{FlowSub, FlowProgram, flow_typing}
use Rattle.flow_paths.specs.Stands.{flow_sub_of}
use Rattle.machine.specs.States.{sub_of}
use Rattle.run_codes.specs.Codes as codes
use Rattle.run_codes.specs.Codes.{Point}
use Rattle.run_codes.specs.Lowered.{Kept, option_map}
use Rattle.run_codes.specs.Programs.{kept, has_room, with_room, room_of, rooms_of, objects_of, rooms, points_from, sub_row, sub_rows, lowered_program}
use Rattle.code_rows.specs.declared.range.Range.{Range}
use Rattle.code_rows.specs.declared.codes.Codes.{Codes}
use Rattle.code_rows.specs.declared.point.Room.{Room}
use Rattle.code_rows.specs.declared.point.Room.TheVariants as room
use Rattle.code_rows.specs.declared.point.Sub.{Sub}
use Rattle.code_rows.specs.Points as rows
use Rattle.code_rows.specs.Points.{some, type_of}
use Rattle.code_rows.proofs.Kept.{some_end}
use Rattle.program_lowering.specs.Subs.{signature_of, kept_rooms, rooms_in}

-- ---- frames

pub rooms_range : (old new more : List Room) (r : Range) → new ≡ old ++ more → r.first ≡ length old → r.first + r.count ≡ length new → some new r ≡ more
rooms_range old new more r e first end =
    let count : r.count ≡ length more = grind (arith, common_steps, ap (λ (xs : List Room). length xs) e) in
    ap (λ xs. some xs r) e ∙ some_end old more r first count

kept_same : (s : Typing) (k : Kept) → map rows.room_of (kept_rooms s k) ≡ codes.Object (object_at s k.object).of ∷ (if k.loops then codes.Counter ∷ [] else [])
kept_same s k = by_loops k.loops
  where
    by_loops : (b : Bool) → map rows.room_of (room.Object (object_at s k.object).of ∷ (if b then room.Counter ∷ [] else [])) ≡ codes.Object (object_at s k.object).of ∷ (if b then codes.Counter ∷ [] else [])
    by_loops true = refl
    by_loops false = refl

rooms_same : (s : Typing) (all : List Kept) → map rows.room_of (rooms_in s all) ≡ rooms s all
rooms_same s [] = refl
rooms_same s (k ∷ all) =
    map-append rows.room_of (kept_rooms s k) (rooms_in s all)
    ∙ (ap (λ xs. xs ++ map rows.room_of (rooms_in s all)) (kept_same s k)
    ∙ ap (λ xs. (codes.Object (object_at s k.object).of ∷ (if k.loops then codes.Counter ∷ [] else [])) ++ xs) (rooms_same s all))

formal_types : (s : Typing) (xs : List ℕ) (more : List Kept)
    → flat_map type_of (take (length xs) (rooms_in s (map (λ x. kept x false) xs ++ more))) ≡ map (λ x. (object_at s x).of) xs
formal_types s [] more = refl
formal_types s (x ∷ xs) more = ap (λ ts. (object_at s x).of ∷ ts) (formal_types s xs more)

-- What has room stays first.
with_starts : (k : Kept) (all : List Kept) → (more : List Kept) × (with_room k all ≡ all ++ more)
with_starts k all = by_room (has_room k.object all)
  where
    by_room : (b : Bool) → (more : List Kept) × ((if b then all else all ++ k ∷ []) ≡ all ++ more)
    by_room true = ([], grind (arith, common_steps))
    by_room false = (k ∷ [], refl)

none_more : (all : List Kept) → (more : List Kept) × (all ≡ all ++ more)
none_more all = ([], grind (arith, common_steps))

instr_starts : (i : Instruction) (all : List Kept) → (more : List Kept) × (room_of i all ≡ all ++ more)
instr_starts Skip all = none_more all
instr_starts (Declare x v) all = with_starts (kept x false) all
instr_starts (Assign target e) all = none_more all
instr_starts (Call sub actuals result) all = none_more all
instr_starts (Output text line) all = none_more all
instr_starts (Input target) all = none_more all
instr_starts (Release e) all = none_more all
instr_starts (Test e) all = none_more all
instr_starts (Choose e choices) all = none_more all
instr_starts (Start x reversed low high) all = with_starts (kept x true) all
instr_starts (Next x reversed low high) all = none_more all
instr_starts (Evaluate t e left) all = none_more all
instr_starts (LeaveLoop e) all = none_more all
instr_starts (Hold v) all = none_more all
instr_starts (EndScope x) all = none_more all
instr_starts Finish all = none_more all
instr_starts Fall all = none_more all

starts : (points : List FlowPoint) (all : List Kept) → (more : List Kept) × (rooms_of points all ≡ all ++ more)
starts [] all = ([], grind (arith, common_steps))
starts (p ∷ points) all =
    let one = instr_starts p.instr all in
    let rest = starts points (room_of p.instr all) in
    (one.0 ++ rest.0, rest.1 ∙ (ap (λ xs. xs ++ rest.0) one.1 ∙ append_assoc all one.0 rest.0))

formals_first : (s : Typing) (sub : FlowSub)
    → flat_map type_of (take (length sub.formals) (rooms_in s (objects_of sub))) ≡ map (λ x. (object_at s x).of) sub.formals
formals_first s sub =
    let some = starts sub.points (map (λ x. kept x false) sub.formals) in
    ap (λ all. flat_map type_of (take (length sub.formals) (rooms_in s all))) some.1 ∙ formal_types s sub.formals some.0

abbrev made : ℕ → ℕ → List codes.Room → List ℕ → codes.Sub
made first words rooms formals = record { first = first; words = words; rooms = rooms; formals = formals }

-- The row of a subprogram is that of the definitions.
pub sub_is : (c : Codes) (s : Typing) (sub : FlowSub) (row : Sub) → some c.rooms.items row.rooms ≡ rooms_in s (objects_of sub)
    → row.words ≡ sub.words → row.formals ≡ length sub.formals → rows.sub_of c row ≡ sub_row s row.first sub
sub_is c s sub row all words formals =
    let rooms_are : map rows.room_of (some c.rooms.items row.rooms) ≡ rooms s (objects_of sub) =
    ap (λ xs. map rows.room_of xs) all ∙ rooms_same s (objects_of sub) in
    let formals_are : flat_map type_of (take row.formals (some c.rooms.items row.rooms)) ≡ map (λ x. (object_at s x).of) sub.formals =
    ap (λ xs. flat_map type_of (take row.formals xs)) all
    ∙ (ap (λ n. flat_map type_of (take n (rooms_in s (objects_of sub)))) formals ∙ formals_first s sub) in
    ap (λ w. made row.first w (map rows.room_of (some c.rooms.items row.rooms)) (flat_map type_of (take row.formals (some c.rooms.items row.rooms)))) words
    ∙ (ap (λ xs. made row.first sub.words xs (flat_map type_of (take row.formals (some c.rooms.items row.rooms)))) rooms_are
    ∙ ap (λ ts. made row.first sub.words (rooms s (objects_of sub)) ts) formals_are)

-- One more row is the first of the rest.
pub sub_on : (s : Typing) (xs ys zs : List codes.Sub) (n first m : ℕ) (sub : FlowSub) (rest : List FlowSub) → ys ≡ xs
    → zs ≡ ys ++ sub_row s first sub ∷ [] → first ≡ n → m ≡ n + length sub.points
    → xs ++ sub_rows s n (sub ∷ rest) ≡ zs ++ sub_rows s m rest
sub_on s xs ys zs n first m sub rest same made is more =
    ap (λ k. xs ++ (sub_row s n sub ∷ sub_rows s k rest)) (sym more)
    ∙ (sym (append_assoc xs (sub_row s n sub ∷ []) (sub_rows s m rest))
    ∙ ap (λ all. all ++ sub_rows s m rest)
    (ap (λ k. xs ++ sub_row s k sub ∷ []) (sym is) ∙ (ap (λ all. all ++ sub_row s first sub ∷ []) (sym same) ∙ sym made)))

-- ---- programs

signatures_same : (rows : TypedNodes) (subs : List LaidSub)
    → map (λ (sub : FlowSub). record { formals = sub.formals; result = sub.result }) (map (flow_sub_of rows) subs) ≡ map signature_of subs
signatures_same rows [] = refl
signatures_same rows (sub ∷ subs) = ap (λ all. signature_of sub ∷ all) (signatures_same rows subs)

-- What is known of the parts of a program is as its signatures say.
pub typing_is : (table : Table) (objects : List ObjectRow) (scopes : List ℕ) (rows : TypedNodes) (subs : List LaidSub) (main : Option ℕ)
    → flow_typing (record { table = table; objects = objects; scopes = scopes; subs = map (flow_sub_of rows) subs; main = main })
    ≡ record { table = table; objects = objects; subs = map signature_of subs }
typing_is table objects scopes rows subs main =
    ap (λ all. record { table = table; objects = objects; subs = all }) (signatures_same rows subs)

pub lowered_is : (program : FlowProgram) (s : Typing) (points : List Point) (subs : List codes.Sub) → flow_typing program ≡ s
    → points_from s (objects_of (sub_of program 0)) 0 true program.subs ≡ Some points → sub_rows s 0 program.subs ≡ subs
    → lowered_program program ≡ Some (record { points = points; subs = subs; main = program.main })
unfolding lowered_program
lowered_is program s points subs same all rows =
    ap (λ t. option_map (λ ps. record { points = ps; subs = sub_rows t 0 program.subs; main = program.main })
    (points_from t (objects_of (sub_of program 0)) 0 true program.subs)) same
    ∙ (ap (λ o. option_map (λ ps. record { points = ps; subs = sub_rows s 0 program.subs; main = program.main }) o) all
    ∙ ap (λ rest. Some (record { points = points; subs = rest; main = program.main })) rows)
