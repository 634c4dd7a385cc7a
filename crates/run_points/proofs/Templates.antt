-- The words with which a frame begins: those of objects without a value, and of loops that haven't started.
use Rattle.std.proofs.Common.{◌≡◌, ◌⊎◌, inl, inr, ℕ, zero, suc, ◌+◌, ◌<◌, true, false, Bool, ◌||◌, List, [], ◌∷◌, ◌++◌, map, length, take, drop, get_or, refl, sym, ap, subst, ◌∙◌, arith, Option, Some, ℤ, pos, nat_lt, append_assoc, length-append, if◌then◌else◌}
use Rattle.std.specs.Prelude.{◌==◌, flat_map, option_and_then}
use Rattle.std.specs.List.{list_any}
use Rattle.std.proofs.Math.Seq.{drop-append_seam}
use Rattle.spark_base.specs.Lists.{Has}
use Rattle.type_definitions.specs.declared.table.Shape.{Shape}
use Rattle.type_definitions.specs.declared.table.Shape.TheVariants as shape
use Rattle.type_definitions.specs.Types.{Table, shape_of, words}
use Rattle.typed_tree.specs.Trees.{TypedTree}
use Rattle.flow_paths.specs.Objects.{Typing, object_at}
use Rattle.flow_paths.specs.Instructions.{Instruction, Declare, Start}
use Rattle.flow_paths.specs.Names.{waiting}
use Rattle.flow_paths.specs.Points.{FlowPoint}
use Rattle.flow_paths.specs.Laid.{FlowSub, FlowProgram, flow_typing}
use Rattle.machine.specs.Words.{default}
use Rattle.machine.specs.Typed.{Sort, sorts}
use Rattle.machine.specs.Memory.{Slot, fresh}
use Rattle.machine.specs.Evaluate.{AsValue}
use Rattle.machine.specs.States.{sub_of, stack_words}
use Rattle.machine.specs.States as machine
use Rattle.machine.specs.Run.{no_point}
use Rattle.run_codes.specs.Codes.{Does, Room, Object, Counter}
use Rattle.run_codes.specs.Codes as codes
use Rattle.run_codes.specs.Flat.{default_words}
use Rattle.run_codes.specs.Lowered.{Kept, kept_words, lowered, Scalar, scalar_of}
use Rattle.run_codes.specs.Programs.{kept, has_room, room_of, rooms_of, objects_of, rooms, Around, typing, type_of, own_loop, does, started, on_next, scalar_code, with_takes, point_takes, sub_rows, Program}
use Rattle.run_codes.specs.Points.{room_words, template, sub_at, no_sub}
use Rattle.run_codes.specs.Related.{AllStand, IsTable, Lying, lying_sorts}
use Rattle.run_codes.proofs.Parts.{many}
use Rattle.run_codes.proofs.Places.{impossible}
use Rattle.run_codes.proofs.Expressions.{and_then_some}
use Rattle.run_fills.specs.Filled.{HasParts}
use Rattle.run_fills.proofs.Values.{default_value}
use Rattle.run_points.specs.States.{LoopAt, first_point, lyings, with_loop, loop_from, loops_from}
use Rattle.run_points.specs.Turns.{IsLowered, around_sub}
use Rattle.run_points.specs.Frames.{AreDifferent}
use Rattle.run_points.proofs.Tests.{mapped}
use Rattle.run_points.proofs.Rooms.{room_total, AreRooms, AreOneWord}

-- ---- the words

abbrev pub counter_words : Bool → List ℤ
counter_words true = pos 1 ∷ pos 0 ∷ pos 1 ∷ []
counter_words false = []

abbrev pub room_template : Typing → List Kept → List ℤ
room_template s [] = []
room_template s (k ∷ all) = default_words s.table (object_at s k.object).of ++ (counter_words k.loops ++ room_template s all)

room_by : (s : Typing) (k : Kept) (b : Bool) (all : List Kept) → flat_map (room_words s.table) (rooms s all) ≡ room_template s all
    → flat_map (room_words s.table) ((Object (object_at s k.object).of ∷ (if b then Counter ∷ [] else [])) ++ rooms s all)
    ≡ default_words s.table (object_at s k.object).of ++ (counter_words b ++ room_template s all)
room_by s k true all rest = ap (λ l. default_words s.table (object_at s k.object).of ++ ((pos 1 ∷ pos 0 ∷ pos 1 ∷ []) ++ l)) rest
room_by s k false all rest = ap (λ l. default_words s.table (object_at s k.object).of ++ l) rest

rooms_template : (s : Typing) (all : List Kept) → flat_map (room_words s.table) (rooms s all) ≡ room_template s all
rooms_template s [] = refl
rooms_template s (k ∷ all) = room_by s k k.loops all (rooms_template s all)

-- ---- they stand for slots

stand_more : (table : Table) (made : List ℕ) (all : List Sort) (xs : List Slot) (zs more : List ℤ) → AllStand table made all xs zs → AllStand table made all xs (zs ++ more)
stand_more table made [] xs zs more is = tt
stand_more table made (s ∷ all) [] zs more is = absurd is
stand_more table made (s ∷ all) (x ∷ xs) [] more is = absurd is
stand_more table made (s ∷ all) (x ∷ xs) (z ∷ zs) more is = (is.0, stand_more table made all xs zs more is.1)

default_long : (table : Table) → HasParts table → (t : ℕ) → length (default_words table t) ≡ words table t
default_long table parts t = (default_value table [] parts t).numbers ∙ many table t

counter_long : (b : Bool) → length (counter_words b) ≡ (if b then 3 else 0)
counter_long true = refl
counter_long false = refl

-- The words of an object and its loop stand before those that follow.
room_seam : (s : Typing) (front : List ℤ) (k : Kept) (all : List Kept)
    → front ++ (default_words s.table (object_at s k.object).of ++ (counter_words k.loops ++ room_template s all))
    ≡ (front ++ (default_words s.table (object_at s k.object).of ++ counter_words k.loops)) ++ room_template s all
room_seam s front k all =
    ap (λ l. front ++ l) (sym (append_assoc (default_words s.table (object_at s k.object).of) (counter_words k.loops) (room_template s all)))
    ∙ sym (append_assoc front (default_words s.table (object_at s k.object).of ++ counter_words k.loops) (room_template s all))

room_long : (s : Typing) → HasParts s.table → (front : List ℤ) (k : Kept) (p : ℕ) → p ≡ length front
    → p + kept_words s k ≡ length (front ++ (default_words s.table (object_at s k.object).of ++ counter_words k.loops))
room_long s parts front k p at =
    let a = length-append front (default_words s.table (object_at s k.object).of ++ counter_words k.loops) in
    let b = length-append (default_words s.table (object_at s k.object).of) (counter_words k.loops) in
    let c = default_long s.table parts (object_at s k.object).of in
    let d = counter_long k.loops in
    omega (arith, at, a, b, c, d)

pub template_long : (s : Typing) → HasParts s.table → (all : List Kept) → length (room_template s all) ≡ room_total s all
template_long s parts [] = refl
template_long s parts (k ∷ all) =
    let a = length-append (default_words s.table (object_at s k.object).of) (counter_words k.loops ++ room_template s all) in
    let b = length-append (counter_words k.loops) (room_template s all) in
    let c = default_long s.table parts (object_at s k.object).of in
    let d = counter_long k.loops in
    let rest = template_long s parts all in
    omega (arith, a, b, c, d, rest)

dropped : (front rest : List ℤ) (p : ℕ) → p ≡ length front → drop p (front ++ rest) ≡ rest
dropped front rest p at = ap (λ n. drop n (front ++ rest)) at ∙ drop-append_seam front rest

pub room_stands : (s : Typing) → HasParts s.table → (made : List ℕ) (d : ℕ) (all : List Kept) (front : List ℤ) (p : ℕ) → p ≡ length front → (l : Lying) → Has (lyings s d p all) l
    → AllStand s.table made (lying_sorts s l) (fresh (default s.table (object_at s l.object).of)) (drop l.at (front ++ room_template s all))
room_stands s parts made d [] front p at l has = absurd has
room_stands s parts made d (k ∷ all) front p at l has = elim has [
  | inl same ↦ (
      let t : ℕ = (object_at s k.object).of in
      subst (λ (l : Lying). AllStand s.table made (lying_sorts s l) (fresh (default s.table (object_at s l.object).of)) (drop l.at (front ++ room_template s (k ∷ all)))) same
      (subst (λ zs. AllStand s.table made (sorts s.table t) (fresh (default s.table t)) zs) (sym (dropped front (room_template s (k ∷ all)) p at))
      (stand_more s.table made (sorts s.table t) (fresh (default s.table t)) (default_words s.table t) (counter_words k.loops ++ room_template s all) (default_value s.table made parts t).stand)))
  | inr rest ↦
      subst (λ zs. AllStand s.table made (lying_sorts s l) (fresh (default s.table (object_at s l.object).of)) (drop l.at zs)) (sym (room_seam s front k all))
      (room_stands s parts made d all (front ++ (default_words s.table (object_at s k.object).of ++ counter_words k.loops)) (p + kept_words s k) (room_long s parts front k p at) l rest)
]

loop_cases : (b : Bool) (first c : LoopAt) (all : List LoopAt) → Has (with_loop b first all) c → ((b ≡ true) × (first ≡ c)) ⊎ Has all c
loop_cases true first c all has = elim has [
  | inl same ↦ inl (refl, same)
  | inr rest ↦ inr rest
]
loop_cases false first c all has = inr has

-- A loop that hasn't started.
pub room_loops : (s : Typing) → HasParts s.table → (d : ℕ) (all : List Kept) (front : List ℤ) (p : ℕ) → p ≡ length front → (c : LoopAt) → Has (loops_from s d p all) c
    → take 3 (drop c.at (front ++ room_template s all)) ≡ pos 1 ∷ pos 0 ∷ pos 1 ∷ []
room_loops s parts d [] front p at c has = absurd has
room_loops s parts d (k ∷ all) front p at c has = elim (loop_cases k.loops (loop_from s d p k) c (loops_from s d (p + kept_words s k) all) has) [
  | inl first ↦ (
      let t : ℕ = (object_at s k.object).of in
      let long : p + words s.table t ≡ length (front ++ default_words s.table t) =
      (let a = length-append front (default_words s.table t) in let b = default_long s.table parts t in omega (arith, at, a, b)) in
      ap (λ (c : LoopAt). take 3 (drop c.at (front ++ room_template s (k ∷ all)))) (sym first.1)
      ∙ ap (λ l. take 3 (drop (p + words s.table t) l)) (sym (append_assoc front (default_words s.table t) (counter_words k.loops ++ room_template s all)))
      ∙ ap (take 3) (dropped (front ++ default_words s.table t) (counter_words k.loops ++ room_template s all) (p + words s.table t) long)
      ∙ ap (λ b. take 3 (counter_words b ++ room_template s all)) first.0)
  | inr rest ↦
      ap (λ l. take 3 (drop c.at l)) (room_seam s front k all)
      ∙ room_loops s parts d all (front ++ (default_words s.table (object_at s k.object).of ++ counter_words k.loops)) (p + kept_words s k) (room_long s parts front k p at) c rest
]

-- ---- no object has room twice

neither : (a b : Bool) → (a || b) ≡ false → (a ≡ false) × (b ≡ false)
neither false b is = (refl, is)
neither true b is = absurd (never is)
  where
    never : true ≡ false → ⊥
    never x = cc

turned : (a b : ℕ) → (a == b) ≡ false → (b == a) ≡ false
turned a b is = grind arith

no_room_with : (x : ℕ) (k : Kept) (all : List Kept) → has_room x all ≡ false → (k.object == x) ≡ false → has_room x (all ++ k ∷ []) ≡ false
no_room_with x k [] lacks other = ap (λ b. b || false) other
no_room_with x k (j ∷ all) lacks other =
    let both = neither (j.object == x) (has_room x all) lacks in
    ap (λ b. b || has_room x (all ++ k ∷ [])) both.0 ∙ no_room_with x k all both.1 other

rooms_with : (k : Kept) (all : List Kept) → AreRooms all → has_room k.object all ≡ false → AreRooms (all ++ k ∷ [])
rooms_with k [] rooms lacks = (refl, tt)
rooms_with k (j ∷ all) rooms lacks =
    let both = neither (j.object == k.object) (has_room k.object all) lacks in
    (no_room_with j.object k all rooms.0 (turned j.object k.object both.0), rooms_with k all rooms.1 both.1)

with_by : (k : Kept) (all : List Kept) → AreRooms all → (b : Bool) → has_room k.object all ≡ b → AreRooms (if b then all else all ++ k ∷ [])
with_by k all rooms true has = rooms
with_by k all rooms false lacks = rooms_with k all rooms lacks

room_rooms : (i : Instruction) (all : List Kept) → AreRooms all → AreRooms (room_of i all)
room_rooms (Declare x v) all is = with_by (kept x false) all is (has_room x all) refl
room_rooms (Start x reversed low high) all is = with_by (kept x true) all is (has_room x all) refl
room_rooms _ all is = is

points_rooms : (points : List FlowPoint) (all : List Kept) → AreRooms all → AreRooms (rooms_of points all)
points_rooms [] all is = is
points_rooms (p ∷ rest) all is = points_rooms rest (room_of p.instr all) (room_rooms p.instr all is)

formal_lacks : (x : ℕ) (formals : List ℕ) → list_any (λ y. y == x) formals ≡ false → has_room x (map (λ x. kept x false) formals) ≡ false
formal_lacks x [] is = refl
formal_lacks x (y ∷ formals) is =
    let both = neither (y == x) (list_any (λ y. y == x) formals) is in
    ap (λ b. b || has_room x (map (λ x. kept x false) formals)) both.0 ∙ formal_lacks x formals both.1

formal_rooms : (formals : List ℕ) → AreDifferent formals → AreRooms (map (λ x. kept x false) formals)
formal_rooms [] is = tt
formal_rooms (x ∷ formals) is = (formal_lacks x formals is.0, formal_rooms formals is.1)

pub are_rooms : (sub : FlowSub) → AreDifferent sub.formals → AreRooms (objects_of sub)
are_rooms sub is = points_rooms sub.points (map (λ x. kept x false) sub.formals) (formal_rooms sub.formals is)

-- ---- parameters of loops have one word

abbrev StartsOne : Typing → Instruction → Type 0
StartsOne s (Start x reversed low high) = words s.table (object_at s x).of ≡ 1
StartsOne s _ = Unit {0}

abbrev AreStarts : Typing → List FlowPoint → Type 0
AreStarts s points = (i : ℕ) → i < length points → StartsOne s (get_or points i no_point).instr

has_with : (k j : Kept) (all : List Kept) → Has (all ++ k ∷ []) j → Has all j ⊎ (k ≡ j)
has_with k j [] has = elim has [
  | inl same ↦ inr same
  | inr rest ↦ absurd rest
]
has_with k j (i ∷ all) has = elim has [
  | inl same ↦ inl (inl same)
  | inr rest ↦ elim (has_with k j all rest) [
    | inl more ↦ inl (inr more)
    | inr last ↦ inr last
  ]
]

one_by : (s : Typing) (k : Kept) (all : List Kept) → AreOneWord s all → (k.loops ≡ true → words s.table (object_at s k.object).of ≡ 1) → (b : Bool) → AreOneWord s (if b then all else all ++ k ∷ [])
one_by s k all is one true j has loops = is j has loops
one_by s k all is one false j has loops = elim (has_with k j all has) [
  | inl old ↦ is j old loops
  | inr same ↦
      subst (λ (j : Kept). words s.table (object_at s j.object).of ≡ 1) same (one (ap (λ (j : Kept). j.loops) same ∙ loops))
]

never : {A : Type 0} → false ≡ true → A
never is = absurd (no_way is)
  where
    no_way : false ≡ true → ⊥
    no_way x = cc

room_one : (s : Typing) (i : Instruction) (all : List Kept) → StartsOne s i → AreOneWord s all → AreOneWord s (room_of i all)
room_one s (Declare x v) all one is = one_by s (kept x false) all is (λ loops. never loops) (has_room x all)
room_one s (Start x reversed low high) all one is = one_by s (kept x true) all is (λ loops. one) (has_room x all)
room_one s _ all one is = is

points_one : (s : Typing) (points : List FlowPoint) (all : List Kept) → AreStarts s points → AreOneWord s all → AreOneWord s (rooms_of points all)
points_one s [] all starts is = is
points_one s (p ∷ rest) all starts is =
    points_one s rest (room_of p.instr all) (λ i lt. starts (suc i) (omega (arith, lt))) (room_one s p.instr all (starts 0 (first (length rest))) is)
  where
    first : (n : ℕ) → 0 < suc n
    first n = omega arith

formals_one : (s : Typing) (formals : List ℕ) → AreOneWord s (map (λ x. kept x false) formals)
formals_one s [] k has loops = absurd has
formals_one s (x ∷ formals) k has loops = elim has [
  | inl same ↦ never (ap (λ (k : Kept). k.loops) same ∙ loops)
  | inr rest ↦ formals_one s formals k rest loops
]

scalar_words : (table : Table) → IsTable table → (t : ℕ) (sh : Shape) (c : Scalar) → shape_of table t ≡ sh → scalar_of sh ≡ Some c → words table t ≡ 1
scalar_words table laws t (shape.Whole low high) c is sure = sym (many table t) ∙ ap (λ (l : List Sort). length l) (laws.whole t low high is)
scalar_words table laws t (shape.Listed literals low high) c is sure = sym (many table t) ∙ ap (λ (l : List Sort). length l) (laws.listed t low high literals is)
scalar_words table laws t (shape.Access d constant named) c is sure = impossible c sure
scalar_words table laws t (shape.Fields components) c is sure = impossible c sure
scalar_words table laws t (shape.Elements low high element) c is sure = impossible c sure
scalar_words table laws t (shape.Same of) c is sure = impossible c sure

-- A loop that is lowered has a parameter of a scalar type.
abbrev start_does : Around → FlowPoint → TypedTree → TypedTree → ℕ → Scalar → Option Does
start_does a p low high at s =
    option_and_then (λ l. option_and_then (λ h. on_next a p (λ n. Some (codes.Start at (at + 1) l h s.low s.high n)))
    (option_and_then (scalar_code s.sort) (lowered a.site (waiting low) AsValue high)))
    (option_and_then (scalar_code s.sort) (lowered a.site 0 AsValue low))

start_one : (a : Around) → IsTable (typing a).table → (p : FlowPoint) (x : ℕ) (low high : TypedTree) (d : Does) → started a p x low high ≡ Some d → words (typing a).table (type_of a x) ≡ 1
start_one a laws p x low high d is =
    let at = and_then_some (λ at. option_and_then (start_does a p low high at) (scalar_of (shape_of (typing a).table (type_of a x)))) (own_loop a x) d is in
    let s = and_then_some (start_does a p low high at.0) (scalar_of (shape_of (typing a).table (type_of a x))) d at.2 in
    scalar_words (typing a).table laws (type_of a x) (shape_of (typing a).table (type_of a x)) s.0 refl s.1

starts_one : (a : Around) → IsTable (typing a).table → (p : FlowPoint) (i : Instruction) (d : Does) → does a p i ≡ Some d → StartsOne (typing a) i
starts_one a laws p (Start x reversed low high) d is = start_one a laws p x low high d is
starts_one a laws p _ d is = tt

pub are_one_word : (program : FlowProgram) (p : Program) → IsTable (flow_typing program).table → IsLowered program p → (n : ℕ) → nat_lt stack_words (sub_of program n).words ≡ false
    → AreOneWord (flow_typing program) (objects_of (sub_of program n))
are_one_word program p laws lowers n few =
    points_one (flow_typing program) (sub_of program n).points (map (λ x. kept x false) (sub_of program n).formals) starts (formals_one (flow_typing program) (sub_of program n).formals)
  where
    starts : AreStarts (flow_typing program) (sub_of program n).points
    starts i lt =
        let fp : FlowPoint = get_or (sub_of program n).points i no_point in
        let takes : List ℕ = point_takes (flow_typing program) fp.instr in
        let q = lowers.points n i lt few in
        let d = mapped (λ d. record { takes = takes; does = d; pos = fp.pos }) (does (with_takes (around_sub program n) takes) fp fp.instr) q.0 q.2 in
        starts_one (with_takes (around_sub program n) takes) laws fp fp.instr d.0 d.1

-- ---- the subprogram that is lowered

rooms_row : (s : Typing) (subs : List FlowSub) (k n : ℕ) → (get_or (sub_rows s k subs) n no_sub).rooms ≡ rooms s (objects_of (get_or subs n machine.no_sub))
rooms_row s [] k n = refl
rooms_row s (sub ∷ rest) k zero = refl
rooms_row s (sub ∷ rest) k (suc n) = rooms_row s rest (k + length sub.points) n

pub formals_row : (s : Typing) (subs : List FlowSub) (k n : ℕ) → (get_or (sub_rows s k subs) n no_sub).formals ≡ map (λ x. (object_at s x).of) (get_or subs n machine.no_sub).formals
formals_row s [] k n = refl
formals_row s (sub ∷ rest) k zero = refl
formals_row s (sub ∷ rest) k (suc n) = formals_row s rest (k + length sub.points) n

pub words_row : (s : Typing) (subs : List FlowSub) (k n : ℕ) → (get_or (sub_rows s k subs) n no_sub).words ≡ (get_or subs n machine.no_sub).words
words_row s [] k n = refl
words_row s (sub ∷ rest) k zero = refl
words_row s (sub ∷ rest) k (suc n) = words_row s rest (k + length sub.points) n

-- Where it has a point.
first_row : (s : Typing) (subs : List FlowSub) (k n : ℕ) → 0 < length (get_or subs n machine.no_sub).points → (get_or (sub_rows s k subs) n no_sub).first ≡ k + first_point subs n
first_row s [] k n some = absurd (omega (arith, some))
first_row s (sub ∷ rest) k zero some = none k
  where
    none : (k : ℕ) → k ≡ k + 0
    none k = omega arith
first_row s (sub ∷ rest) k (suc n) some = first_row s rest (k + length sub.points) n some ∙ sums k (length sub.points) (first_point rest n)
  where
    sums : (a b c : ℕ) → a + b + c ≡ a + (b + c)
    sums a b c = omega arith

pub template_is : (program : FlowProgram) (p : Program) → IsLowered program p → (n : ℕ) → template (flow_typing program).table (sub_at p n) ≡ room_template (flow_typing program) (objects_of (sub_of program n))
template_is program p lowers n =
    ap (λ rows. template (flow_typing program).table (get_or rows n no_sub)) lowers.subs
    ∙ ap (λ rows. flat_map (room_words (flow_typing program).table) rows) (rooms_row (flow_typing program) program.subs 0 n)
    ∙ rooms_template (flow_typing program) (objects_of (sub_of program n))

pub first_is : (program : FlowProgram) (p : Program) → IsLowered program p → (n : ℕ) → 0 < length (sub_of program n).points → (sub_at p n).first ≡ first_point program.subs n + 0
first_is program p lowers n some =
    ap (λ rows. (get_or rows n no_sub).first) lowers.subs ∙ first_row (flow_typing program) program.subs 0 n some ∙ turn (first_point program.subs n)
  where
    turn : (a : ℕ) → 0 + a ≡ a + 0
    turn a = omega arith

pub words_are : (program : FlowProgram) (p : Program) → IsLowered program p → (n : ℕ) → (sub_at p n).words ≡ (sub_of program n).words
words_are program p lowers n = ap (λ rows. (get_or rows n no_sub).words) lowers.subs ∙ words_row (flow_typing program) program.subs 0 n

pub formals_are : (program : FlowProgram) (p : Program) → IsLowered program p → (n : ℕ) → (sub_at p n).formals ≡ map (λ x. (object_at (flow_typing program) x).of) (sub_of program n).formals
formals_are program p lowers n = ap (λ rows. (get_or rows n no_sub).formals) lowers.subs ∙ formals_row (flow_typing program) program.subs 0 n
