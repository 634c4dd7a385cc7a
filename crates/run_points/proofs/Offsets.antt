-- The formals of a subprogram stand first in its frame, one after the other.
use Rattle.std.proofs.Common.{◌≡◌, ℕ, ◌+◌, true, false, Bool, ◌||◌, List, [], ◌∷◌, ◌++◌, map, length, refl, sym, ap, subst, ◌∙◌, arith, Some, append_assoc, append-nil, if◌then◌else◌}
use Rattle.std.specs.Prelude.{◌==◌}
use Rattle.std.specs.List.{list_any}
use Rattle.std.proofs.lemmas.List.{length-map}
use Rattle.type_definitions.specs.Types.{words}
use Rattle.flow_paths.specs.Objects.{Typing, object_at}
use Rattle.flow_paths.specs.Instructions.{Instruction, Declare, Start}
use Rattle.flow_paths.specs.Points.{FlowPoint}
use Rattle.flow_paths.specs.Laid.{FlowSub}
use Rattle.machine.specs.Typed.{sorts}
use Rattle.run_codes.specs.Flat.{kind_of, kinds}
use Rattle.run_codes.specs.Lowered.{Kept, kept_words, offset_from}
use Rattle.run_codes.specs.Programs.{kept, has_room, room_of, rooms_of, objects_of}
use Rattle.run_codes.proofs.Parts.{many}
use Rattle.run_codes.proofs.Places.{impossible}
use Rattle.run_points.specs.Frames.{AreDifferent}
use Rattle.run_points.proofs.Rooms.{room_total}

-- The words of a formal's type.
abbrev pub formal_words : Typing → ℕ → ℕ
formal_words s x = length (kinds s.table (object_at s x).of)

-- Formals stand one after the other from an offset on.
abbrev pub AreFormals : Typing → List Kept → ℕ → List ℕ → Type 0
AreFormals s all at [] = Unit {0}
AreFormals s all at (x ∷ formals) = (offset_from s 0 all x ≡ Some at) × AreFormals s all (at + formal_words s x) formals

-- ---- what stands after them

offset_by : (s : Typing) (at x o : ℕ) (k : Kept) (all more : List Kept) (b : Bool)
    → (offset_from s (at + kept_words s k) all x ≡ Some o → offset_from s (at + kept_words s k) (all ++ more) x ≡ Some o)
    → (if b then Some at else offset_from s (at + kept_words s k) all x) ≡ Some o → (if b then Some at else offset_from s (at + kept_words s k) (all ++ more) x) ≡ Some o
offset_by s at x o k all more true rest is = is
offset_by s at x o k all more false rest is = rest is

offset_before : (s : Typing) (at x o : ℕ) (all more : List Kept) → offset_from s at all x ≡ Some o → offset_from s at (all ++ more) x ≡ Some o
offset_before s at x o [] more is = impossible o is
offset_before s at x o (k ∷ all) more is = offset_by s at x o k all more (k.object == x) (λ is. offset_before s (at + kept_words s k) x o all more is) is

formals_before : (s : Typing) (all more : List Kept) (at : ℕ) (formals : List ℕ) → AreFormals s all at formals → AreFormals s (all ++ more) at formals
formals_before s all more at [] is = tt
formals_before s all more at (x ∷ formals) is = (offset_before s 0 x at all more is.0, formals_before s all more (at + formal_words s x) formals is.1)

-- Those that are declared have room after those that had it.
abbrev Longer : List Kept → List Kept → Type 0
Longer all later = (more : List Kept) × (later ≡ all ++ more)

longer_by : (k : Kept) (all : List Kept) (b : Bool) → Longer all (if b then all else all ++ k ∷ [])
longer_by k all true = ([], sym (append-nil all))
longer_by k all false = (k ∷ [], refl)

room_longer : (i : Instruction) (all : List Kept) → Longer all (room_of i all)
room_longer (Declare x v) all = longer_by (kept x false) all (has_room x all)
room_longer (Start x reversed low high) all = longer_by (kept x true) all (has_room x all)
room_longer _ all = ([], sym (append-nil all))

rooms_longer : (points : List FlowPoint) (all : List Kept) → Longer all (rooms_of points all)
rooms_longer [] all = ([], sym (append-nil all))
rooms_longer (p ∷ rest) all =
    let first = room_longer p.instr all in
    let more = rooms_longer rest (room_of p.instr all) in
    (first.0 ++ more.0, more.1 ∙ ap (λ l. l ++ more.0) first.1 ∙ append_assoc all first.0 more.0)

-- ---- what stands before them

skip_by : (s : Typing) (at x : ℕ) (k : Kept) (front all : List Kept) (b : Bool) → b ≡ false → offset_from s (at + kept_words s k) (front ++ all) x ≡ offset_from s (at + (kept_words s k + room_total s front)) all x
    → (if b then Some at else offset_from s (at + kept_words s k) (front ++ all) x) ≡ offset_from s (at + (kept_words s k + room_total s front)) all x
skip_by s at x k front all true is rest = absurd (never is)
  where
    never : true ≡ false → ⊥
    never z = cc
skip_by s at x k front all false is rest = rest

neither : (a b : Bool) → (a || b) ≡ false → (a ≡ false) × (b ≡ false)
neither false b is = (refl, is)
neither true b is = absurd (never is)
  where
    never : true ≡ false → ⊥
    never x = cc

offset_after : (s : Typing) (at x : ℕ) (front all : List Kept) → has_room x front ≡ false → offset_from s at (front ++ all) x ≡ offset_from s (at + room_total s front) all x
offset_after s at x [] all lacks = ap (λ n. offset_from s n all x) (none at)
  where
    none : (n : ℕ) → n ≡ n + 0
    none n = omega arith
offset_after s at x (k ∷ front) all lacks =
    let both = neither (k.object == x) (has_room x front) lacks in
    skip_by s at x k front all (k.object == x) both.0
    (offset_after s (at + kept_words s k) x front all both.1 ∙ ap (λ n. offset_from s n all x) (sums at (kept_words s k) (room_total s front)))
  where
    sums : (a b c : ℕ) → a + b + c ≡ a + (b + c)
    sums a b c = omega arith

equal : (n : ℕ) → (n == n) ≡ true
equal n = grind arith

-- None of these has room there.
abbrev HaveNone : List Kept → List ℕ → Type 0
HaveNone front [] = Unit {0}
HaveNone front (x ∷ formals) = (has_room x front ≡ false) × HaveNone front formals

turned : (a b : ℕ) → (a == b) ≡ false → (b == a) ≡ false
turned a b is = grind arith

room_with : (x y : ℕ) (front : List Kept) → has_room x front ≡ false → (y == x) ≡ false → has_room x (front ++ kept y false ∷ []) ≡ false
room_with x y [] lacks other = ap (λ b. b || false) other
room_with x y (k ∷ front) lacks other =
    let both = neither (k.object == x) (has_room x front) lacks in
    ap (λ b. b || has_room x (front ++ kept y false ∷ [])) both.0 ∙ room_with x y front both.1 other

none_with : (y : ℕ) (front : List Kept) (formals : List ℕ) → HaveNone front formals → list_any (λ z. z == y) formals ≡ false → HaveNone (front ++ kept y false ∷ []) formals
none_with y front [] is lacks = tt
none_with y front (x ∷ formals) is lacks =
    let both = neither (x == y) (list_any (λ z. z == y) formals) lacks in
    (room_with x y front is.0 (turned x y both.0), none_with y front formals is.1 both.1)

total_with : (s : Typing) (x : ℕ) (front : List Kept) → room_total s (front ++ kept x false ∷ []) ≡ room_total s front + formal_words s x
total_with s x [] = by (words s.table (object_at s x).of) (formal_words s x) (length-map (sorts s.table (object_at s x).of) kind_of ∙ many s.table (object_at s x).of)
  where
    by : (w f : ℕ) → f ≡ w → w + 0 + 0 ≡ 0 + f
    by w f is = omega (arith, is)
total_with s x (k ∷ front) = ap (λ n. kept_words s k + n) (total_with s x front) ∙ sums (kept_words s k) (room_total s front) (formal_words s x)
  where
    sums : (a b c : ℕ) → a + (b + c) ≡ a + b + c
    sums a b c = omega arith

formals_after : (s : Typing) (front : List Kept) (at : ℕ) (formals : List ℕ) → AreDifferent formals → HaveNone front formals → at ≡ room_total s front
    → AreFormals s (front ++ map (λ x. kept x false) formals) at formals
formals_after s front at [] different lacks is = tt
formals_after s front at (x ∷ formals) different lacks is = (
  offset_after s 0 x front (kept x false ∷ map (λ x. kept x false) formals) lacks.0
      ∙ ap (λ b. if b then Some (0 + room_total s front) else offset_from s (0 + room_total s front + kept_words s (kept x false)) (map (λ x. kept x false) formals) x) (equal x)
      ∙ ap (λ n. Some n) (none (room_total s front) ∙ sym is),
  by (formals_after s (front ++ kept x false ∷ []) (at + formal_words s x) formals different.1 (none_with x front formals lacks.1 different.0) (ap (λ n. n + formal_words s x) is ∙ sym (total_with s x front))),
)
  where
    none : (n : ℕ) → 0 + n ≡ n
    none n = omega arith

    by : AreFormals s ((front ++ kept x false ∷ []) ++ map (λ x. kept x false) formals) (at + formal_words s x) formals → AreFormals s (front ++ map (λ x. kept x false) (x ∷ formals)) (at + formal_words s x) formals
    by more = subst (λ l. AreFormals s l (at + formal_words s x) formals) (append_assoc front (kept x false ∷ []) (map (λ x. kept x false) formals)) more

have_none : (formals : List ℕ) → HaveNone [] formals
have_none [] = tt
have_none (x ∷ formals) = (refl, have_none formals)

pub are_formals : (s : Typing) (sub : FlowSub) → AreDifferent sub.formals → AreFormals s (objects_of sub) 0 sub.formals
are_formals s sub different =
    let longer = rooms_longer sub.points (map (λ x. kept x false) sub.formals) in
    subst (λ l. AreFormals s l 0 sub.formals) (sym longer.1)
    (formals_before s (map (λ x. kept x false) sub.formals) longer.0 0 sub.formals (formals_after s [] 0 sub.formals different (have_none sub.formals) refl))
