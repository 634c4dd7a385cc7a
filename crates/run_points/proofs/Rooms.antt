-- Where the objects of a frame and its loops lie: one after the other, so that no two share a word.
use Rattle.std.proofs.Common.{◌≡◌, ◌⊎◌, inl, inr, ℕ, ◌+◌, ◌≤◌, true, false, Bool, ◌&&◌, ◌||◌, List, [], ◌∷◌, length, refl, sym, ap, subst, ◌∙◌, arith, Some, if◌then◌else◌}
use Rattle.std.specs.Prelude.{◌==◌}
use Rattle.spark_base.specs.Lists.{Has}
use Rattle.type_definitions.specs.Types.{words}
use Rattle.flow_paths.specs.Objects.{Typing, object_at}
use Rattle.run_codes.specs.Lowered.{Kept, kept_words, offset_from}
use Rattle.run_codes.specs.Programs.{has_room, rooms, is_loop}
use Rattle.run_codes.specs.Related.{Lying, lying_sorts, IsBefore, IsSame}
use Rattle.run_codes.proofs.Parts.{many}
use Rattle.run_codes.proofs.Places.{impossible, some_same}
use Rattle.run_points.specs.States.{LoopAt, IsSameLoop, lyings, with_loop, loop_from, loops_from}

-- ---- where they lie

abbrev pub room_total : Typing → List Kept → ℕ
room_total s [] = 0
room_total s (k ∷ all) = kept_words s k + room_total s all

-- No object has room twice.
abbrev pub AreRooms : List Kept → Type 0
AreRooms [] = Unit {0}
AreRooms (k ∷ all) = (has_room k.object all ≡ false) × AreRooms all

-- The parameters of loops have one word.
abbrev pub AreOneWord : Typing → List Kept → Type 0
AreOneWord s all = (k : Kept) → Has all k → k.loops ≡ true → words s.table (object_at s k.object).of ≡ 1

-- ---- offsets

same_number : (a b : ℕ) → (a == b) ≡ true → a ≡ b
same_number a b is = grind arith

abbrev lying : ℕ → ℕ → ℕ → Lying
lying d x at = record { frame = d; object = x; at = at }

there_by : (s : Typing) (d base at p : ℕ) (k : Kept) (all : List Kept) (x o : ℕ) → p ≡ base + at
    → (offset_from s (at + kept_words s k) all x ≡ Some o → Has (lyings s d (p + kept_words s k) all) (lying d x (base + o)))
    → (b : Bool) → (k.object == x) ≡ b → (if b then Some at else offset_from s (at + kept_words s k) all x) ≡ Some o
    → Has (lyings s d p (k ∷ all)) (lying d x (base + o))
there_by s d base at p k all x o from rest true same is =
    inl (ap (λ y. lying d y p) (same_number k.object x same) ∙ ap (λ i. lying d x i) (from ∙ ap (λ i. base + i) (some_same at o is)))
there_by s d base at p k all x o from rest false other is = inr (rest is)

pub offset_there : (s : Typing) (d base at p : ℕ) (all : List Kept) (x o : ℕ) → p ≡ base + at → offset_from s at all x ≡ Some o → Has (lyings s d p all) (lying d x (base + o))
offset_there s d base at p [] x o from is = impossible o is
offset_there s d base at p (k ∷ all) x o from is =
    there_by s d base at p k all x o from (λ is. offset_there s d base (at + kept_words s k) (p + kept_words s k) all x o (omega (arith, from)) is) (k.object == x) refl is

loop_later : (b : Bool) (c x : LoopAt) (all : List LoopAt) → Has all x → Has (with_loop b c all) x
loop_later true c x all has = inr has
loop_later false c x all has = has

loop_first : (b : Bool) (c : LoopAt) (all : List LoopAt) → b ≡ true → Has (with_loop b c all) c
loop_first true c all is = inl refl
loop_first false c all is = absurd (never is)
  where
    never : false ≡ true → ⊥
    never x = cc

abbrev counter : ℕ → ℕ → ℕ → LoopAt
counter d x at = record { frame = d; parameter = x; at = at }

loop_by : (s : Typing) (d base at p : ℕ) (k : Kept) (all : List Kept) (x o : ℕ) → p ≡ base + at → (k.loops ≡ true → words s.table (object_at s k.object).of ≡ 1)
    → (is_loop x all ≡ true → offset_from s (at + kept_words s k) all x ≡ Some o → Has (loops_from s d (p + kept_words s k) all) (counter d x (base + (o + 1))))
    → (b : Bool) → (k.object == x) ≡ b → (if b then k.loops else is_loop x all) ≡ true → (if b then Some at else offset_from s (at + kept_words s k) all x) ≡ Some o
    → Has (loops_from s d p (k ∷ all)) (counter d x (base + (o + 1)))
loop_by s d base at p k all x o from one rest true same loops is =
    let size = one loops in
    let at_is = some_same at o is in
    subst (λ c. Has (loops_from s d p (k ∷ all)) c)
    (ap (λ y. counter d y (p + words s.table (object_at s k.object).of)) (same_number k.object x same) ∙ ap (λ i. counter d x i) (placed p (words s.table (object_at s k.object).of) base at o from size at_is))
    (loop_first k.loops (loop_from s d p k) (loops_from s d (p + kept_words s k) all) loops)
  where
    placed : (p w base at o : ℕ) → p ≡ base + at → w ≡ 1 → at ≡ o → p + w ≡ base + (o + 1)
    placed p w base at o from size same = omega (arith, from, size, same)
loop_by s d base at p k all x o from one rest false other loops is = loop_later k.loops (loop_from s d p k) (counter d x (base + (o + 1))) (loops_from s d (p + kept_words s k) all) (rest loops is)

pub loop_there : (s : Typing) (d base at p : ℕ) (all : List Kept) (x o : ℕ) → p ≡ base + at → AreOneWord s all → is_loop x all ≡ true → offset_from s at all x ≡ Some o
    → Has (loops_from s d p all) (counter d x (base + (o + 1)))
loop_there s d base at p [] x o from one loops is = impossible o is
loop_there s d base at p (k ∷ all) x o from one loops is =
    loop_by s d base at p k all x o from (λ loops. one k (inl refl) loops)
    (λ loops is. loop_there s d base (at + kept_words s k) (p + kept_words s k) all x o (omega (arith, from)) (λ j has loops. one j (inr has) loops) loops is)
    (k.object == x) refl loops is

-- ---- within the frame

pub record LiesWithin (s : Typing) (d p q : ℕ) (l : Lying) : Type 0 where
  pub frame : l.frame ≡ d
  pub low : p ≤ l.at
  pub high : l.at + length (lying_sorts s l) ≤ q

pub record LoopWithin (d p q : ℕ) (c : LoopAt) : Type 0 where
  pub frame : c.frame ≡ d
  pub low : p ≤ c.at
  pub high : c.at + 3 ≤ q

object_words : (s : Typing) (d p x : ℕ) → length (lying_sorts s (lying d x p)) ≡ words s.table (object_at s x).of
object_words s d p x = many s.table (object_at s x).of

-- An object has not more words than there is room.
size_in : (s : Typing) (d p : ℕ) (k : Kept) → p + length (lying_sorts s (lying d k.object p)) ≤ p + kept_words s k
size_in s d p k = by (if k.loops then 3 else 0) (object_words s d p k.object)
  where
    by : (n : ℕ) → length (lying_sorts s (lying d k.object p)) ≡ words s.table (object_at s k.object).of → p + length (lying_sorts s (lying d k.object p)) ≤ p + (words s.table (object_at s k.object).of + n)
    by n size = omega (arith, size)

pub lies_within : (s : Typing) (d p : ℕ) (all : List Kept) (l : Lying) → Has (lyings s d p all) l → LiesWithin s d p (p + room_total s all) l
lies_within s d p [] l has = absurd has
lies_within s d p (k ∷ all) l has = elim has [
  | inl same ↦ (
      let size = size_in s d p k in
      subst (λ l. LiesWithin s d p (p + (kept_words s k + room_total s all)) l) same (record { frame = refl; low = omega arith; high = omega (arith, size) }))
  | inr rest ↦ (
      let more = lies_within s d (p + kept_words s k) all l rest in
      let low = more.low in
      let high = more.high in
      record { frame = more.frame; low = omega (arith, low); high = omega (arith, high) })
]

-- The loop of a parameter lies after it.
pub record IsFirstLoop (s : Typing) (d p : ℕ) (k : Kept) (c : LoopAt) : Type 0 where
  pub loops : k.loops ≡ true
  pub is : loop_from s d p k ≡ c

loop_cases : (b : Bool) (first c : LoopAt) (all : List LoopAt) → Has (with_loop b first all) c → ((b ≡ true) × (first ≡ c)) ⊎ Has all c
loop_cases true first c all has = elim has [
  | inl same ↦ inl (refl, same)
  | inr rest ↦ inr rest
]
loop_cases false first c all has = inr has

loop_room : (s : Typing) (k : Kept) → k.loops ≡ true → kept_words s k ≡ words s.table (object_at s k.object).of + 3
loop_room s k is = ap (λ b. words s.table (object_at s k.object).of + (if b then 3 else 0)) is

pub loop_within : (s : Typing) (d p : ℕ) (all : List Kept) (c : LoopAt) → Has (loops_from s d p all) c → LoopWithin d p (p + room_total s all) c
loop_within s d p [] c has = absurd has
loop_within s d p (k ∷ all) c has = elim (loop_cases k.loops (loop_from s d p k) c (loops_from s d (p + kept_words s k) all) has) [
  | inl first ↦ (
      let size = loop_room s k first.0 in
      subst (λ c. LoopWithin d p (p + (kept_words s k + room_total s all)) c) first.1 (record { frame = refl; low = omega arith; high = omega (arith, size) }))
  | inr rest ↦ (
      let more = loop_within s d (p + kept_words s k) all c rest in
      let low = more.low in
      let high = more.high in
      record { frame = more.frame; low = omega (arith, low); high = omega (arith, high) })
]

-- ---- objects apart

neither : (a b : Bool) → (a || b) ≡ false → (a ≡ false) × (b ≡ false)
neither false b is = (refl, is)
neither true b is = absurd (never is)
  where
    never : true ≡ false → ⊥
    never x = cc

turned : (a b : ℕ) → (a == b) ≡ false → (b == a) ≡ false
turned a b is = grind arith

and_false : (b : Bool) → (b && false) ≡ false
and_false true = refl
and_false false = refl

not_both : (a b : Bool) → b ≡ false → (a && b) ≡ false
not_both a b is = ap (λ c. a && c) is ∙ and_false a

-- What has no room lies nowhere.
lying_other : (s : Typing) (d p : ℕ) (all : List Kept) (x : ℕ) (l : Lying) → has_room x all ≡ false → Has (lyings s d p all) l → (l.object == x) ≡ false
lying_other s d p [] x l lacks has = absurd has
lying_other s d p (k ∷ all) x l lacks has =
    let both = neither (k.object == x) (has_room x all) lacks in
    elim has [
      | inl same ↦ subst (λ (l : Lying). (l.object == x) ≡ false) same both.0
      | inr rest ↦ lying_other s d (p + kept_words s k) all x l both.1 rest
    ]

loop_other : (s : Typing) (d p : ℕ) (all : List Kept) (x : ℕ) (c : LoopAt) → has_room x all ≡ false → Has (loops_from s d p all) c → (c.parameter == x) ≡ false
loop_other s d p [] x c lacks has = absurd has
loop_other s d p (k ∷ all) x c lacks has =
    let both = neither (k.object == x) (has_room x all) lacks in
    elim (loop_cases k.loops (loop_from s d p k) c (loops_from s d (p + kept_words s k) all) has) [
      | inl first ↦ subst (λ (c : LoopAt). (c.parameter == x) ≡ false) first.1 both.0
      | inr rest ↦ loop_other s d (p + kept_words s k) all x c both.1 rest
    ]

abbrev pub LyingsApart : Typing → Lying → Lying → Type 0
LyingsApart s l k = IsSame l k ⊎ ((((l.frame == k.frame) && (l.object == k.object)) ≡ false) × (IsBefore s l k ⊎ IsBefore s k l))

abbrev pub LoopPair : LoopAt → LoopAt → Type 0
LoopPair b c = IsSameLoop b c ⊎ ((((b.frame == c.frame) && (b.parameter == c.parameter)) ≡ false) × ((b.at + 3 ≤ c.at) ⊎ (c.at + 3 ≤ b.at)))

-- The first one, and one that lies after it.
first_before : (s : Typing) (d p : ℕ) (k : Kept) (all : List Kept) (l : Lying) → Has (lyings s d (p + kept_words s k) all) l → IsBefore s (lying d k.object p) l
first_before s d p k all l has =
    let more = lies_within s d (p + kept_words s k) all l has in
    let size = size_in s d p k in
    let low = more.low in
    omega (arith, size, low)

pub lyings_apart : (s : Typing) (d p : ℕ) (all : List Kept) → AreRooms all → (l j : Lying) → Has (lyings s d p all) l → Has (lyings s d p all) j → LyingsApart s l j
lyings_apart s d p [] rooms l j has other = absurd has
lyings_apart s d p (k ∷ all) rooms l j has other = elim has [
  | inl same ↦ elim other [
    | inl twin ↦ (
        let one : l ≡ j = sym same ∙ twin in
        inl (ap (λ (l : Lying). l.frame) one, ap (λ (l : Lying). l.object) one, ap (λ (l : Lying). l.at) one))
    | inr rest ↦
        subst (λ l. LyingsApart s l j) same
        (inr (
          not_both (d == j.frame) (k.object == j.object) (turned j.object k.object (lying_other s d (p + kept_words s k) all k.object j rooms.0 rest)),
          inl (first_before s d p k all j rest),
        ))
  ]
  | inr first ↦ elim other [
    | inl twin ↦
        subst (λ j. LyingsApart s l j) twin
        (inr (
          not_both (l.frame == d) (l.object == k.object) (lying_other s d (p + kept_words s k) all k.object l rooms.0 first),
          inr (first_before s d p k all l first),
        ))
    | inr rest ↦ lyings_apart s d (p + kept_words s k) all rooms.1 l j first rest
  ]
]

-- ---- loops apart

pub loop_object : (s : Typing) (d p : ℕ) (all : List Kept) (l : Lying) (c : LoopAt) → Has (lyings s d p all) l → Has (loops_from s d p all) c
    → (l.at + length (lying_sorts s l) ≤ c.at) ⊎ (c.at + 3 ≤ l.at)
loop_object s d p [] l c has loop = absurd has
loop_object s d p (k ∷ all) l c has loop = elim has [
  | inl same ↦ elim (loop_cases k.loops (loop_from s d p k) c (loops_from s d (p + kept_words s k) all) loop) [
    | inl first ↦
        subst (λ (l : Lying). (l.at + length (lying_sorts s l) ≤ c.at) ⊎ (c.at + 3 ≤ l.at)) same
        (subst (λ (c : LoopAt). (p + length (lying_sorts s (lying d k.object p)) ≤ c.at) ⊎ (c.at + 3 ≤ p)) first.1
        (inl (let size = object_words s d p k.object in omega (arith, size))))
    | inr rest ↦
        subst (λ (l : Lying). (l.at + length (lying_sorts s l) ≤ c.at) ⊎ (c.at + 3 ≤ l.at)) same
        (inl (let more = loop_within s d (p + kept_words s k) all c rest in let size = size_in s d p k in let low = more.low in omega (arith, size, low)))
  ]
  | inr after ↦ elim (loop_cases k.loops (loop_from s d p k) c (loops_from s d (p + kept_words s k) all) loop) [
    | inl first ↦
        subst (λ (c : LoopAt). (l.at + length (lying_sorts s l) ≤ c.at) ⊎ (c.at + 3 ≤ l.at)) first.1
        (inr (let more = lies_within s d (p + kept_words s k) all l after in let size = loop_room s k first.0 in let low = more.low in omega (arith, size, low)))
    | inr rest ↦ loop_object s d (p + kept_words s k) all l c after rest
  ]
]

loop_before : (s : Typing) (d p : ℕ) (k : Kept) (all : List Kept) (c : LoopAt) → k.loops ≡ true → Has (loops_from s d (p + kept_words s k) all) c → p + words s.table (object_at s k.object).of + 3 ≤ c.at
loop_before s d p k all c loops has =
    let more = loop_within s d (p + kept_words s k) all c has in
    let size = loop_room s k loops in
    let low = more.low in
    omega (arith, size, low)

pub loops_apart : (s : Typing) (d p : ℕ) (all : List Kept) → AreRooms all → (b c : LoopAt) → Has (loops_from s d p all) b → Has (loops_from s d p all) c → LoopPair b c
loops_apart s d p [] rooms b c has other = absurd has
loops_apart s d p (k ∷ all) rooms b c has other = elim (loop_cases k.loops (loop_from s d p k) b (loops_from s d (p + kept_words s k) all) has) [
  | inl first ↦ elim (loop_cases k.loops (loop_from s d p k) c (loops_from s d (p + kept_words s k) all) other) [
    | inl twin ↦ (
        let one : b ≡ c = sym first.1 ∙ twin.1 in
        inl (ap (λ (c : LoopAt). c.frame) one, ap (λ (c : LoopAt). c.parameter) one, ap (λ (c : LoopAt). c.at) one))
    | inr rest ↦
        subst (λ b. LoopPair b c) first.1
        (inr (
          not_both (d == c.frame) (k.object == c.parameter) (turned c.parameter k.object (loop_other s d (p + kept_words s k) all k.object c rooms.0 rest)),
          inl (loop_before s d p k all c first.0 rest),
        ))
  ]
  | inr first ↦ elim (loop_cases k.loops (loop_from s d p k) c (loops_from s d (p + kept_words s k) all) other) [
    | inl twin ↦
        subst (λ c. LoopPair b c) twin.1
        (inr (
          not_both (b.frame == d) (b.parameter == k.object) (loop_other s d (p + kept_words s k) all k.object b rooms.0 first),
          inr (loop_before s d p k all b twin.0 first),
        ))
    | inr rest ↦ loops_apart s d (p + kept_words s k) all rooms.1 b c first rest
  ]
]
