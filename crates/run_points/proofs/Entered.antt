-- A frame enters: its objects and loops lie above all others, and what stood before stands.
use Rattle.std.proofs.Common.{◌≡◌, ◌⊎◌, inl, inr, ℕ, suc, ◌+◌, ◌≤◌, ◌<◌, true, false, Bool, ◌&&◌, List, [], ◌∷◌, ◌++◌, length, take, drop, refl, sym, ap, subst, ◌∙◌, arith, Some, ℤ, nat_lt, length-append}
use Rattle.std.specs.Prelude.{◌==◌}
use Rattle.std.proofs.lemmas.List.{drop-append-le, take-append-le, length-drop}
use Rattle.spark_base.specs.Lists.{Has}
use Rattle.flow_paths.specs.Objects.{Typing, is_package_object}
use Rattle.flow_paths.specs.Laid.{FlowProgram, flow_typing}
use Rattle.machine.specs.Typed.{Sort}
use Rattle.machine.specs.Memory.{Memory, Place, Slot, OfVariable, slots_at}
use Rattle.machine.specs.States.{sub_of, stack_words, frame_at_start}
use Rattle.machine.specs.States as machine
use Rattle.run_codes.specs.Flat.{Flat, Spot, InStack, InCell}
use Rattle.run_codes.specs.Lowered.{Kept, Site, offset_of, package_offset}
use Rattle.run_codes.specs.Programs.{Program, objects_of, is_loop}
use Rattle.run_codes.specs.Points.{Return, Frame, frame_of, sub_at}
use Rattle.run_codes.specs.Related.{AllStand, types, Lying, lying_sorts, IsSited}
use Rattle.run_codes.proofs.Places.{if_some}
use Rattle.run_points.specs.States.{LoopAt, LoopsApart, PlaceStands, ReturnsStand, Laid, site_of, FrameStands, FramesStand, MemoryStands, lyings, loops_from}
use Rattle.run_points.specs.Turns.{IsLowered, HasTypes}
use Rattle.run_points.specs.Frames.{IsCallable}
use Rattle.run_points.proofs.Rooms.{room_total, AreRooms, offset_there, loop_there, lies_within, loop_within, lyings_apart, loop_object, loops_apart}
use Rattle.run_points.proofs.Templates.{room_template, template_long, room_stands, room_loops, are_one_word, first_is, words_are}

-- ---- lists

pub in_left : {A : Type 0} (xs ys : List A) (a : A) → Has xs a → Has (xs ++ ys) a
in_left [] ys a has = absurd has
in_left (x ∷ xs) ys a has = elim has [
  | inl same ↦ inl same
  | inr rest ↦ inr (in_left xs ys a rest)
]

pub in_right : {A : Type 0} (xs ys : List A) (a : A) → Has ys a → Has (xs ++ ys) a
in_right [] ys a has = has
in_right (x ∷ xs) ys a has = inr (in_right xs ys a has)

pub in_either : {A : Type 0} (xs ys : List A) (a : A) → Has (xs ++ ys) a → Has xs a ⊎ Has ys a
in_either [] ys a has = inr has
in_either (x ∷ xs) ys a has = elim has [
  | inl same ↦ inl (inl same)
  | inr rest ↦ elim (in_either xs ys a rest) [
    | inl more ↦ inl (inr more)
    | inr other ↦ inr other
  ]
]

-- ---- what is laid

-- The objects of a frame with a number, from an index of the stack on, and those that there were.
abbrev pub with_room : Typing → Laid → ℕ → ℕ → List Kept → Laid
with_room s laid d at all = record { objects = lyings s d at all ++ laid.objects; loops = loops_from s d at all ++ laid.loops }

-- ---- the memory

different : (a b : ℕ) → a < b → (b == a) ≡ false
different a b lt = grind arith

other_way : (a b : ℕ) → a < b → (a == b) ≡ false
other_way a b lt = grind arith

first_false : (a b : Bool) → a ≡ false → (a && b) ≡ false
first_false a b is = ap (λ c. c && b) is

-- Words of loops below are as they were.
pub below_kept : (c : ℕ) (stack more : List ℤ) → c + 3 ≤ length stack → take 3 (drop c (stack ++ more)) ≡ take 3 (drop c stack)
below_kept c stack more le =
    ap (take 3) (drop-append-le c stack more (omega (arith, le)))
    ∙ take-append-le 3 (drop c stack) more (let long = length-drop c stack in omega (arith, long, le))

stand_more : (s : Typing) (made : List ℕ) (all : List Sort) (xs : List Slot) (zs more : List ℤ) → AllStand s.table made all xs zs → AllStand s.table made all xs (zs ++ more)
stand_more s made [] xs zs more is = tt
stand_more s made (k ∷ all) [] zs more is = absurd is
stand_more s made (k ∷ all) (x ∷ xs) [] more is = absurd is
stand_more s made (k ∷ all) (x ∷ xs) (z ∷ zs) more is = (is.0, stand_more s made all xs zs more is.1)

pub memory_entered : (program : FlowProgram) (laid : Laid) (d : ℕ) (m : Memory) (f : Flat) (all : List Kept) → HasTypes program → AreRooms all → MemoryStands program laid d m f
    → MemoryStands program (with_room (flow_typing program) laid d (length f.stack) all) (suc d) m (record f { stack = f.stack ++ room_template (flow_typing program) all })
memory_entered program laid d m f all has rooms is = record {
  related = record {
    objects = λ l there. elim (in_either (lyings s d base all) laid.objects l there) [
      | inl new ↦ (
          let within = lies_within s d base all l new in
          subst (λ xs. AllStand s.table (types m) (lying_sorts s l) xs (drop l.at (f.stack ++ room_template s all)))
          (sym (is.undeclared l.frame l.object (same_low d l.frame within.frame)))
          (room_stands s has.parts (types m) d all f.stack base refl l new))
      | inr old ↦ (
          let inside = is.apart.within l old in
          subst (λ zs. AllStand s.table (types m) (lying_sorts s l) (slots_at s m (OfVariable l.frame l.object)) zs)
          (sym (drop-append-le l.at f.stack (room_template s all) (omega (arith, inside))))
          (stand_more s (types m) (lying_sorts s l) (slots_at s m (OfVariable l.frame l.object)) (drop l.at f.stack) (room_template s all) (is.related.objects l old)))
    ];
    cells = is.related.cells;
    counted = record { made = is.related.counted.made; few = is.related.counted.few; live = is.related.counted.live; freed = is.related.counted.freed };
  };
  apart = record {
    within = λ l there. elim (in_either (lyings s d base all) laid.objects l there) [
      | inl new ↦ (let within = lies_within s d base all l new in let high = within.high in omega (arith, high, total))
      | inr old ↦ (let inside = is.apart.within l old in omega (arith, inside, total))
    ];
    apart = λ l k there other. elim (in_either (lyings s d base all) laid.objects l there) [
      | inl new ↦ elim (in_either (lyings s d base all) laid.objects k other) [
        | inl twin ↦ lyings_apart s d base all rooms l k new twin
        | inr old ↦ (
            let within = lies_within s d base all l new in
            let inside = is.apart.within k old in
            let low = within.low in
            inr (first_false (l.frame == k.frame) (l.object == k.object) (ap (λ n. n == k.frame) within.frame ∙ different k.frame d (is.low k old)), inr (omega (arith, low, inside))))
      ]
      | inr old ↦ elim (in_either (lyings s d base all) laid.objects k other) [
        | inl new ↦ (
            let within = lies_within s d base all k new in
            let inside = is.apart.within l old in
            let low = within.low in
            inr (first_false (l.frame == k.frame) (l.object == k.object) (ap (λ n. l.frame == n) within.frame ∙ other_way l.frame d (is.low l old)), inl (omega (arith, low, inside))))
        | inr twin ↦ is.apart.apart l k old twin
      ]
    ];
  };
  loops_apart = record {
    within = λ c there. elim (in_either (loops_from s d base all) laid.loops c there) [
      | inl new ↦ (let within = loop_within s d base all c new in let high = within.high in omega (arith, high, total))
      | inr old ↦ (let inside = is.loops_apart.within c old in omega (arith, inside, total))
    ];
    objects = λ l c there loop. elim (in_either (lyings s d base all) laid.objects l there) [
      | inl new ↦ elim (in_either (loops_from s d base all) laid.loops c loop) [
        | inl twin ↦ loop_object s d base all l c new twin
        | inr old ↦ (
            let within = lies_within s d base all l new in
            let inside = is.loops_apart.within c old in
            let low = within.low in
            inr (omega (arith, low, inside)))
      ]
      | inr old ↦ elim (in_either (loops_from s d base all) laid.loops c loop) [
        | inl new ↦ (
            let within = loop_within s d base all c new in
            let inside = is.apart.within l old in
            let low = within.low in
            inl (omega (arith, low, inside)))
        | inr twin ↦ is.loops_apart.objects l c old twin
      ]
    ];
    apart = λ b c there other. elim (in_either (loops_from s d base all) laid.loops b there) [
      | inl new ↦ elim (in_either (loops_from s d base all) laid.loops c other) [
        | inl twin ↦ loops_apart s d base all rooms b c new twin
        | inr old ↦ (
            let within = loop_within s d base all b new in
            let inside = is.loops_apart.within c old in
            let low = within.low in
            inr (first_false (b.frame == c.frame) (b.parameter == c.parameter) (ap (λ n. n == c.frame) within.frame ∙ different c.frame d (is.loops_low c old)), inr (omega (arith, low, inside))))
      ]
      | inr old ↦ elim (in_either (loops_from s d base all) laid.loops c other) [
        | inl new ↦ (
            let within = loop_within s d base all c new in
            let inside = is.loops_apart.within b old in
            let low = within.low in
            inr (first_false (b.frame == c.frame) (b.parameter == c.parameter) (ap (λ n. b.frame == n) within.frame ∙ other_way b.frame d (is.loops_low b old)), inl (omega (arith, low, inside))))
        | inr twin ↦ is.loops_apart.apart b c old twin
      ]
    ];
  };
  undeclared = λ frame x high. is.undeclared frame x (omega (arith, high));
  low = λ l there. elim (in_either (lyings s d base all) laid.objects l there) [
    | inl new ↦ (let frame = (lies_within s d base all l new).frame in omega (arith, frame))
    | inr old ↦ (let low = is.low l old in omega (arith, low))
  ];
  loops_low = λ c there. elim (in_either (loops_from s d base all) laid.loops c there) [
    | inl new ↦ (let frame = (loop_within s d base all c new).frame in omega (arith, frame))
    | inr old ↦ (let low = is.loops_low c old in omega (arith, low))
  ];
}
  where
    s : Typing
    s = flow_typing program

    base : ℕ
    base = length f.stack

    total : length (f.stack ++ room_template s all) ≡ base + room_total s all
    total = length-append f.stack (room_template s all) ∙ ap (λ n. base + n) (template_long s has.parts all)

    same_low : (d n : ℕ) → n ≡ d → d ≤ n
    same_low d n is = omega (arith, is)

-- ---- frames that were there

place_entered : (s : Typing) (new old : List Lying) (made : List ℕ) (p : Place) (w : Spot) → PlaceStands s old made p w → PlaceStands s (new ++ old) made p w
place_entered s new old made p (InStack n) is = (is.0, in_right new old is.0 is.1, is.2, is.3, is.4)
place_entered s new old made p (InCell n o) is = is

returns_entered : (c : Site) (new old : List Lying) (d : ℕ) (made : List ℕ) (rs : List machine.Return) (qs : List Return) → ReturnsStand c old d made rs qs → ReturnsStand c (new ++ old) d made rs qs
returns_entered c new old d made [] [] is = tt
returns_entered c new old d made (r ∷ rs) (q ∷ qs) is = (
  record { own = is.0.own; at = is.0.at; from = is.0.from; of = is.0.of; to = place_entered c.typing new old made r.to q.to is.0.to; low = is.0.low; fits = is.0.fits },
  returns_entered c new old d made rs qs is.1,
)
returns_entered c new old d made [] (q ∷ qs) is = absurd is
returns_entered c new old d made (r ∷ rs) [] is = absurd is

pub sited_entered : (c : Site) (frame base : ℕ) (new old : List Lying) → IsSited c frame base old → IsSited c frame base (new ++ old)
sited_entered c frame base new old is = record {
  own = λ x at there own. in_right new old (record { frame = frame; object = x; at = base + at }) (is.own x at there own);
  packages = λ x at there own. in_right new old (record { frame = 0; object = x; at = at }) (is.packages x at there own);
}

not_high : {A : Type 0} (a d n : ℕ) → n ≡ d → a < d → n ≡ a → A
not_high a d n is low same = absurd (no_way a d n is low same)
  where
    no_way : (a d n : ℕ) → n ≡ d → a < d → n ≡ a → ⊥
    no_way a d n is low same = omega (arith, is, low, same)

not_below : {A : Type 0} (a d n : ℕ) → n ≡ d → a < d → n < a → A
not_below a d n is low less = absurd (no_way a d n is low less)
  where
    no_way : (a d n : ℕ) → n ≡ d → a < d → n < a → ⊥
    no_way a d n is low less = omega (arith, is, low, less)

pub frames_entered : (program : FlowProgram) (laid : Laid) (made : List ℕ) (stack more : List ℤ) (d : ℕ) (all : List Kept) (fs : List machine.Frame) (gs : List Frame) → length fs ≤ d
    → LoopsApart (flow_typing program) laid.objects laid.loops (length stack) → FramesStand program laid made stack fs gs
    → FramesStand program (with_room (flow_typing program) laid d (length stack) all) made (stack ++ more) fs gs
frames_entered program laid made stack more d all [] [] low apart is = tt
frames_entered program laid made stack more d all (f ∷ fs) (g ∷ gs) low apart is = (
  record {
    next = is.0.next;
    within = is.0.within;
    words = is.0.words;
    few = is.0.few;
    waits = is.0.waits;
    sited = sited_entered (site_of program f.sub []) (length fs) g.base (lyings s d base all) laid.objects is.0.sited;
    lying = λ l has of. elim (in_either (lyings s d base all) laid.objects l has) [
      | inl new ↦ not_high (length fs) d l.frame (lies_within s d base all l new).frame low of
      | inr old ↦ is.0.lying l old of
    ];
    looping = λ c has of. elim (in_either (loops_from s d base all) laid.loops c has) [
      | inl new ↦ not_high (length fs) d c.frame (loop_within s d base all c new).frame low of
      | inr old ↦ is.0.looping c old of
    ];
    first = is.0.first;
    turning = λ x at there. in_right (loops_from s d base all) laid.loops (record { frame = length fs; parameter = x; at = g.base + (at + 1) }) (is.0.turning x at there);
    loops = λ c has of. elim (in_either (loops_from s d base all) laid.loops c has) [
      | inl new ↦ not_high (length fs) d c.frame (loop_within s d base all c new).frame low of
      | inr old ↦ below_kept c.at stack more (apart.within c old) ∙ is.0.loops c old of
    ];
    bounds = is.0.bounds;
    returns = returns_entered (site_of program f.sub []) (lyings s d base all) laid.objects (length fs) made f.returns g.returns is.0.returns;
    below = λ l has less. elim (in_either (lyings s d base all) laid.objects l has) [
      | inl new ↦ not_below (length fs) d l.frame (lies_within s d base all l new).frame low less
      | inr old ↦ is.0.below l old less
    ];
    loops_below = λ c has less. elim (in_either (loops_from s d base all) laid.loops c has) [
      | inl new ↦ not_below (length fs) d c.frame (loop_within s d base all c new).frame low less
      | inr old ↦ is.0.loops_below c old less
    ];
  },
  frames_entered program laid made stack more d all fs gs (omega (arith, low)) apart is.1,
)
  where
    s : Typing
    s = flow_typing program

    base : ℕ
    base = length stack
frames_entered program laid made stack more d all [] (g ∷ gs) low apart is = absurd is
frames_entered program laid made stack more d all (f ∷ fs) [] low apart is = absurd is

-- ---- the new frame

-- The package objects lie in the first frame.
abbrev pub HasPackages : FlowProgram → Laid → Type 0
HasPackages program laid =
    (x at : ℕ) → package_offset (site_of program 0 []) x ≡ Some at → is_package_object (flow_typing program) x ≡ true → Has laid.objects (record { frame = 0; object = x; at = at })

pub frame_entered : (program : FlowProgram) (p : Program) (laid : Laid) (made : List ℕ) (f : Flat) (d n : ℕ) (rs : List machine.Return) (qs : List Return) → HasTypes program → IsLowered program p → IsCallable program n
    → nat_lt stack_words (sub_of program n).words ≡ false
    → ((l : Lying) → Has laid.objects l → l.frame < d) → ((l : Lying) → Has laid.objects l → l.at + length (lying_sorts (flow_typing program) l) ≤ length f.stack) → ((c : LoopAt) → Has laid.loops c → c.frame < d × (c.at + 3 ≤ length f.stack))
    → HasPackages program laid
    → ReturnsStand (site_of program n []) (lyings (flow_typing program) d (length f.stack) (objects_of (sub_of program n)) ++ laid.objects) d made rs qs
    → FrameStands program (with_room (flow_typing program) laid d (length f.stack) (objects_of (sub_of program n))) made (f.stack ++ room_template (flow_typing program) (objects_of (sub_of program n))) d
    (frame_at_start n rs) (frame_of f (sub_at p n) qs)
frame_entered program p laid made f d n rs qs has lowers callable few low inside loops_inside packages returns = record {
  next = first_is program p lowers n callable.points;
  within = inl callable.points;
  words = words_are program p lowers n;
  few = few;
  waits = tt;
  sited = record {
    own = λ x at there own. in_left (lyings s d base all) laid.objects (record { frame = d; object = x; at = base + at }) (offset_there s d base 0 base all x at (none base) there);
    packages = λ x at there own. in_right (lyings s d base all) laid.objects (record { frame = 0; object = x; at = at }) (packages x at there own);
  };
  lying = λ l has of. elim (in_either (lyings s d base all) laid.objects l has) [
    | inl new ↦ new
    | inr old ↦ not_same l.frame d (low l old) of
  ];
  looping = λ c has of. elim (in_either (loops_from s d base all) laid.loops c has) [
    | inl new ↦ new
    | inr old ↦ not_same c.frame d (loops_inside c old).0 of
  ];
  first = λ zero. absurd (never n zero callable.other);
  turning = λ x at there. (
      let sure = if_some (is_loop x all) (offset_of (site_of program n []) x) at there in
      in_left (loops_from s d base all) laid.loops (record { frame = d; parameter = x; at = base + (at + 1) })
      (loop_there s d base 0 base all x at (none base) (are_one_word program p has.laws lowers n few) sure.0 sure.1));
  loops = λ c there of. elim (in_either (loops_from s d base all) laid.loops c there) [
    | inl new ↦ room_loops s has.parts d all f.stack base refl c new
    | inr old ↦ not_same c.frame d (loops_inside c old).0 of
  ];
  bounds = tt;
  returns = returns;
  below = λ l there less. elim (in_either (lyings s d base all) laid.objects l there) [
    | inl new ↦ not_less l.frame d (lies_within s d base all l new).frame less
    | inr old ↦ inside l old
  ];
  loops_below = λ c there less. elim (in_either (loops_from s d base all) laid.loops c there) [
    | inl new ↦ not_less c.frame d (loop_within s d base all c new).frame less
    | inr old ↦ (loops_inside c old).1
  ];
}
  where
    s : Typing
    s = flow_typing program

    base : ℕ
    base = length f.stack

    all : List Kept
    all = objects_of (sub_of program n)

    none : (n : ℕ) → n ≡ n + 0
    none n = omega arith

    never : (n : ℕ) → n ≡ 0 → (n == 0) ≡ false → ⊥
    never n is other = wrong (sym other ∙ ap (λ k. k == 0) is)
      where
        wrong : false ≡ true → ⊥
        wrong x = cc

    not_same : {A : Type 0} (a d : ℕ) → a < d → a ≡ d → A
    not_same a d low is = absurd (no_way a d low is)
      where
        no_way : (a d : ℕ) → a < d → a ≡ d → ⊥
        no_way a d low is = omega (arith, low, is)

    not_less : {A : Type 0} (a d : ℕ) → a ≡ d → a < d → A
    not_less a d is low = absurd (no_way a d is low)
      where
        no_way : (a d : ℕ) → a ≡ d → a < d → ⊥
        no_way a d is low = omega (arith, is, low)
