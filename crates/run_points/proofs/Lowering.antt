-- Where a program is lowered, its points stand where frames look for them.
use Rattle.std.proofs.Common.{◌≡◌, ℕ, zero, suc, ◌+◌, ◌<◌, true, false, Bool, ◌&&◌, List, [], ◌∷◌, ◌++◌, map, length, get_or, refl, sym, ap, subst, ◌∙◌, arith, Option, Some, None, slice_get, nat_lt, if◌then◌else◌}
use Rattle.std.specs.Prelude.{◌==◌}
use Rattle.std.proofs.lemmas.List.{length-map}
use Rattle.flow_paths.specs.Objects.{Typing}
use Rattle.flow_paths.specs.Points.{FlowPoint}
use Rattle.flow_paths.specs.Laid.{FlowSub, FlowProgram, flow_typing}
use Rattle.machine.specs.States.{no_sub, sub_of, stack_words}
use Rattle.machine.specs.Run.{no_point}
use Rattle.run_codes.specs.Codes.{Point}
use Rattle.run_codes.specs.Lowered.{Kept}
use Rattle.run_codes.specs.Programs.{Program, Around, objects_of, with_first, point, all_points, fallen, sub_points, around, points_from, sub_rows, lowered_program}
use Rattle.run_codes.proofs.Places.{impossible, some_same}
use Rattle.run_points.specs.States.{first_point}
use Rattle.run_points.specs.Turns.{IsLowered}
use Rattle.run_points.proofs.Tests.{mapped, both_there}

-- ---- lists

get_first : {A : Type 0} (xs ys : List A) (k : ℕ) (a : A) → slice_get xs k ≡ Some a → slice_get (xs ++ ys) k ≡ Some a
get_first [] ys k a is = impossible a is
get_first (x ∷ xs) ys zero a is = is
get_first (x ∷ xs) ys (suc k) a is = get_first xs ys k a is

get_second : {A : Type 0} (xs ys : List A) (n k : ℕ) → n ≡ length xs → slice_get (xs ++ ys) (n + k) ≡ slice_get ys k
get_second [] ys n k is = ap (λ i. slice_get ys i) (none n k is)
  where
    none : (n k : ℕ) → n ≡ 0 → n + k ≡ k
    none n k is = omega (arith, is)
get_second (x ∷ xs) ys zero k is = absurd (omega (arith, is))
get_second (x ∷ xs) ys (suc n) k is =
    ap (λ i. slice_get (x ∷ (xs ++ ys)) i) (on n k) ∙ get_second xs ys n k (omega (arith, is))
  where
    on : (n k : ℕ) → suc n + k ≡ suc (n + k)
    on n k = omega arith

-- ---- the points of a subprogram

first_there : {A : Type 0} (x : Option A) (y : Option (List A)) (all : List A) → with_first x y ≡ Some all
    → (a : A) × (x ≡ Some a) × ((b : List A) × (y ≡ Some b) × (a ∷ b ≡ all))
first_there (Some a) (Some b) all is = (a, refl, (b, refl, some_same (a ∷ b) all is))
first_there None y all is = impossible all is
first_there (Some a) None all is = impossible all is

all_long : (a : Around) (ps : List FlowPoint) (all : List Point) → all_points a ps ≡ Some all → length ps ≡ length all
all_long a [] all is = ap (λ (l : List Point). length l) (some_same [] all is)
all_long a (p ∷ ps) all is =
    let both = first_there (point a p) (all_points a ps) all is in
    let more = both.2 in
    ap suc (all_long a ps more.0 more.1) ∙ ap (λ (l : List Point). length l) more.2

all_there : (a : Around) (ps : List FlowPoint) (all : List Point) → all_points a ps ≡ Some all → (k : ℕ) → k < length ps
    → (q : Point) × (slice_get all k ≡ Some q) × (point a (get_or ps k no_point) ≡ Some q)
all_there a [] all is k low = absurd (omega (arith, low))
all_there a (p ∷ ps) all is zero low =
    let both = first_there (point a p) (all_points a ps) all is in
    (both.0, ap (λ l. slice_get l 0) (sym both.2.2), both.1)
all_there a (p ∷ ps) all is (suc k) low =
    let both = first_there (point a p) (all_points a ps) all is in
    let on = all_there a ps both.2.0 both.2.1 k (omega (arith, low)) in
    (on.0, ap (λ l. slice_get l (suc k)) (sym both.2.2) ∙ on.1, on.2)

sub_long : (a : Around) (sub : FlowSub) (all : List Point) → sub_points a sub ≡ Some all → length sub.points ≡ length all
sub_long a sub all is = by (nat_lt stack_words sub.words) is
  where
    by : (k : Bool) → (if k then Some (map fallen sub.points) else all_points a sub.points) ≡ Some all → length sub.points ≡ length all
    by true is = sym (length-map sub.points fallen) ∙ ap (λ (l : List Point). length l) (some_same (map fallen sub.points) all is)
    by false is = all_long a sub.points all is

-- ---- those of all subprograms

none_more : (k : ℕ) → k < 0 → ⊥
none_more k low = omega (arith, low)

is_there : (s : Typing) (of_packages : List Kept) (base : ℕ) (is_first : Bool) (subs : List FlowSub) (all : List Point) → points_from s of_packages base is_first subs ≡ Some all
    → (n k first : ℕ) (flag : Bool) → first ≡ base + first_point subs n → flag ≡ (is_first && (n == 0))
    → k < length (get_or subs n no_sub).points → nat_lt stack_words (get_or subs n no_sub).words ≡ false
    → (q : Point) × (slice_get all (first_point subs n + k) ≡ Some q)
    × (point (around s of_packages first flag (get_or subs n no_sub)) (get_or (get_or subs n no_sub).points k no_point) ≡ Some q)
is_there s of_packages base is_first [] all is n k first flag at same low few = absurd (none_more k low)
is_there s of_packages base is_first (sub ∷ rest) all is zero k first flag at same low few =
    let both = both_there (sub_points (around s of_packages base is_first sub) sub) (points_from s of_packages (base + length sub.points) false rest) all is in
    let given : all_points (around s of_packages base is_first sub) sub.points ≡ Some both.0 =
    sym (ap (λ b. if b then Some (map fallen sub.points) else all_points (around s of_packages base is_first sub) sub.points) few) ∙ both.1 in
    let here = all_there (around s of_packages base is_first sub) sub.points both.0 given k low in (
      here.0,
      ap (λ l. slice_get l (0 + k)) (sym both.2.2) ∙ ap (λ i. slice_get (both.0 ++ both.2.0) i) (none k) ∙ get_first both.0 both.2.0 k here.0 here.1,
      subst (λ i. point (around s of_packages i flag sub) (get_or sub.points k no_point) ≡ Some here.0) (sym (at ∙ none_after base))
          (subst (λ b. point (around s of_packages base b sub) (get_or sub.points k no_point) ≡ Some here.0) (sym (same ∙ and_true is_first)) here.2),
    )
  where
    none : (k : ℕ) → 0 + k ≡ k
    none k = omega arith

    none_after : (k : ℕ) → k + 0 ≡ k
    none_after k = omega arith

    and_true : (b : Bool) → (b && true) ≡ b
    and_true true = refl
    and_true false = refl
is_there s of_packages base is_first (sub ∷ rest) all is (suc n) k first flag at same low few =
    let both = both_there (sub_points (around s of_packages base is_first sub) sub) (points_from s of_packages (base + length sub.points) false rest) all is in
    let long = sub_long (around s of_packages base is_first sub) sub both.0 both.1 in
    let on = is_there s of_packages (base + length sub.points) false rest both.2.0 both.2.1 n k first flag (at ∙ regrouped base (length sub.points) (first_point rest n)) (same ∙ ap (λ c. is_first && c) (not_zero n) ∙ and_false is_first) low few in (
      on.0,
      ap (λ l. slice_get l (length sub.points + first_point rest n + k)) (sym both.2.2)
          ∙ ap (λ i. slice_get (both.0 ++ both.2.0) i) (sym (regrouped (length sub.points) (first_point rest n) k)) ∙ get_second both.0 both.2.0 (length sub.points) (first_point rest n + k) long ∙ on.1,
      on.2,
    )
  where
    regrouped : (a b c : ℕ) → a + (b + c) ≡ a + b + c
    regrouped a b c = omega arith

    not_zero : (n : ℕ) → (suc n == 0) ≡ false
    not_zero n = grind arith

    and_false : (b : Bool) → (b && false) ≡ false
    and_false true = refl
    and_false false = refl

pub is_lowered : (program : FlowProgram) (p : Program) → lowered_program program ≡ Some p → IsLowered program p
unfolding lowered_program
is_lowered program p is =
    let s : Typing = flow_typing program in
    let found = mapped (λ points. record { points = points; subs = sub_rows s 0 program.subs; main = program.main }) (points_from s (objects_of (sub_of program 0)) 0 true program.subs) p is in
    subst (λ p. IsLowered program p) found.2 (record {
      points = λ n k low few. is_there s (objects_of (sub_of program 0)) 0 true program.subs found.0 found.1 n k (first_point program.subs n) (n == 0) (none (first_point program.subs n)) refl low few;
      subs = refl;
      main = refl;
    })
  where
    none : (n : ℕ) → n ≡ 0 + n
    none n = omega arith
