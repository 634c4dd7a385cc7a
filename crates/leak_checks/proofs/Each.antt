-- The lines of a leak plan are those that tell of some leak check of a point.
use Rattle.std.proofs.Common.{◌≡◌, refl, sym, ap, ◌∙◌, subst, inl, inr, ℕ, suc, ◌+◌, List, [], ◌∷◌, ◌++◌, length, arith}
use Rattle.std.proofs.lemmas.List.Sorted.{IsPermutation-sym, Contains-permutation}
use Rattle.std.specs.List.Sorted.{IsPermutation}
use Rattle.spark_base.specs.Lists.{Has}
use Rattle.spark_base.proofs.Lists.{Has-append_left, Has-append_right, Has-append_cases, Has-map, Has-map_from, Has-contained, Contains-has}
use Rattle.flow_paths.specs.declared.report.Effects.{Effects}
use Rattle.flow_paths.specs.declared.report.LeakLine.{LeakLine}
use Rattle.flow_paths.specs.declared.point.LeakSpot.{LeakSpot}
use Rattle.flow_paths.specs.Points.{FlowPoint}
use Rattle.flow_paths.specs.Laid.{FlowSub, FlowProgram}
use Rattle.flow_paths.specs.LeakPlan.{Checked}
use Rattle.leak_checks.specs.Plan.{Check, checks_at, checks_from, checks_of, Tells, TellAll, LeakPlan}
use Rattle.leak_checks.proofs.Unique.{tells_same}

has_permuted : (xs ys : List LeakLine) (l : LeakLine) → IsPermutation xs ys → Has xs l → Has ys l
has_permuted xs ys l same h = Has-contained ys l (Contains-permutation xs ys l same (Contains-has xs l h))

-- ---- what is told of checks

told_of : (program : FlowProgram) (effects : Effects) (checks : List Check) (lines : List LeakLine) (line : LeakLine) → TellAll program effects checks lines
    → Has lines line → (check : Check) × Has checks check × Tells program effects check line
told_of program effects [] [] line t h = absurd h
told_of program effects [] (l ∷ lines) line t h = absurd t
told_of program effects (c ∷ checks) [] line t h = absurd h
told_of program effects (c ∷ checks) (l ∷ lines) line t h = elim h [
  | inl e ↦ (c, inl refl, subst (Tells program effects c) e t.0)
  | inr later ↦ (let found = told_of program effects checks lines line t.1 later in (found.0, inr found.1, found.2))
]

of_told : (program : FlowProgram) (effects : Effects) (checks : List Check) (lines : List LeakLine) (check : Check) → TellAll program effects checks lines
    → Has checks check → (line : LeakLine) × Has lines line × Tells program effects check line
of_told program effects [] lines check t h = absurd h
of_told program effects (c ∷ checks) [] check t h = absurd t
of_told program effects (c ∷ checks) (l ∷ lines) check t h = elim h [
  | inl e ↦ (l, inl refl, subst (λ d. Tells program effects d l) e t.0)
  | inr later ↦ (let found = of_told program effects checks lines check t.1 later in (found.0, inr found.1, found.2))
]

-- ---- the checks of a program

-- a check of some points, the first of which has number n
record OfPoints (sub : FlowSub) (n : ℕ) (points : List FlowPoint) (check : Check) : Type 0 where
  front : List FlowPoint
  point : FlowPoint
  rest : List FlowPoint
  split : points ≡ front ++ point ∷ rest
  number : check.point ≡ n + length front
  same : check.sub ≡ sub
  has : Has point.leaks check.spot

points_of_check : (sub : FlowSub) (n : ℕ) (points : List FlowPoint) (check : Check) → Has (checks_from sub n points) check → OfPoints sub n points check
points_of_check sub n [] check h = absurd h
points_of_check sub n (p ∷ points) check h = elim (Has-append_cases (checks_at sub n p.leaks) (checks_from sub (suc n) points) check h) [
  | inl here ↦ (
      let found = Has-map_from (λ (spot : LeakSpot). record { sub = sub; point = n; spot = spot }) p.leaks check here in
      let at : check.point ≡ n = ap (λ (c : Check). c.point) (sym found.2) in
      record {
        front = [];
        point = p;
        rest = points;
        split = refl;
        number = omega (arith, at);
        same = ap (λ (c : Check). c.sub) (sym found.2);
        has = subst (Has p.leaks) (ap (λ (c : Check). c.spot) found.2) found.1;
      })
  | inr later ↦ (
      let found = points_of_check sub (suc n) points check later in
      let at = found.number in
      record {
        front = p ∷ found.front;
        point = found.point;
        rest = found.rest;
        split = ap (λ l. p ∷ l) found.split;
        number = omega (arith, at);
        same = found.same;
        has = found.has;
      })
]

check_of_points : (sub : FlowSub) (n : ℕ) (front : List FlowPoint) (point : FlowPoint) (rest : List FlowPoint) (spot : LeakSpot) → Has point.leaks spot
    → Has (checks_from sub n (front ++ point ∷ rest)) (record { sub = sub; point = n + length front; spot = spot })
check_of_points sub n [] point rest spot h =
    let at : n ≡ n + 0 = omega arith in
    subst (λ k. Has (checks_from sub n (point ∷ rest)) (record { sub = sub; point = k; spot = spot })) at
    (Has-append_left (checks_at sub n point.leaks) (checks_from sub (suc n) rest) (record { sub = sub; point = n; spot = spot })
    (Has-map (λ (s : LeakSpot). record { sub = sub; point = n; spot = s }) point.leaks spot h))
check_of_points sub n (p ∷ front) point rest spot h =
    let at : suc n + length front ≡ n + suc (length front) = omega arith in
    subst (λ k. Has (checks_from sub n (p ∷ front ++ point ∷ rest)) (record { sub = sub; point = k; spot = spot })) at
    (Has-append_right (checks_at sub n p.leaks) (checks_from sub (suc n) (front ++ point ∷ rest))
    (record { sub = sub; point = suc n + length front; spot = spot }) (check_of_points sub (suc n) front point rest spot h))

sub_of_check : (subs : List FlowSub) (check : Check) → Has (checks_of subs) check → (sub : FlowSub) × Has subs sub × Has (checks_from sub 0 sub.points) check
sub_of_check [] check h = absurd h
sub_of_check (s ∷ subs) check h = elim (Has-append_cases (checks_from s 0 s.points) (checks_of subs) check h) [
  | inl here ↦ (s, inl refl, here)
  | inr later ↦ (let found = sub_of_check subs check later in (found.0, inr found.1, found.2))
]

check_of_sub : (subs : List FlowSub) (sub : FlowSub) (check : Check) → Has subs sub → Has (checks_from sub 0 sub.points) check → Has (checks_of subs) check
check_of_sub [] sub check h has = absurd h
check_of_sub (s ∷ subs) sub check h has = elim h [
  | inl e ↦ Has-append_left (checks_from s 0 s.points) (checks_of subs) check (subst (λ (x : FlowSub). Has (checks_from x 0 x.points) check) (sym e) has)
  | inr later ↦ Has-append_right (checks_from s 0 s.points) (checks_of subs) check (check_of_sub subs sub check later has)
]

-- ---- the plan

-- each line tells of a leak check
pub plan-sound : (program : FlowProgram) (effects : Effects) (lines : List LeakLine) (line : LeakLine) → LeakPlan program effects lines → Has lines line
    → Checked program effects line
plan-sound program effects lines line p h =
    let told = told_of program effects (checks_of program.subs) p.told line p.all
    (has_permuted lines p.told line (IsPermutation-sym p.told lines p.sorted.same) h) in
    let check : Check = told.0 in
    let of = sub_of_check program.subs check told.1 in
    let at = points_of_check of.0 0 of.0.points check of.2 in
    let number = at.number in
    record {
      sub = check.sub;
      of = subst (Has program.subs) (sym at.same) of.1;
      number = check.point;
      point = at.point;
      at = (at.front, at.rest, ap (λ (s : FlowSub). s.points) at.same ∙ at.split, omega (arith, number));
      spot = check.spot;
      has = at.has;
      pos = told.2.pos;
      name = told.2.name;
      excused = told.2.excused;
    }

-- and each leak check has its line
pub plan-complete : (program : FlowProgram) (effects : Effects) (lines : List LeakLine) (line : LeakLine) → LeakPlan program effects lines
    → Checked program effects line → Has lines line
plan-complete program effects lines line p c =
    let front = c.at.0 in
    let at = c.at.3 in
    let numbered : 0 + length front ≡ c.number = omega (arith, at) in
    let check : Check = record { sub = c.sub; point = c.number; spot = c.spot } in
    let has : Has (checks_from c.sub 0 c.sub.points) check =
    subst (λ l. Has (checks_from c.sub 0 l) check) (sym c.at.2)
    (subst (λ k. Has (checks_from c.sub 0 (front ++ c.point ∷ c.at.1)) (record { sub = c.sub; point = k; spot = c.spot })) numbered
    (check_of_points c.sub 0 front c.point c.at.1 c.spot c.has)) in
    let told = of_told program effects (checks_of program.subs) p.told check p.all (check_of_sub program.subs c.sub check c.of has) in
    let same = tells_same program effects check told.0 line told.2 (record { pos = c.pos; name = c.name; excused = c.excused }) in
    has_permuted p.told lines line p.sorted.same (subst (Has p.told) same told.1)
