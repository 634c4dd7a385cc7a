-- What the laws on runs ask of the subprograms of a program that is laid out, where they pass the tests.
use Rattle.std.proofs.Common.{◌≡◌, inl, inr, ℕ, zero, suc, ◌<◌, ◌≤◌, Bool, true, false, not, ◌||◌, ◌&&◌, List, [], ◌∷◌, map, length, get_or, nat_lt, nat_le, refl, sym, ap, subst, ◌∙◌, arith, Option, Some, None}
use Rattle.std.specs.Prelude.{◌==◌}
use Rattle.std.specs.List.{list_all, list_any}
use Rattle.std.proofs.lemmas.List.{length-map}
use Rattle.spark_base.specs.Lists.{Has}
use Rattle.typed_tree.specs.declared.object.Object.{Object}
use Rattle.typed_tree.specs.Nodes.{TypedNodes, typed_at, typed_code_at}
use Rattle.typed_tree.specs.Trees.{TypedTree}
use Rattle.flow_paths.specs.declared.instr.Instr.{Instr}
use Rattle.flow_paths.specs.declared.instr.Instr.TheVariants as instr
use Rattle.flow_paths.specs.declared.point.Point.{Point}
use Rattle.flow_paths.specs.declared.point.LaidSub.{LaidSub}
use Rattle.flow_paths.specs.Instructions.{Instruction, Call, instruction_of}
use Rattle.flow_paths.specs.Objects.{is_package_object}
use Rattle.flow_paths.specs.Laid.{FlowSub, flow_typing}
use Rattle.flow_paths.specs.Stands.{flow_point_of, flow_sub_of}
use Rattle.laid_program.specs.declared.laid.Laid.{Laid}
use Rattle.laid_program.specs.Programs.{program_of}
use Rattle.machine.specs.States.{no_sub}
use Rattle.machine.specs.Run.{no_point}
use Rattle.run_points.specs.Frames.{AreDifferent, IsCallable, HasFrames}
use Rattle.run_ready.specs.Tests.{ascend, is_outside, is_called, call_stands, sub_calls, sub_enters, subs_enter, main_fits, frames_fit}

never : false ≡ true → ⊥
never is = cc

both : (a b : Bool) → a && b ≡ true → (a ≡ true) × (b ≡ true)
both true b is = (refl, is)
both false b is = absurd (never is)

less : (a b : ℕ) → nat_lt a b ≡ true → a < b
less a b is = grind (arith, is)

at_most : (a b : ℕ) → nat_le a b ≡ true → a ≤ b
at_most a b is = grind (arith, is)

-- ---- numbers that ascend are different

none_stands : (low x : ℕ) (xs : List ℕ) → x < low → ascend low xs ≡ true → list_any (λ y. y == x) xs ≡ false
none_stands low x [] lt up = refl
none_stands low x (y ∷ rest) lt up =
    let parts = both (nat_le low y) (ascend (suc y) rest) up in
    let le = at_most low y parts.0 in
    ap (λ b. b || list_any (λ y. y == x) rest) (other y x (omega (arith, lt, le))) ∙ none_stands (suc y) x rest (omega (arith, lt, le)) parts.1
  where
    other : (y x : ℕ) → x < y → (y == x) ≡ false
    other y x lt = grind (arith, lt)

different : (low : ℕ) (xs : List ℕ) → ascend low xs ≡ true → AreDifferent xs
different low [] up = tt
different low (x ∷ rest) up =
    let parts = both (nat_le low x) (ascend (suc x) rest) up in
    (none_stands (suc x) x rest (omega arith) parts.1, different (suc x) rest parts.1)

-- ---- objects of no package

none_passes : (f : ℕ → Bool) (xs : List ℕ) (x : ℕ) → list_all (λ x. not (f x)) xs ≡ true → Has xs x → f x ≡ false
none_passes f [] x all has = absurd has
none_passes f (y ∷ xs) x all has =
    let parts = both (not (f y)) (list_all (λ x. not (f x)) xs) all in
    elim has [
      | inl same ↦ ap f (sym same) ∙ opposite (f y) parts.0
      | inr more ↦ none_passes f xs x parts.1 more
    ]
  where
    opposite : (b : Bool) → not b ≡ true → b ≡ false
    opposite true is = absurd (never is)
    opposite false is = refl

-- ---- subprograms

abbrev number : Instruction → ℕ
number (Call sub e result) = sub
number _ = 0

module _ (rows : TypedNodes) (count : ℕ) where
  called : (i : Instr) (sub : ℕ) (e : TypedTree) (result : Option ℕ) → instruction_of (typed_at rows) (typed_code_at rows) i ≡ Call sub e result
      → call_stands count i ≡ true → is_called count sub ≡ true
  called (instr.Call n actuals given) sub e result is stands = subst (λ m. is_called count m ≡ true) (ap number is) stands
  called instr.Skip sub e result is stands = cc
  called (instr.Declare x v) sub e result is stands = cc
  called (instr.Assign target source) sub e result is stands = cc
  called (instr.Output text line) sub e result is stands = cc
  called (instr.Input target) sub e result is stands = cc
  called (instr.Release m) sub e result is stands = cc
  called (instr.Test c) sub e result is stands = cc
  called (instr.Choose c choices) sub e result is stands = cc
  called (instr.Start x reversed low high) sub e result is stands = cc
  called (instr.Next x reversed low high) sub e result is stands = cc
  called (instr.Evaluate t v left) sub e result is stands = cc
  called (instr.LeaveLoop c) sub e result is stands = cc
  called (instr.Hold v) sub e result is stands = cc
  called (instr.EndScope x) sub e result is stands = cc
  called instr.Finish sub e result is stands = cc
  called instr.Fall sub e result is stands = cc

  -- by the k-th point
  point_calls : (points : List Point) (k sub : ℕ) (e : TypedTree) (result : Option ℕ) → k < length (map (flow_point_of rows) points)
      → (get_or (map (flow_point_of rows) points) k no_point).instr ≡ Call sub e result → list_all (λ (p : Point). call_stands count p.instr) points ≡ true
      → is_called count sub ≡ true
  point_calls [] k sub e result low is all = absurd (omega (arith, low))
  point_calls (p ∷ points) zero sub e result low is all =
      called p.instr sub e result is (both (call_stands count p.instr) (list_all (λ (p : Point). call_stands count p.instr) points) all).0
  point_calls (p ∷ points) (suc k) sub e result low is all =
      point_calls points k sub e result (omega (arith, low)) is (both (call_stands count p.instr) (list_all (λ (p : Point). call_stands count p.instr) points) all).1

  -- by a point of the n-th subprogram
  nth_calls : (n : ℕ) (subs : List LaidSub) (k sub : ℕ) (e : TypedTree) (result : Option ℕ) → list_all (sub_calls count) subs ≡ true
      → k < length (get_or (map (flow_sub_of rows) subs) n no_sub).points
      → (get_or (get_or (map (flow_sub_of rows) subs) n no_sub).points k no_point).instr ≡ Call sub e result → is_called count sub ≡ true
  nth_calls n [] k sub e result all low is = absurd (omega (arith, low))
  nth_calls zero (x ∷ subs) k sub e result all low is = point_calls x.points k sub e result low is (both (sub_calls count x) (list_all (sub_calls count) subs) all).0
  nth_calls (suc n) (x ∷ subs) k sub e result all low is = nth_calls n subs k sub e result (both (sub_calls count x) (list_all (sub_calls count) subs) all).1 low is

module _ (rows : TypedNodes) (objects : List Object) where
  record Enters (sub : LaidSub) : Type 0 where
    pub ascends : ascend 0 sub.formals ≡ true
    pub outside : list_all (is_outside objects) sub.formals ≡ true
    pub points : 0 < length sub.points

  enters : (sub : LaidSub) → sub_enters objects sub ≡ true → Enters sub
  enters sub fit =
      let first = both (ascend 0 sub.formals) (list_all (is_outside objects) sub.formals && nat_lt 0 (length sub.points)) fit in
      let second = both (list_all (is_outside objects) sub.formals) (nat_lt 0 (length sub.points)) first.1 in
      record { ascends = first.0; outside = second.0; points = less 0 (length sub.points) second.1 }

  nth_enters : (n : ℕ) (subs : List LaidSub) → n < length subs → list_all (sub_enters objects) subs ≡ true
      → (sub : LaidSub) × (get_or (map (flow_sub_of rows) subs) n no_sub ≡ flow_sub_of rows sub) × Enters sub
  nth_enters n [] low all = absurd (omega (arith, low))
  nth_enters zero (x ∷ subs) low all = (x, refl, enters x (both (sub_enters objects x) (list_all (sub_enters objects) subs) all).0)
  nth_enters (suc n) (x ∷ subs) low all = nth_enters n subs (omega (arith, low)) (both (sub_enters objects x) (list_all (sub_enters objects) subs) all).1

  -- all but the first one
  called_enters : (n : ℕ) (subs : List LaidSub) → 0 < n → n < length subs → subs_enter objects subs ≡ true
      → (sub : LaidSub) × (get_or (map (flow_sub_of rows) subs) n no_sub ≡ flow_sub_of rows sub) × Enters sub
  called_enters n [] some low all = absurd (omega (arith, low))
  called_enters zero (x ∷ subs) some low all = absurd (omega (arith, some))
  called_enters (suc n) (x ∷ subs) some low all = nth_enters n subs (omega (arith, low)) (both (ascend 0 x.formals) (list_all (sub_enters objects) subs) all).1

  -- the first one has different formals, if it is there
  first_different : (subs : List LaidSub) → subs_enter objects subs ≡ true → AreDifferent (get_or (map (flow_sub_of rows) subs) 0 no_sub).formals
  first_different [] all = tt
  first_different (x ∷ subs) all = different 0 x.formals (both (ascend 0 x.formals) (list_all (sub_enters objects) subs) all).0

-- ---- all of a program

module _ (laid : Laid) (fit : frames_fit laid ≡ true) where
  abbrev count : ℕ
  count = length laid.subs

  tests : (list_all (sub_calls count) laid.subs ≡ true) × (subs_enter laid.objects laid.subs ≡ true) × (main_fits count laid.main ≡ true)
  tests =
      let first = both (list_all (sub_calls count) laid.subs) (subs_enter laid.objects laid.subs && main_fits count laid.main) fit in
      let second = both (subs_enter laid.objects laid.subs) (main_fits count laid.main) first.1 in
      (first.0, second.0, second.1)

  callable : (n : ℕ) → is_called count n ≡ true → IsCallable (program_of laid) n
  callable n is =
      let there = both (nat_lt 0 n) (nat_lt n count) is in
      let found = called_enters laid.rows laid.objects n laid.subs (less 0 n there.0) (less n count there.1) tests.1 in
      let sub : LaidSub = found.0 in
      record {
        points = subst (λ (s : FlowSub). 0 < length s.points) (sym found.1) (some sub found.2.points);
        other = not_zero n there.0;
        formals = subst (λ (s : FlowSub). AreDifferent s.formals) (sym found.1) (different 0 sub.formals found.2.ascends);
        own = λ x has. none_passes (is_package_object (flow_typing (program_of laid))) sub.formals x found.2.outside (subst (λ (s : FlowSub). Has s.formals x) found.1 has);
      }
    where
      some : (sub : LaidSub) → 0 < length sub.points → 0 < length (map (flow_point_of laid.rows) sub.points)
      some sub there = subst (λ k. 0 < k) (sym (length-map sub.points (flow_point_of laid.rows))) there

      not_zero : (n : ℕ) → nat_lt 0 n ≡ true → (n == 0) ≡ false
      not_zero n is = grind (arith, is)

  main_called : (main : Option ℕ) (n : ℕ) → main ≡ Some n → main_fits count main ≡ true → is_called count n ≡ true
  main_called None n is fits = cc
  main_called (Some k) n is fits = subst (λ j. is_called count j ≡ true) (same k n is) fits
    where
      same : (a b : ℕ) → Some a ≡ Some b → a ≡ b
      same a b is = cc

  pub frames_are : HasFrames (program_of laid)
  frames_are = record {
    packages = first_different laid.rows laid.objects laid.subs tests.1;
    main = λ n is. callable n (main_called laid.main n is tests.2);
    calls = λ n k sub e result low is. callable sub (nth_calls laid.rows count n laid.subs k sub e result tests.0 low is);
  }
