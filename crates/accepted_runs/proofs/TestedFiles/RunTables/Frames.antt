-- What frames that enter ask of a program that is laid out, where its typed program can be entered.
use Rattle.std.proofs.Common.{◌≡◌, inl, inr, ℕ, zero, suc, ◌+◌, ◌<◌, true, false, Bool, ◌||◌, List, [], ◌∷◌, ◌++◌, map, length, get_or, refl, sym, ap, subst, ◌∙◌, arith, Some, length-append, if◌then◌else◌}
use Rattle.std.specs.Prelude.{◌==◌, ◌&&◌, not, is_some, flat_map, reverse}
use Rattle.std.specs.List.{list_any}
use Rattle.std.proofs.lemmas.List.{length-map}
use Rattle.machine.specs.spark_base.Lists.{Has}
use Rattle.machine.specs.type_definitions.Types.{Table}
use Rattle.machine.specs.typed_tree.declared.object.Object.{Object}
use Rattle.machine.specs.typed_tree.Programs.{TypedSub, TypedProgram, text_io}
use Rattle.machine.specs.flow_paths.Objects.{Typing, object_at, is_state}
use Rattle.machine.specs.flow_paths.Instructions.{Finish, Fall}
use Rattle.machine.specs.flow_paths.Points.{PointName, NamedPoint, row_at, point, entry, flow_point}
use Rattle.machine.specs.flow_paths.Layout.{ending, ends, laid}
use Rattle.machine.specs.flow_paths.Prep.{Setting}
use Rattle.machine.specs.flow_paths.Laid.{Temporary, temporary_object, FlowSub, FlowProgram, NamedSub, typing_of, flow_typing, around_body, scope_at_end, function_end, procedure_end, body_points, sub_points, sub_temporaries, named_sub, named_subs, all_named, flow_sub, flow_named, flow_program, number_in, kept_roots, sub_facts, frame_of, numbers_from}
use Rattle.machine.specs.States.{no_sub, sub_of}
use Rattle.settled_types.specs.OrderLaws.ScopeLaws.Code.{Once}
use Rattle.settled_types.specs.OrderLaws.ReadyLaws.InOrder.{IsSub}
use Rattle.run_points.specs.Frames.{AreDifferent, IsCallable, HasFrames}
use Rattle.accepted_runs.specs.TestedFiles.RunTables.Calls.{CallsStand}
use Rattle.accepted_runs.specs.TestedFiles.RunTables.Entered.{CanEnter}

-- ---- numbers that stand once

same_number : (a b : ℕ) → (a == b) ≡ true → a ≡ b
same_number a b is = grind arith

none_by : (x y : ℕ) (xs : List ℕ) → (Has (y ∷ xs) x → ⊥) → ((Has xs x → ⊥) → list_any (λ y. y == x) xs ≡ false) → (b : Bool) → (y == x) ≡ b → b || list_any (λ y. y == x) xs ≡ false
none_by x y xs lacks rest true same = absurd (lacks (inl (same_number y x same)))
none_by x y xs lacks rest false other = rest (λ has. lacks (inr has))

none_stands : (x : ℕ) (xs : List ℕ) → (Has xs x → ⊥) → list_any (λ y. y == x) xs ≡ false
none_stands x [] lacks = refl
none_stands x (y ∷ xs) lacks = none_by x y xs lacks (none_stands x xs) (y == x) refl

different : (xs : List ℕ) → Once xs → AreDifferent xs
different [] once = tt
different (x ∷ xs) once = (none_stands x xs once.0, different xs once.1)

-- ---- subprograms that are laid out

after_some : (xs ys : List NamedPoint) → 0 < length ys → 0 < length (xs ++ ys)
after_some xs ys some = let long = length-append xs ys in omega (arith, long, some)

one : (p : NamedPoint) → 0 < length (p ∷ [])
one p = omega arith

-- Each has a point.
has_end : (s : Setting) (sub : TypedSub) → 0 < length (sub_points s sub)
has_end s sub = by (is_some sub.result)
  where
    finish : PointName
    finish = row_at [] (length (ending s sub.body))

    end_of : Bool → List NamedPoint
    end_of b = if b then function_end sub else procedure_end s sub

    ends_some : (b : Bool) → 0 < length (end_of b)
    ends_some true = one (point (row_at [] 0) sub.end Fall (scope_at_end sub) [])
    ends_some false =
        after_some (ends [] 0 sub.end (ending s sub.body) (scope_at_end sub) (finish ∷ [])) (point finish sub.end Finish (reverse sub.formals) [] ∷ [])
        (one (point finish sub.end Finish (reverse sub.formals) []))

    by : (b : Bool) → 0 < length (body_points s sub (end_of b))
    by b = after_some (laid s sub.body (0 ∷ []) (around_body s sub) (entry (end_of b) [])) (end_of b) (ends_some b)

-- The n-th of those with a body.
pub record IsLaidOut (s : Typing) (sub : TypedSub) (flow : FlowSub) : Type 0 where
  pub formals : flow.formals ≡ sub.formals
  pub points : 0 < length flow.points

laid_out : (s : Typing) (n : ℕ) (all : List Temporary) (sub : TypedSub) → IsLaidOut s sub (flow_sub s (named_sub s n all sub))
laid_out s n all sub =
    let setting : Setting = record { typing = s; temporary = numbers_from n all } in
    let facts = sub_facts s sub (sub_points setting sub) in
    let f = frame_of s sub (kept_roots s 0 s.objects facts) in
    let points = sub_points setting sub in
    record { formals = refl; points = subst (λ k. 0 < k) (sym (length-map points (flow_point f (number_in points)))) (has_end setting sub) }

nth_laid : (s : Typing) (k n : ℕ) (subs : List TypedSub) (sub : TypedSub) → IsSub subs n sub → IsLaidOut s sub (get_or (map (flow_sub s) (named_subs s k subs)) n no_sub)
nth_laid s k n subs sub is =
    subst (λ l. IsLaidOut s sub (get_or (map (flow_sub s) (named_subs s k l)) n no_sub)) (sym is.2) (by k n is.0 is.3)
  where
    by : (k n : ℕ) (front : List TypedSub) → length front ≡ n → IsLaidOut s sub (get_or (map (flow_sub s) (named_subs s k (front ++ sub ∷ is.1))) n no_sub)
    by k zero [] at = laid_out s k (sub_temporaries s sub) sub
    by k (suc n) [] at = absurd (omega (arith, at))
    by k zero (x ∷ front) at = absurd (omega (arith, at))
    by k (suc n) (x ∷ front) at = by (k + length (sub_temporaries s x)) n front (omega (arith, at))

-- ---- all of a program

pub in_list : (xs ys : List TypedSub) (sub : TypedSub) → Has (xs ++ sub ∷ ys) sub
in_list [] ys sub = inl refl
in_list (x ∷ xs) ys sub = inr (in_list xs ys sub)

pub nth_there : (subs : List TypedSub) (n : ℕ) → n < length subs → (sub : TypedSub) × IsSub subs n sub
nth_there [] n low = absurd (omega (arith, low))
nth_there (x ∷ subs) zero low = (x, ([], subs, refl, refl))
nth_there (x ∷ subs) (suc n) low =
    let rest = nth_there subs n (omega (arith, low)) in
    (rest.0, (x ∷ rest.1.0, rest.1.1, ap (λ l. x ∷ l) rest.1.2, ap suc rest.1.3))

-- Objects keep their numbers where temporaries follow.
object_kept : (objects more : List Object) (x : ℕ) → x < length objects → get_or (objects ++ more) x text_io ≡ get_or objects x text_io
object_kept [] more x low = absurd (omega (arith, low))
object_kept (o ∷ objects) more zero low = refl
object_kept (o ∷ objects) more (suc x) low = object_kept objects more x (omega (arith, low))

module _ (table : Table) (program : TypedProgram) (order : CanEnter table program) where
  abbrev flow : FlowProgram
  flow = flow_program table program

  -- the others follow the first one
  pub sub_is : (n : ℕ) (sub : TypedSub) → IsSub order.rest n sub → IsLaidOut (typing_of table program) sub (sub_of flow (suc n))
  unfolding flow_program
  sub_is n sub is =
      subst (λ l. IsLaidOut (typing_of table program) sub (get_or (map (flow_sub (typing_of table program)) (all_named (typing_of table program) l)) (suc n) no_sub)) (sym order.subs)
      (nth_laid (typing_of table program) (length (typing_of table program).objects) n order.rest sub is)

  pub first_formals : (sub_of flow 0).formals ≡ order.first.formals
  unfolding flow_program
  first_formals = ap (λ l. (get_or (map (flow_sub (typing_of table program)) (all_named (typing_of table program) l)) 0 no_sub).formals) order.subs

  object_is : (x : ℕ) → x < length program.objects → object_at (flow_typing flow) x ≡ object_at (typing_of table program) x
  unfolding flow_program
  object_is x low = object_kept program.objects (map temporary_object (flat_map (λ (n : NamedSub). n.temporaries) (flow_named table program))) x low

  callable : (n : ℕ) (sub : TypedSub) → IsSub order.rest n sub → IsCallable flow (suc n)
  callable n sub is =
      let there : Has order.rest sub = subst (λ l. Has l sub) (sym is.2) (in_list is.0 is.1 sub) in
      let out = sub_is n sub is in
      record {
        points = out.points;
        other = not_zero n;
        formals = subst AreDifferent (sym out.formals) (different sub.formals (order.once sub there));
        own = λ x has.
            let formal : Has sub.formals x = subst (λ l. Has l x) out.formals has in
            ap (λ (o : Object). is_some o.«package» && not (is_state o.kind)) (object_is x (order.within sub there x formal)) ∙ order.own sub there x formal;
      }
    where
      not_zero : (n : ℕ) → (suc n == 0) ≡ false
      not_zero n = grind arith

  main_callable : (n : ℕ) → flow.main ≡ Some n → IsCallable flow n
  unfolding flow_program
  main_callable n is =
      let main = order.main n is in
      subst (λ k. IsCallable flow k) (sym main.2) (callable main.0 main.1 main.3)

  pub rest_long : length flow.subs ≡ suc (length order.rest)
  unfolding flow_program
  rest_long =
      length-map (flow_named table program) (flow_sub (typing_of table program)) ∙ ap (λ l. length (all_named (typing_of table program) l)) order.subs
      ∙ ap suc (named_long (length (typing_of table program).objects) order.rest)
    where
      named_long : (k : ℕ) (subs : List TypedSub) → length (named_subs (typing_of table program) k subs) ≡ length subs
      named_long k [] = refl
      named_long k (x ∷ subs) = ap suc (named_long (k + length (sub_temporaries (typing_of table program) x)) subs)

  pub called : (n : ℕ) → 0 < n → n < length flow.subs → IsCallable flow n
  called zero some low = absurd (omega (arith, some))
  called (suc n) some low =
      let sub = nth_there order.rest n (inside n (length order.rest) (length flow.subs) low rest_long) in
      callable n sub.0 sub.1
    where
      inside : (n a b : ℕ) → suc n < b → b ≡ suc a → n < a
      inside n a b low is = omega (arith, low, is)

  pub has_frames : CallsStand flow → HasFrames flow
  has_frames calls = record {
    packages = subst AreDifferent (sym first_formals) (different order.first.formals order.packages);
    main = main_callable;
    calls = λ n k sub e result low is. let there = calls n k sub e result low is in called sub there.0 there.1;
  }
