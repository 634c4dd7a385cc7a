-- The tests of rows hold where they hold of the program that these stand for.
use Rattle.std.proofs.Common.{◌≡◌, refl, sym, ap, subst, inl, inr, ℕ, suc, ◌<◌, true, not, ◌&&◌, List, [], ◌∷◌, map, length, get_or, nat_lt, arith, Option, Some, None}
use Rattle.std.specs.List.{list_all}
use Rattle.std.proofs.lemmas.Bool.{and_from}
use Rattle.std.proofs.lemmas.List.{length-map}
use Rattle.machine.specs.spark_base.Lists.{Has}
use Rattle.machine.specs.typed_tree.declared.object.Object.{Object}
use Rattle.machine.specs.typed_tree.Nodes.{TypedNodes, typed_at, typed_code_at}
use Rattle.machine.specs.typed_tree.Trees.{TypedTree}
use Rattle.machine.specs.flow_paths.declared.instr.Instr.{Instr}
use Rattle.machine.specs.flow_paths.declared.instr.Instr.TheVariants as instr
use Rattle.machine.specs.flow_paths.declared.point.Point.{Point}
use Rattle.machine.specs.flow_paths.declared.point.LaidSub.{LaidSub}
use Rattle.machine.specs.flow_paths.Instructions.{Instruction, Call, instruction_of}
use Rattle.machine.specs.flow_paths.Laid.{FlowSub}
use Rattle.machine.specs.flow_paths.Stands.{flow_point_of, flow_sub_of}
use Rattle.laid_program.specs.declared.laid.Laid.{Laid}
use Rattle.laid_program.specs.Programs.{program_of}
use Rattle.machine.specs.States.{no_sub}
use Rattle.machine.specs.Run.{no_point}
use Rattle.run_points.specs.Frames.{IsCallable}
use Rattle.run_ready.specs.Tests.{ascend, is_outside, is_called, call_stands, sub_calls, sub_enters, subs_enter, main_fits, frames_fit}
use Rattle.accepted_runs.specs.TestedFiles.Tested.{IsTested}

is_less : (a b : ℕ) → a < b → nat_lt a b ≡ true
is_less a b lt = grind (arith, lt)

is_one : (count n : ℕ) → 0 < n → n < count → is_called count n ≡ true
is_one count n some low = and_from (nat_lt 0 n) (nat_lt n count) (is_less 0 n some) (is_less n count low)

-- ---- what is called

module _ (rows : TypedNodes) (count : ℕ) where
  abbrev Called : Instruction → Type 0
  Called i = (sub : ℕ) (e : TypedTree) (result : Option ℕ) → i ≡ Call sub e result → is_called count sub ≡ true

  stands : (i : Instr) → Called (instruction_of (typed_at rows) (typed_code_at rows) i) → call_stands count i ≡ true
  stands (instr.Call sub actuals result) called = called sub (typed_at rows actuals) result refl
  stands instr.Skip called = refl
  stands (instr.Declare x v) called = refl
  stands (instr.Assign target source) called = refl
  stands (instr.Output text line) called = refl
  stands (instr.Input target) called = refl
  stands (instr.Release m) called = refl
  stands (instr.Test c) called = refl
  stands (instr.Choose c choices) called = refl
  stands (instr.Start x reversed low high) called = refl
  stands (instr.Next x reversed low high) called = refl
  stands (instr.Evaluate t v left) called = refl
  stands (instr.LeaveLoop c) called = refl
  stands (instr.Hold v) called = refl
  stands (instr.EndScope x) called = refl
  stands instr.Finish called = refl
  stands instr.Fall called = refl

  points_stand : (points : List Point)
      → ((k : ℕ) → k < length (map (flow_point_of rows) points) → Called (get_or (map (flow_point_of rows) points) k no_point).instr)
      → list_all (λ (p : Point). call_stands count p.instr) points ≡ true
  points_stand [] called = refl
  points_stand (p ∷ points) called =
      and_from (call_stands count p.instr) (list_all (λ (p : Point). call_stands count p.instr) points) (stands p.instr (called 0 (omega arith)))
      (points_stand points (λ k low. called (suc k) (omega (arith, low))))

  subs_stand : (subs : List LaidSub)
      → ((n k : ℕ) → k < length (get_or (map (flow_sub_of rows) subs) n no_sub).points
      → Called (get_or (get_or (map (flow_sub_of rows) subs) n no_sub).points k no_point).instr)
      → list_all (sub_calls count) subs ≡ true
  subs_stand [] called = refl
  subs_stand (sub ∷ subs) called =
      and_from (sub_calls count sub) (list_all (sub_calls count) subs) (points_stand sub.points (called 0)) (subs_stand subs (λ n. called (suc n)))

-- ---- what is entered

module _ (rows : TypedNodes) (objects : List Object) where
  -- what is asked of the subprogram that a row stands for
  record Enters (sub : FlowSub) : Type 0 where
    pub ascends : ascend 0 sub.formals ≡ true
    pub outside : (x : ℕ) → Has sub.formals x → is_outside objects x ≡ true
    pub points : 0 < length sub.points

  each_outside : (xs : List ℕ) → ((x : ℕ) → Has xs x → is_outside objects x ≡ true) → list_all (is_outside objects) xs ≡ true
  each_outside [] each = refl
  each_outside (x ∷ xs) each =
      and_from (is_outside objects x) (list_all (is_outside objects) xs) (each x (inl refl)) (each_outside xs (λ y has. each y (inr has)))

  enters : (sub : LaidSub) → Enters (flow_sub_of rows sub) → sub_enters objects sub ≡ true
  enters sub e =
      and_from (ascend 0 sub.formals) (list_all (is_outside objects) sub.formals && nat_lt 0 (length sub.points)) e.ascends
      (and_from (list_all (is_outside objects) sub.formals) (nat_lt 0 (length sub.points)) (each_outside sub.formals e.outside)
      (is_less 0 (length sub.points) (subst (λ k. 0 < k) (length-map sub.points (flow_point_of rows)) e.points)))

  all_enter : (subs : List LaidSub) → ((n : ℕ) → n < length subs → Enters (get_or (map (flow_sub_of rows) subs) n no_sub)) → list_all (sub_enters objects) subs ≡ true
  all_enter [] each = refl
  all_enter (sub ∷ subs) each =
      and_from (sub_enters objects sub) (list_all (sub_enters objects) subs) (enters sub (each 0 (omega arith)))
      (all_enter subs (λ n low. each (suc n) (omega (arith, low))))

  rest_enters : (subs : List LaidSub) → ascend 0 (get_or (map (flow_sub_of rows) subs) 0 no_sub).formals ≡ true
      → ((n : ℕ) → 0 < n → n < length subs → Enters (get_or (map (flow_sub_of rows) subs) n no_sub)) → subs_enter objects subs ≡ true
  rest_enters [] first each = refl
  rest_enters (sub ∷ subs) first each =
      and_from (ascend 0 sub.formals) (list_all (sub_enters objects) subs) first
      (all_enter subs (λ n low. each (suc n) (omega arith) (omega (arith, low))))

-- ---- all of a program

module _ (laid : Laid) (tested : IsTested (program_of laid)) where
  abbrev count : ℕ
  count = length laid.subs

  long : length (program_of laid).subs ≡ count
  long = length-map laid.subs (flow_sub_of laid.rows)

  calls : list_all (sub_calls count) laid.subs ≡ true
  calls =
      subs_stand laid.rows count laid.subs
      (λ n k low sub e result is. (let there = tested.calls n k sub e result low is in is_one count sub there.0 (subst (λ m. sub < m) long there.1)))

  entered : (n : ℕ) → 0 < n → n < count → Enters laid.rows laid.objects (get_or (map (flow_sub_of laid.rows) laid.subs) n no_sub)
  entered n some low =
      let there : n < length (program_of laid).subs = subst (λ m. n < m) (sym long) low in
      let callable : IsCallable (program_of laid) n = tested.callable n some there in
      record { ascends = tested.ascends n some there; outside = λ x has. ap not (callable.own x has); points = callable.points }

  main_is : (main : Option ℕ) → (program_of laid).main ≡ main → main_fits count main ≡ true
  main_is None is = refl
  main_is (Some n) is = (let there = tested.main n is in is_one count n there.0 (subst (λ m. n < m) long there.1))

  pub rows_tested : frames_fit laid ≡ true
  rows_tested =
      and_from (list_all (sub_calls count) laid.subs) (subs_enter laid.objects laid.subs && main_fits count laid.main) calls
      (and_from (subs_enter laid.objects laid.subs) (main_fits count laid.main) (rest_enters laid.rows laid.objects laid.subs tested.first entered)
      (main_is laid.main refl))
