-- What the tests say of the subprograms of a program, of a typed program that can be entered.
use Rattle.std.proofs.Common.{◌≡◌, refl, sym, ap, ◌∙◌, subst, inl, inr, ℕ, zero, suc, ◌<◌, true, List, ◌∷◌, length, length-append, arith, Some}
use Rattle.machine.specs.spark_base.Lists.{Has}
use Rattle.machine.specs.type_definitions.Types.{Table}
use Rattle.machine.specs.typed_tree.Programs.{TypedSub, TypedProgram}
use Rattle.machine.specs.flow_paths.Laid.{FlowProgram, flow_program}
use Rattle.machine.specs.States.{sub_of}
use Rattle.settled_types.specs.OrderLaws.ReadyLaws.InOrder.{IsSub}
use Rattle.run_ready.specs.Tests.{ascend}
use Rattle.accepted_runs.specs.TestedFiles.RunTables.Calls.{CallsStand}
use Rattle.accepted_runs.specs.TestedFiles.RunTables.Entered.{CanEnter}
use Rattle.accepted_runs.specs.TestedFiles.Tested.{IsTested}
use Rattle.accepted_runs.proofs.TestedFiles.RunTables.Frames.{in_list, nth_there, sub_is, first_formals, rest_long, called}

is_there : (subs : List TypedSub) (n : ℕ) (sub : TypedSub) → IsSub subs n sub → Has subs sub
is_there subs n sub is = subst (λ l. Has l sub) (sym is.2) (in_list is.0 is.1 sub)

sub_low : (subs : List TypedSub) (n : ℕ) (sub : TypedSub) → IsSub subs n sub → n < length subs
sub_low subs n sub is =
    let whole = ap length is.2 in
    let long = length-append is.0 (sub ∷ is.1) in
    let at = is.3 in
    omega (arith, whole, long, at)

module _ (table : Table) (program : TypedProgram) (order : CanEnter table program)
    (each : (sub : TypedSub) → Has program.subs sub → ascend 0 sub.formals ≡ true) where
  abbrev flow : FlowProgram
  flow = flow_program table program

  one_of : (sub : TypedSub) → Has (order.first ∷ order.rest) sub → ascend 0 sub.formals ≡ true
  one_of sub has = each sub (subst (λ l. Has l sub) (sym order.subs) has)

  ascends : (n : ℕ) → 0 < n → n < length flow.subs → ascend 0 (sub_of flow n).formals ≡ true
  ascends zero some low = absurd (omega (arith, some))
  ascends (suc n) some low =
      let sub = nth_there order.rest n (inside n (length order.rest) (length flow.subs) low (rest_long table program order)) in
      subst (λ xs. ascend 0 xs ≡ true) (sym (sub_is table program order n sub.0 sub.1).formals) (one_of sub.0 (inr (is_there order.rest n sub.0 sub.1)))
    where
      inside : (n a b : ℕ) → suc n < b → b ≡ suc a → n < a
      inside n a b low is = omega (arith, low, is)

  same_main : program.main ≡ flow.main
  unfolding flow_program
  same_main = refl

  main_there : (n : ℕ) → flow.main ≡ Some n → (0 < n) × (n < length flow.subs)
  main_there n is =
      let main = order.main n (same_main ∙ is) in
      let low = sub_low order.rest main.0 main.1 main.3 in
      let at = main.2 in
      let long = rest_long table program order in
      (omega (arith, at), omega (arith, at, low, long))

  pub flow_tested : CallsStand flow → IsTested flow
  flow_tested calls = record {
    calls = calls;
    first = subst (λ xs. ascend 0 xs ≡ true) (sym (first_formals table program order)) (one_of order.first (inl refl));
    ascends = ascends;
    callable = called table program order;
    main = main_there;
  }
