-- What the class says of the program as it is laid out.
use Rattle.std.proofs.Common.{◌≡◌, sym, ap, ◌∙◌, subst, inl, inr, ℕ, suc, true, List, [], Some, None}
use Rattle.std.proofs.lemmas.Bool.{false≢true}
use Rattle.std.specs.Prelude.{is_some}
use Rattle.machine.specs.spark_base.Lists.{Has}
use Rattle.machine.specs.place_names.declared.act.Mode.TheVariants as mode
use Rattle.machine.specs.resolved_tree.Trees.{Program}
use Rattle.machine.specs.type_definitions.Types.{Table}
use Rattle.machine.specs.type_definitions.Whole.{known_of}
use Rattle.machine.specs.typed_tree.Programs.{TypedSub, typed_program}
use Rattle.machine.specs.flow_paths.Objects.{Typing, Signature, object_at, sub_at, is_formal}
use Rattle.machine.specs.flow_paths.Laid.{FlowProgram, flow_typing, flow_program}
use Rattle.soundness.proofs.Typings.{Agree, flow_agrees, formal_same}
use Rattle.settled_types.specs.OrderLaws.ReadyLaws.InOrder.{IsSub}
use Rattle.settled_types.specs.OrderLaws.Orderly.{typed_of, typing_in, bodies_of}
use Rattle.viewed_steps.specs.Sound.{IsScalarObject}
use Rattle.sound_files.proofs.Functions.{FunctionsTakeIn}
use Rattle.sound_files.proofs.Classes.{signature_at, signature_same, signature_there, mode_same}

module _ (p : Program) where
  abbrev table : Table
  table = (known_of p).table

  abbrev flow : FlowProgram
  flow = flow_program table (typed_of p)

  abbrev wide : Typing
  wide = flow_typing flow

  abbrev own : Typing
  own = typing_in p

  alike : Agree wide own
  alike = flow_agrees table (typed_of p)

  -- ---- formals

  -- Those of functions are of mode `in`.
  modes_own : FunctionsTakeIn p → (n t x : ℕ) → (sub_at own n).result ≡ Some t → Has (sub_at own n).formals x → (object_at own x).mode ≡ mode.In
  unfolding typed_program
  modes_own all n t x result has = elim (signature_at (typed_of p).subs n) [
    | inl none ↦ absurd (let no : None ≡ Some t = sym (ap (λ (z : Signature). z.result) none) ∙ result in false≢true (ap is_some no))
    | inr (sub, inl first, at) ↦ absurd (let no : None ≡ Some t = ap (λ (z : TypedSub). z.result) first ∙ sym (ap (λ (z : Signature). z.result) at) ∙ result in false≢true (ap is_some no))
    | inr (sub, inr there, at) ↦ all sub there t (sym (ap (λ (z : Signature). z.result) at) ∙ result) x (subst (λ (z : Signature). Has z.formals x) at has)
  ]

  mode_there : (x : ℕ) → (object_at wide x).mode ≡ (object_at own x).mode
  mode_there x = mode_same p x

  pub modes_there : FunctionsTakeIn p → (n t : ℕ) → (sub_at wide n).result ≡ Some t → (x : ℕ) → Has (sub_at wide n).formals x → (object_at wide x).mode ≡ mode.In
  modes_there all n t result x has =
      mode_there x
      ∙ modes_own all n t x (sym (ap (λ (z : Signature). z.result) (signature_same p n)) ∙ result) (subst (λ (z : Signature). Has z.formals x) (signature_same p n) has)

  -- What is a formal of a subprogram with a body is one.
  pub formals_wide : ((sub : TypedSub) → Has (bodies_of p) sub → (x : ℕ) → Has sub.formals x → is_formal own x ≡ true) → (n x : ℕ)
      → Has (sub_at wide n).formals x → is_formal wide x ≡ true
  unfolding typed_program
  formals_wide all n x has = formal_same wide own alike x ∙ by (subst (λ (z : Signature). Has z.formals x) (signature_same p n) has)
    where
      by : Has (sub_at own n).formals x → is_formal own x ≡ true
      by here = elim (signature_at (typed_of p).subs n) [
        | inl none ↦ absurd (subst (λ (z : Signature). Has z.formals x) none here)
        | inr (sub, inl first, at) ↦ absurd (subst (λ (fs : List ℕ). Has fs x) (ap (λ (z : Signature). z.formals) at ∙ sym (ap (λ (z : TypedSub). z.formals) first)) here)
        | inr (sub, inr there, at) ↦ all sub there x (subst (λ (z : Signature). Has z.formals x) at here)
      ]

  -- The main procedure has none.
  pub main_there : (n : ℕ) (sub : TypedSub) → IsSub (bodies_of p) n sub → sub.formals ≡ [] → (x : ℕ) → Has (sub_at wide (suc n)).formals x → IsScalarObject wide x
  main_there n sub stands none x has = absurd (subst (λ fs. Has fs x) (ap (λ (z : Signature). z.formals) (signature_there p n sub stands) ∙ none) has)
