-- The program as it is laid out beside that of the text: modes, signatures, and what is called.
use Rattle.std.proofs.Common.{◌≡◌, refl, sym, ap, ◌∙◌, subst, ◌⊎◌, inl, inr, ℕ, zero, suc, List, [], ◌∷◌, ◌++◌, map, length, get_or, None, is_some}
use Rattle.std.specs.Prelude.{flat_map}
use Rattle.std.specs.List.{AllByRecursion}
use Rattle.machine.specs.spark_base.Lists.{Has}
use Rattle.machine.specs.place_names.declared.act.Mode.TheVariants as mode
use Rattle.machine.specs.resolved_tree.Trees.{Program}
use Rattle.machine.specs.type_definitions.Types.{Table}
use Rattle.machine.specs.type_definitions.Whole.{known_of}
use Rattle.machine.specs.typed_tree.declared.object.Object.{Object}
use Rattle.machine.specs.typed_tree.declared.object.ObjectKind.TheVariants as object_kind
use Rattle.machine.specs.typed_tree.Programs.{TypedSub, text_io, typed_program}
use Rattle.machine.specs.flow_paths.Objects.{Typing, Signature, object_at, sub_at}
use Rattle.machine.specs.flow_paths.Laid.{Temporary, temporary_object, NamedSub, FlowProgram, signature, flow_typing, flow_named, flow_program}
use Rattle.soundness.proofs.Typings.{flow_agrees}
use Rattle.sound_files.specs.CalledSubs.Called.{HaveBodies}
use Rattle.soundness.specs.TypedLaws.TypedSteps.Steps.{IsTypedStep, AreTyped}
use Rattle.settled_types.specs.OrderLaws.ReadyLaws.InOrder.{IsSub, AreAnswered}
use Rattle.settled_types.specs.OrderLaws.Orderly.{typed_of, typing_in, bodies_of}
use Rattle.sound_files.proofs.Called.{called_body}

-- ---- objects

-- After the objects of the text come temporaries.
pub object_there : (xs : List Object) (ts : List Temporary) (x : ℕ)
    → (get_or (xs ++ map temporary_object ts) x text_io ≡ get_or xs x text_io)
    ⊎ (((get_or (xs ++ map temporary_object ts) x text_io).kind ≡ object_kind.Temporary) × ((get_or (xs ++ map temporary_object ts) x text_io).mode ≡ mode.In)
    × (get_or xs x text_io ≡ text_io))
object_there [] [] x = inl refl
object_there [] (t ∷ ts) zero = inr (refl, refl, refl)
object_there [] (t ∷ ts) (suc x) = object_there [] ts x
object_there (o ∷ xs) ts zero = inl refl
object_there (o ∷ xs) ts (suc x) = object_there xs ts x

abbrev temporaries_of : NamedSub → List Temporary
temporaries_of named = named.temporaries

pub all_of : {A : Type 0} (P : A → Type 0) (xs : List A) → ((x : A) → Has xs x → P x) → AllByRecursion P xs
all_of P [] each = tt
all_of P (x ∷ xs) each = (each x (inl refl), all_of P xs (λ z has. each z (inr has)))

pub signature_at : (subs : List TypedSub) (n : ℕ)
    → (get_or (map signature subs) n (record { formals = []; result = None }) ≡ record { formals = []; result = None })
    ⊎ ((sub : TypedSub) × Has subs sub × (get_or (map signature subs) n (record { formals = []; result = None }) ≡ signature sub))
signature_at [] n = inl refl
signature_at (sub ∷ subs) zero = inr (sub, inl refl, refl)
signature_at (sub ∷ subs) (suc n) = elim (signature_at subs n) [
  | inl none ↦ inl none
  | inr found ↦ inr (found.0, inr found.1, found.2)
]

module _ (p : Program) where
  abbrev table : Table
  table = (known_of p).table

  abbrev flow : FlowProgram
  flow = flow_program table (typed_of p)

  abbrev own : Typing
  own = typing_in p

  abbrev all_temporaries : List Temporary
  all_temporaries = flat_map temporaries_of (flow_named table (typed_of p))

  pub mode_same : (x : ℕ) → (object_at (flow_typing flow) x).mode ≡ (object_at own x).mode
  unfolding flow_program
  mode_same x = elim (object_there (typed_of p).objects all_temporaries x) [
    | inl same ↦ ap (λ (o : Object). o.mode) same
    | inr (kind, mode, none) ↦ mode ∙ sym (ap (λ (o : Object). o.mode) none)
  ]

  -- ---- subprograms

  pub signature_same : (n : ℕ) → sub_at (flow_typing flow) n ≡ sub_at own n
  signature_same n = ap (λ (subs : List Signature). get_or subs n (record { formals = []; result = None })) (flow_agrees table (typed_of p)).subs

  -- ---- what is called

  signature_in : (front rest : List TypedSub) (sub : TypedSub) (d : Signature) → get_or (map signature (front ++ sub ∷ rest)) (length front) d ≡ signature sub
  signature_in [] rest sub d = refl
  signature_in (x ∷ front) rest sub d = signature_in front rest sub d

  pub signature_there : (k : ℕ) (callee : TypedSub) → IsSub (bodies_of p) k callee → sub_at (flow_typing flow) (suc k) ≡ signature callee
  unfolding typed_program
  signature_there k callee (front, rest, is, long) =
      signature_same (suc k)
      ∙ ap (λ n. get_or (map signature (bodies_of p)) n (record { formals = []; result = None })) (sym long)
      ∙ ap (λ xs. get_or (map signature xs) (length front) (record { formals = []; result = None })) is
      ∙ signature_in front rest callee (record { formals = []; result = None })

  result_there : (k : ℕ) (callee : TypedSub) → IsSub (bodies_of p) k callee → (sub_at (flow_typing flow) (suc k)).result ≡ callee.result
  result_there k callee is = ap (λ (z : Signature). z.result) (signature_there k callee is)

  -- Where steps are typed, it has a body, and is a function where the call has a result.
  pub are_answered : HaveBodies p → AreTyped flow → AreAnswered table (typed_of p) (bodies_of p)
  are_answered bodies typed sub has q there n actuals result is =
      let found = called_body p bodies sub has q there n actuals result is in
      let step = subst (λ i. IsTypedStep (flow_typing flow) sub.result i) is (typed sub has q there) in (
        found.0,
        found.1,
        found.2,
        found.3,
        sym (ap is_some (result_there found.0 found.1 found.3)) ∙ sym (ap (λ m. is_some (sub_at (flow_typing flow) m).result) found.2) ∙ step.2,
      )
