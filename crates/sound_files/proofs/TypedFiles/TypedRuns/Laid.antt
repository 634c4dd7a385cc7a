-- The points of a program whose code has expressions of the types of their places.
use Rattle.std.proofs.Common.{◌≡◌, refl, sym, ap, subst, inl, inr, ℕ, ◌+◌, List, [], ◌∷◌, map, length}
use Rattle.std.specs.List.{AllByRecursion}
use Rattle.machine.specs.spark_base.Lists.{Has}
use Rattle.soundness.proofs.Lists.{Has-map_from}
use Rattle.machine.specs.type_definitions.Types.{Table}
use Rattle.machine.specs.typed_tree.Programs.{TypedSub, TypedProgram}
use Rattle.machine.specs.flow_paths.Objects.{Typing, Signature}
use Rattle.machine.specs.flow_paths.Points.{NamedPoint, FlowPoint, flow_point}
use Rattle.machine.specs.flow_paths.Prep.{Setting}
use Rattle.machine.specs.flow_paths.Laid.{Temporary, NamedSub, FlowSub, signature, typing_of, flow_typing, named_subs, sub_temporaries, numbers_from, unnumbered, all_named, frame_of, kept_roots, sub_facts, number_in, flow_sub, flow_named, flow_program}
use Rattle.sound_files.specs.TypedFiles.TypedRuns.Code.{IsTypedCode, IsTypedUse}
use Rattle.sound_files.proofs.TypedFiles.TypedRuns.Points.{Typed, sub_typed, elaboration_typed}

abbrev flow_signature : FlowSub → Signature
flow_signature sub = record { formals = sub.formals; result = sub.result }

named_signatures : (s : Typing) (n : ℕ) (subs : List TypedSub) → map flow_signature (map (flow_sub s) (named_subs s n subs)) ≡ map signature subs
named_signatures s n [] = refl
named_signatures s n (sub ∷ rest) = ap (λ xs. signature sub ∷ xs) (named_signatures s (n + length (sub_temporaries s sub)) rest)

signatures : (s : Typing) (subs : List TypedSub) → map flow_signature (map (flow_sub s) (all_named s subs)) ≡ map signature subs
signatures s [] = refl
signatures s (sub ∷ rest) = ap (λ xs. signature sub ∷ xs) (named_signatures s (length s.objects) rest)

-- What a program knows of its parts as it is laid out.
pub laid_typing : (table : Table) (typed : TypedProgram)
    → record { table = table; objects = (flow_program table typed).objects; subs = map signature typed.subs } ≡ flow_typing (flow_program table typed)
unfolding flow_program
laid_typing table typed =
    ap (λ xs. record { table = table; objects = (flow_program table typed).objects; subs = xs }) (sym (signatures (typing_of table typed) typed.subs))

all_has : {A : Type 0} (P : A → Type 0) (xs : List A) (x : A) → AllByRecursion P xs → Has xs x → P x
all_has P [] x all has = absurd has
all_has P (z ∷ xs) x all has = elim has [ inl is ↦ subst P is all.0 | inr more ↦ all_has P xs x all.1 more ]

-- y is what is known of objects and subprograms; s is what the layout goes by.
module _ (y s : Typing) where
  abbrev IsTypedSub : NamedSub → Type 0
  IsTypedSub named = Typed y named.sub.result named.points

  abbrev AreTypedSubs : List TypedSub → Type 0
  AreTypedSubs subs = (sub : TypedSub) → Has subs sub → IsTypedCode y sub.result sub.body

  each_named : (n : ℕ) (subs : List TypedSub) → AreTypedSubs subs → (named : NamedSub) → Has (named_subs s n subs) named → IsTypedSub named
  each_named n [] are named has = absurd has
  each_named n (sub ∷ rest) are named has =
      let all : List Temporary = sub_temporaries s sub in
      let setting : Setting = record { typing = s; temporary = numbers_from n all } in
      elim has [
        | inl is ↦ subst IsTypedSub is (sub_typed y sub.result setting sub (are sub (inl refl)))
        | inr more ↦ each_named (n + length all) rest (λ x there. are x (inr there)) named more
      ]

  all_typed : (subs : List TypedSub) → AreTypedSubs subs → (named : NamedSub) → Has (all_named s subs) named → IsTypedSub named
  all_typed [] are named has = absurd has
  all_typed (sub ∷ rest) are named has = elim has [
    | inl is ↦ subst IsTypedSub is (elaboration_typed y sub.result (unnumbered s) sub (are sub (inl refl)))
    | inr more ↦ each_named (length s.objects) rest (λ x there. are x (inr there)) named more
  ]

pub laid_typed : (table : Table) (typed : TypedProgram) (y : Typing) → ((sub : TypedSub) → Has typed.subs sub → IsTypedCode y sub.result sub.body)
    → (sub : FlowSub) → Has (flow_program table typed).subs sub → (p : FlowPoint) → Has sub.points p → IsTypedUse y sub.result p.instr
unfolding flow_program
laid_typed table typed y are sub has p there =
    let s : Typing = typing_of table typed in
    let from = Has-map_from (flow_sub s) (flow_named table typed) sub has in
    let named = from.0 in
    let made_point = flow_point (frame_of s named.sub (kept_roots s 0 s.objects (sub_facts s named.sub named.points))) (number_in named.points) in
    let at = Has-map_from made_point named.points p (subst (λ (x : FlowSub). Has x.points p) (sym from.2) there) in
    let same : at.0.instr ≡ p.instr = ap (λ (x : FlowPoint). x.instr) at.2 in
    let here : IsTypedUse y named.sub.result at.0.instr =
    all_has (λ (q : NamedPoint). IsTypedUse y named.sub.result q.instr) named.points at.0 (all_typed y s typed.subs are named from.1) at.1 in
    let result : named.sub.result ≡ sub.result = ap (λ (x : FlowSub). x.result) from.2 in
    subst (λ r. IsTypedUse y r p.instr) result (subst (λ i. IsTypedUse y named.sub.result i) same here)
