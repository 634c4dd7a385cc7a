-- The points of a program whose code is as soundness needs it are so.
use Rattle.std.proofs.Common.{◌≡◌, refl, sym, ap, subst, inl, inr, ℕ, ◌+◌, true, List, [], ◌∷◌, map, length, Option}
use Rattle.std.specs.List.{AllByRecursion}
use Rattle.machine.specs.spark_base.Lists.{Has}
use Rattle.spark_base.proofs.Lists.{Has-map_from}
use Rattle.machine.specs.type_definitions.Types.{Table}
use Rattle.machine.specs.typed_tree.declared.node.ShortCircuit.{ShortCircuit}
use Rattle.machine.specs.typed_tree.Trees.{TypedTree}
use Rattle.machine.specs.typed_tree.Programs.{TypedSub, TypedProgram}
use Rattle.machine.specs.flow_paths.Instructions.{Instruction, Evaluate}
use Rattle.machine.specs.flow_paths.Objects.{Typing, Signature}
use Rattle.machine.specs.flow_paths.Points.{FlowPoint, flow_point}
use Rattle.machine.specs.flow_paths.Prep.{Setting}
use Rattle.machine.specs.flow_paths.Laid.{Temporary, NamedSub, FlowSub, signature, typing_of, flow_typing, named_subs, sub_temporaries, numbers_from, unnumbered, all_named, frame_of, kept_roots, sub_facts, number_in, flow_sub, flow_named, flow_program}
use Rattle.soundness.specs.TypedLaws.Needed.{Stays, IsFine, AreFine}
use Rattle.soundness.specs.TypedLaws.TypedPoints.Code.{IsFineCode, IsFinePoint, is_whole, AreEvaluated}
use Rattle.soundness.proofs.TypedLaws.TypedPoints.Points.{sub_fine, elaboration_fine}

-- A subprogram with its points.
abbrev IsFineSub : Typing → NamedSub → Type 0
IsFineSub s named = AllByRecursion (IsFinePoint s named.sub.result) named.points

abbrev AreFineSubs : Typing → List TypedSub → Type 0
AreFineSubs s subs = (sub : TypedSub) → Has subs sub → IsFineCode s sub.result sub.body

-- Code is laid out by what is known of its program without temporaries, `s`, and is fine by what is known with
-- them, `y`.
each_named : (y s : Typing) (n : ℕ) (subs : List TypedSub) → AreFineSubs y subs → (named : NamedSub) → Has (named_subs s n subs) named → IsFineSub y named
each_named y s n [] fine named has = absurd has
each_named y s n (sub ∷ rest) fine named has =
    let all : List Temporary = sub_temporaries s sub in
    let setting : Setting = record { typing = s; temporary = numbers_from n all } in
    elim has [
      | inl is ↦ subst (IsFineSub y) is (sub_fine y sub.result setting sub (fine sub (inl refl)))
      | inr more ↦ each_named y s (n + length all) rest (λ x there. fine x (inr there)) named more
    ]

all_fine : (y s : Typing) (subs : List TypedSub) → AreFineSubs y subs → (named : NamedSub) → Has (all_named s subs) named → IsFineSub y named
all_fine y s [] fine named has = absurd has
all_fine y s (sub ∷ rest) fine named has = elim has [
  | inl is ↦ subst (IsFineSub y) is (elaboration_fine y sub.result (unnumbered s) sub (fine sub (inl refl)))
  | inr more ↦ each_named y s (length s.objects) rest (λ x there. fine x (inr there)) named more
]

-- ---- what is known of the parts of a program that is laid out

abbrev flow_signature : FlowSub → Signature
flow_signature sub = record { formals = sub.formals; result = sub.result }

named_signatures : (s : Typing) (n : ℕ) (subs : List TypedSub) → map flow_signature (map (flow_sub s) (named_subs s n subs)) ≡ map signature subs
named_signatures s n [] = refl
named_signatures s n (sub ∷ rest) = ap (λ xs. signature sub ∷ xs) (named_signatures s (n + length (sub_temporaries s sub)) rest)

signatures : (s : Typing) (subs : List TypedSub) → map flow_signature (map (flow_sub s) (all_named s subs)) ≡ map signature subs
signatures s [] = refl
signatures s (sub ∷ rest) = ap (λ xs. signature sub ∷ xs) (named_signatures s (length s.objects) rest)

pub flow_knows : (table : Table) (typed : TypedProgram)
    → flow_typing (flow_program table typed) ≡ record { table = table; objects = (flow_program table typed).objects; subs = map signature typed.subs }
unfolding flow_program
flow_knows table typed =
    ap (λ xs. record { table = table; objects = (flow_program table typed).objects; subs = xs }) (signatures (typing_of table typed) typed.subs)

has_all : {A : Type 0} (P : A → Type 0) (xs : List A) (x : A) → AllByRecursion P xs → Has xs x → P x
has_all P [] x all has = absurd has
has_all P (z ∷ xs) x all has = elim has [ inl is ↦ subst P is all.0 | inr more ↦ has_all P xs x all.1 more ]

-- Each instruction is an operand by itself, or it isn't.
either_fine : (y : Typing) (result : Option ℕ) (i : Instruction) → (is_whole i ≡ true → IsFine y result i)
    → ((t : ℕ) (e : TypedTree) (left : Option ShortCircuit) → i ≡ Evaluate t e left → Stays y e) → IsFine y result i
either_fine y result (Evaluate t e left) whole evaluated = evaluated t e left refl
either_fine y result i whole evaluated = whole refl

pub laid_fine : (table : Table) (typed : TypedProgram) → AreEvaluated (flow_program table typed)
    → AreFineSubs (flow_typing (flow_program table typed)) typed.subs → AreFine (flow_program table typed)
unfolding flow_program
laid_fine table typed evaluated fine sub has p there =
    let s : Typing = typing_of table typed in
    let y : Typing = flow_typing (flow_program table typed) in
    let from = Has-map_from (flow_sub s) (flow_named table typed) sub has in
    let named = from.0 in
    let made_point = flow_point (frame_of s named.sub (kept_roots s 0 s.objects (sub_facts s named.sub named.points))) (number_in named.points) in
    let at = Has-map_from made_point named.points p (subst (λ (x : FlowSub). Has x.points p) (sym from.2) there) in
    let same : at.0.instr ≡ p.instr = ap (λ (x : FlowPoint). x.instr) at.2 in
    let result : named.sub.result ≡ sub.result = ap (λ (x : FlowSub). x.result) from.2 in
    either_fine y sub.result p.instr
    (λ whole.
    let here : IsFine y named.sub.result at.0.instr
    = has_all (IsFinePoint y named.sub.result) named.points at.0 (all_fine y s typed.subs fine named from.1) at.1 (subst (λ i. is_whole i ≡ true) (sym same) whole) in
    subst (λ r. IsFine y r p.instr) result (subst (λ i. IsFine y named.sub.result i) same here))
    (evaluated sub has p there)
