-- A program whose steps have expressions of the types of their places, and whose points have the successors that their
-- instructions lead to, is typed as the machine says it.
use Rattle.std.proofs.Common.{◌≡◌, refl, ap, ◌∙◌, subst, inl, inr, Bool, true, ◌&&◌, ℕ, List, [], ◌∷◌, length, nat_eq, Option, None}
use Rattle.std.specs.List.{list_all}
use Rattle.std.proofs.lemmas.Bool.{eq-eqb}
use Rattle.machine.specs.spark_base.Lists.{Has}
use Rattle.machine.specs.type_definitions.Types.{shape_of}
use Rattle.machine.specs.type_definitions.Entries.{integer, boolean}
use Rattle.machine.specs.flow_paths.Objects.{Typing}
use Rattle.machine.specs.flow_paths.Points.{FlowPoint}
use Rattle.machine.specs.flow_paths.Laid.{FlowSub, FlowProgram, flow_typing}
use Rattle.machine.specs.Typed.{successors, is_typed_instruction, is_typed_point, is_typed_sub, is_elaboration, are_typed_subs, is_typed}
use Rattle.soundness.specs.TypedLaws.Fine.{counts, lists}
use Rattle.soundness.proofs.TypedLaws.Agreeing.{Owns}
use Rattle.soundness.specs.TypedLaws.TypedSteps.Steps.{IsTypedStep, AreTyped, IsCounted, AreElaborated, AreCounted}
use Rattle.sound_files.proofs.TypedFiles.TypedRuns.Words.{SortsLaw, typed_step}

both_true : (a b : Bool) → a ≡ true → b ≡ true → a && b ≡ true
both_true a b e f = ap (λ x. x && b) e ∙ f

one_number : (m n : ℕ) → m ≡ n → nat_eq m n ≡ true
one_number m n e = eq-eqb m n e

all_true : {A : Type 0} (f : A → Bool) (xs : List A) → ((x : A) → Has xs x → f x ≡ true) → list_all f xs ≡ true
all_true f [] each = refl
all_true f (x ∷ xs) each = both_true (f x) (list_all f xs) (each x (inl refl)) (all_true f xs (λ z has. each z (inr has)))

-- The package objects have no result.
abbrev pub FirstNone : List FlowSub → Type 0
FirstNone [] = Unit {0}
FirstNone (first ∷ rest) = first.result ≡ None

module _ (y : Typing) (law : SortsLaw y.table) (owns : Owns y.table) (whole : counts (shape_of y.table integer) ≡ true) (listed : lists (shape_of y.table boolean) ≡ true) where
  point_typed : (result : Option ℕ) (p : FlowPoint) → IsTypedStep y result p.instr → IsCounted p → is_typed_point y result p ≡ true
  point_typed result p step counted =
      both_true (is_typed_instruction y result p.instr) (nat_eq (length p.next) (successors p.instr)) (typed_step y law owns whole listed result p.instr step)
      (one_number (length p.next) (successors p.instr) counted)

  elaborated : (ps : List FlowPoint) → ((p : FlowPoint) → Has ps p → IsTypedStep y None p.instr) → AreElaborated ps → is_elaboration y ps ≡ true
  unfolding is_elaboration AreElaborated
  elaborated [] steps counted = refl
  elaborated (p ∷ []) steps counted =
      both_true (is_typed_instruction y None p.instr) (nat_eq (length p.next) 0) (typed_step y law owns whole listed None p.instr (steps p (inl refl))) (one_number (length p.next) 0 counted)
  elaborated (p ∷ (q ∷ rest)) steps counted =
      both_true (is_typed_point y None p) (is_elaboration y (q ∷ rest)) (point_typed None p (steps p (inl refl)) counted.0) (elaborated (q ∷ rest) (λ r has. steps r (inr has)) counted.1)

  subs_typed : (subs : List FlowSub) → ((sub : FlowSub) → Has subs sub → (p : FlowPoint) → Has sub.points p → IsTypedStep y sub.result p.instr) → FirstNone subs → AreCounted subs
      → are_typed_subs y subs ≡ true
  subs_typed [] steps none counted = refl
  subs_typed (first ∷ rest) steps none counted =
      both_true (is_elaboration y first.points) (list_all (is_typed_sub y) rest)
      (elaborated first.points (λ p has. subst (λ r. IsTypedStep y r p.instr) none (steps first (inl refl) p has)) counted.0)
      (all_true (is_typed_sub y) rest
      (λ sub has. all_true (is_typed_point y sub.result) sub.points (λ p there. point_typed sub.result p (steps sub (inr has) p there) (counted.1 sub has p there))))

-- The law.
pub is_typed_program : (program : FlowProgram) → SortsLaw program.table → Owns program.table → counts (shape_of program.table integer) ≡ true
    → lists (shape_of program.table boolean) ≡ true → AreTyped program → FirstNone program.subs → AreCounted program.subs → is_typed program ≡ true
is_typed_program program law owns whole listed steps none counted = subs_typed (flow_typing program) law owns whole listed program.subs steps none counted
