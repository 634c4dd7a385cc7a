-- The law: the steps of a program without a fault of typing have expressions of the types of their places.
use Rattle.std.proofs.Common.{◌≡◌, refl, subst, inl, inr, ℕ, ◌+◌, true, false, List, [], ◌∷◌, ◌++◌, Option, None, Some, if◌then◌else◌, ap}
use Rattle.std.specs.Prelude.{flat_map, is_some}
use Rattle.std.specs.List.{AllByRecursion}
use Rattle.std.proofs.lemmas.Bool.{true≢false}
use Rattle.machine.specs.spark_base.Lists.{Has}
use Rattle.machine.specs.resolved_tree.Trees.{Code, More, SubBody, Package, PackageBody, Program}
use Rattle.machine.specs.type_definitions.declared.table.Known.{Known}
use Rattle.machine.specs.type_definitions.declared.judgement.Fault.{Fault}
use Rattle.machine.specs.type_definitions.Faults.{first, precedes}
use Rattle.machine.specs.type_definitions.Gathered.{declared_number, in_subprogram, in_visible, in_hidden}
use Rattle.machine.specs.type_definitions.Declarations.{code_faults, body_faults, in_body}
use Rattle.machine.specs.type_definitions.Whole.{TypeFault, outside, unit_faults, main_faults, sentence_faults, type_sizes, decided, fault_known, told, known_of, known_with, type_fault}
use Rattle.machine.specs.typed_tree.declared.object.Object.{Object}
use Rattle.machine.specs.typed_tree.Expressions.{Site}
use Rattle.machine.specs.typed_tree.Statements.{scope_count, statements}
use Rattle.machine.specs.typed_tree.Programs.{TypedSub, placed, over_units, subs_in, typed_program}
use Rattle.machine.specs.typed_tree.Programs as programs
use Rattle.machine.specs.flow_paths.Objects.{Typing, Signature}
use Rattle.machine.specs.flow_paths.Points.{FlowPoint}
use Rattle.machine.specs.flow_paths.Laid.{FlowSub, flow_typing}
use Rattle.soundness.specs.TypedLaws.Fine.{Laws}
use Rattle.soundness.proofs.TypedLaws.Agreeing.{nil_left, nil_right}
use Rattle.soundness.specs.TypedLaws.TypedPoints.Meant.{AreMeantBodies, AreMeantObjects}
use Rattle.soundness.specs.TypedLaws.TypedSteps.Steps.{AreTyped}
use Rattle.sound_files.specs.TypedFiles.TypedRuns.Code.{IsTypedUse, IsTypedCode}
use Rattle.sound_files.specs.TypedFiles.TypedRuns.Formals.{AreProfiled}
use Rattle.sound_files.specs.TypedFiles.TypedRuns.Bounds.{HaveBounds}
use Rattle.sound_files.specs.TypedFiles.TypedRuns.Meant.{typed_in, laid_in, site_in, typing_laid, IsMeantText}
use Rattle.sound_files.proofs.TypedFiles.TypedRuns.Bodies.{code_typed, body_typed, listed}
use Rattle.sound_files.proofs.TypedFiles.TypedRuns.Laid.{laid_typing, laid_typed}

-- ---- faults

noted_some : (f : Fault) (faults : List Fault) → first (f ∷ faults) ≡ None → ⊥
noted_some f [] e = true≢false (ap is_some e)
noted_some f (g ∷ faults) e = noted_some (if precedes g f then g else f) faults e

first_none : (faults : List Fault) → first faults ≡ None → faults ≡ []
first_none [] e = refl
first_none (f ∷ faults) e = absurd (noted_some f faults e)

told_none : (found asked : Option TypeFault) → told found asked ≡ None → found ≡ None
told_none None asked e = refl
told_none (Some f) None e = absurd (true≢false (ap is_some e))
told_none (Some f) (Some g) e = absurd (true≢false (ap is_some e))

decided_none : (sizes sentences : Option Fault) → decided sizes sentences ≡ None → sentences ≡ None
decided_none (Some f) k e = absurd (true≢false (ap is_some e))
decided_none None (Some f) e = absurd (true≢false (ap is_some e))
decided_none None None e = refl

no_fault : (p : Program) → type_fault p ≡ None → sentence_faults (known_of p) p.units ≡ []
unfolding type_fault
no_fault p e =
    first_none (sentence_faults (known_of p) p.units)
    (decided_none (first (type_sizes (known_of p) p.units)) (first (sentence_faults (known_of p) p.units))
    (told_none (fault_known (known_of p) p.units) (fault_known (known_with true p) p.units) e))

unit_none : (known : Known) (units : List Code) → flat_map (unit_faults (outside known)) units ≡ [] → (u : Code) → Has units u → code_faults (outside known) u ≡ []
unit_none known [] e u has = absurd has
unit_none known (v ∷ units) e u has = elim has [
  | inl is ↦ subst (λ x. code_faults (outside known) x ≡ []) is (nil_left (code_faults (outside known) v) (main_faults v) (nil_left (unit_faults (outside known) v) _ e))
  | inr more ↦ unit_none known units (nil_right (unit_faults (outside known) v) _ e) u more
]

-- ---- lists

over_all : {A : Type 0} (P : A → Type 0) (f : ℕ → Code → List A) (n : ℕ) (units : List Code) → ((n : ℕ) (u : Code) → Has units u → AllByRecursion P (f n u))
    → AllByRecursion P (over_units f n units)
over_all P f n [] each = tt
over_all P f n (u ∷ rest) each = both P (f n u) (over_units f (n + scope_count u) rest) (each n u (inl refl)) (over_all P f (n + scope_count u) rest (λ m v has. each m v (inr has)))
  where
    both : {A : Type 0} (P : A → Type 0) (xs ys : List A) → AllByRecursion P xs → AllByRecursion P ys → AllByRecursion P (xs ++ ys)
    both P [] ys h g = g
    both P (x ∷ xs) ys h g = (h.0, both P xs ys h.1 g)

all_has : {A : Type 0} (P : A → Type 0) (xs : List A) (x : A) → AllByRecursion P xs → Has xs x → P x
all_has P [] x all has = absurd has
all_has P (z ∷ xs) x all has = elim has [ inl is ↦ subst P is all.0 | inr more ↦ all_has P xs x all.1 more ]

-- ---- subprograms

both : {A : Type 0} (P : A → Type 0) (xs ys : List A) → AllByRecursion P xs → AllByRecursion P ys → AllByRecursion P (xs ++ ys)
both P [] ys h g = g
both P (x ∷ xs) ys h g = (h.0, both P xs ys h.1 g)

abbrev IsTypedBody : Typing → TypedSub → Type 0
IsTypedBody y sub = IsTypedCode y sub.result sub.body

abbrev about : Site → List Object → List Signature → Typing
about s objects subs = record { table = s.context.known.table; objects = objects; subs = subs }

bodies_typed : (s : Site) (objects : List Object) (subs : List Signature) (made : ℕ → Type 0) → Laws s.context.known made
    → AreProfiled s.context.known s.bodies (about s objects subs) made → HaveBounds s.context.known.table → (n : ℕ) (u : Code)
    → AreMeantBodies s (about s objects subs) made u → code_faults s.context u ≡ []
    → AllByRecursion (IsTypedBody (about s objects subs)) (subs_in s n u)
unfolding subs_in code_faults AreMeantBodies
bodies_typed s objects subs made laws profiled bounds n (SubBody front items stmts end) meant none =
    let inner : Site = placed (in_subprogram front) s in
    let more = nil_right (body_faults s.context front) _ none in (
      body_typed inner objects subs made laws profiled bounds false (n + 1) items stmts meant.0 meant.1
          (nil_left (code_faults (in_body front s.context) items) _ more) (nil_right (code_faults (in_body front s.context) items) _ more),
      tt,
    )
bodies_typed s objects subs made laws profiled bounds n (PackageBody d parts) meant none =
    bodies_typed (placed (in_hidden (declared_number d)) s) objects subs made laws profiled bounds n parts meant none
bodies_typed s objects subs made laws profiled bounds n (More a rest) meant none =
    both (IsTypedBody (about s objects subs)) (subs_in s n a) (subs_in s (n + scope_count a) rest)
    (bodies_typed s objects subs made laws profiled bounds n a meant.0 (nil_left (code_faults s.context a) _ none))
    (bodies_typed s objects subs made laws profiled bounds (n + scope_count a) rest meant.1 (nil_right (code_faults s.context a) _ none))
bodies_typed s objects subs made laws profiled bounds n u meant none = tt

-- ---- package objects

objects_typed : (known : Known) (numbers bodies : List ℕ) (objects : List Object) (subs : List Signature) (made : ℕ → Type 0) → Laws known made
    → AreProfiled known bodies (record { table = known.table; objects = objects; subs = subs }) made → HaveBounds known.table → (n : ℕ) (u : Code)
    → AreMeantObjects (record { context = outside known; objects = numbers; bodies = bodies }) (record { table = known.table; objects = objects; subs = subs }) made u
    → code_faults (outside known) u ≡ []
    → AllByRecursion (IsTypedCode (record { table = known.table; objects = objects; subs = subs }) None) (programs.elaborated (record { context = outside known; objects = numbers; bodies = bodies }) n u)
unfolding code_faults
objects_typed known numbers bodies objects subs made laws profiled bounds n (Package d visible hidden) meant none =
    let s : Site = record { context = outside known; objects = numbers; bodies = bodies } in
    let outer : Site = placed (in_visible (declared_number d)) s in
    let inner : Site = placed (in_hidden (declared_number d)) s in
    both (IsTypedCode (record { table = known.table; objects = objects; subs = subs }) None) (statements outer n visible) (statements inner (n + scope_count visible) hidden)
    (code_typed outer objects subs made laws profiled bounds false n visible meant.0 (nil_left (code_faults outer.context visible) _ none))
    (code_typed inner objects subs made laws profiled bounds false (n + scope_count visible) hidden meant.1 (nil_right (code_faults outer.context visible) _ none))
objects_typed known numbers bodies objects subs made laws profiled bounds n (PackageBody d parts) meant none =
    let s : Site = record { context = outside known; objects = numbers; bodies = bodies } in
    code_typed (placed (in_hidden (declared_number d)) s) objects subs made laws profiled bounds false n parts meant none
objects_typed known numbers bodies objects subs made laws profiled bounds n u meant none = tt

-- ---- programs

program_typed : (p : Program) (made : ℕ → Type 0) → Laws (known_of p) made → IsMeantText p made → ((u : Code) → Has p.units u → code_faults (outside (known_of p)) u ≡ [])
    → (sub : TypedSub) → Has (typed_in p).subs sub → IsTypedBody (typing_laid p) sub
unfolding typed_program
program_typed p made laws text none sub has =
    let s : Site = site_in p in
    let y : Typing = typing_laid p in
    elim has [
      | inl is ↦ subst (IsTypedBody y) is
          (listed s y.objects y.subs made laws text.profiled text.bounds (over_units (programs.elaborated s) 1 p.units)
          (over_all (IsTypedCode y None) (programs.elaborated s) 1 p.units
          (λ n u there. objects_typed (known_of p) s.objects s.bodies y.objects y.subs made laws text.profiled text.bounds n u (text.objects u there) (none u there))))
      | inr more ↦ all_has (IsTypedBody y) (over_units (subs_in s) 1 p.units) sub
          (over_all (IsTypedBody y) (subs_in s) 1 p.units
          (λ n u there. bodies_typed s y.objects y.subs made laws text.profiled text.bounds n u (text.bodies u there) (none u there))) more
    ]

-- So is the code of its subprograms.
pub code_used : (p : Program) (made : ℕ → Type 0) → type_fault p ≡ None → Laws (known_of p) made → IsMeantText p made → (sub : TypedSub) → Has (typed_in p).subs sub
    → IsTypedCode (typing_laid p) sub.result sub.body
unfolding sentence_faults
code_used p made none laws text = program_typed p made laws text (unit_none (known_of p) p.units (no_fault p none))

-- The law, with what stands within the steps. `made` says of which numbers stand for types.
pub are_used : (p : Program) (made : ℕ → Type 0) → type_fault p ≡ None → Laws (known_of p) made → IsMeantText p made → (sub : FlowSub) → Has (laid_in p).subs sub
    → (q : FlowPoint) → Has sub.points q → IsTypedUse (flow_typing (laid_in p)) sub.result q.instr
unfolding sentence_faults
are_used p made none laws text sub has q there =
    subst (λ z. IsTypedUse z sub.result q.instr) (laid_typing (known_of p).table (typed_in p))
    (laid_typed (known_of p).table (typed_in p) (typing_laid p) (program_typed p made laws text (unit_none (known_of p) p.units (no_fault p none))) sub has q there)

-- The steps are typed.
pub are_typed : (p : Program) (made : ℕ → Type 0) → type_fault p ≡ None → Laws (known_of p) made → IsMeantText p made → AreTyped (laid_in p)
are_typed p made none laws text sub has q there = (are_used p made none laws text sub has q there).0
