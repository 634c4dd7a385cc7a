-- The law: the points of a program without a fault of typing are as soundness needs them.
use Rattle.std.proofs.Common.{◌≡◌, refl, sym, ap, ◌∙◌, subst, inl, inr, ℕ, ◌+◌, true, false, List, [], ◌∷◌, ◌++◌, Option, Some, None, if◌then◌else◌}
use Rattle.std.specs.Prelude.{flat_map, is_some}
use Rattle.std.specs.List.{AllByRecursion}
use Rattle.std.proofs.lemmas.Bool.{true≢false, false≢true}
use Rattle.machine.specs.spark_base.Lists.{Has}
use Rattle.machine.specs.resolved_tree.Trees.{Code, More, SubBody, Package, PackageBody, Program}
use Rattle.machine.specs.type_definitions.declared.table.Known.{Known}
use Rattle.machine.specs.type_definitions.declared.judgement.Fault.{Fault}
use Rattle.machine.specs.type_definitions.Faults.{first, precedes}
use Rattle.machine.specs.type_definitions.Gathered.{declared_number, in_subprogram, in_visible, in_hidden}
use Rattle.machine.specs.type_definitions.Declarations.{code_faults, body_faults, in_body}
use Rattle.machine.specs.type_definitions.Whole.{TypeFault, outside, unit_faults, main_faults, sentence_faults, type_sizes, decided, fault_known, told, known_of, known_with, type_fault}
use Rattle.machine.specs.typed_tree.declared.object.Object.{Object}
use Rattle.machine.specs.typed_tree.Expressions.{Site}
use Rattle.machine.specs.typed_tree.Statements.{scope_count, statements}
use Rattle.machine.specs.typed_tree.Programs.{TypedSub, TypedProgram, placed, over_units, subs_in, site_of, typed_program}
use Rattle.machine.specs.typed_tree.Programs as programs
use Rattle.machine.specs.flow_paths.Objects.{Typing, Signature}
use Rattle.machine.specs.flow_paths.Laid.{FlowProgram, flow_program}
use Rattle.soundness.specs.TypedLaws.Fine.{Laws}
use Rattle.soundness.specs.TypedLaws.Needed.{AreFine}
use Rattle.soundness.proofs.TypedLaws.Agreeing.{nil_left, nil_right}
use Rattle.soundness.specs.TypedLaws.TypedPoints.Code.{is_whole, IsFineCode, AreEvaluated, AreUndivided}
use Rattle.soundness.specs.TypedLaws.TypedPoints.Meant.{AreMeantBodies, AreMeantObjects, typing_meant, AreMeantUnits}
use Rattle.soundness.proofs.TypedLaws.TypedPoints.Bodies.{code_fine, body_fine, listed}
use Rattle.soundness.proofs.TypedLaws.TypedPoints.Laid.{flow_knows, laid_fine}

-- ---- faults

noted_some : (f : Fault) (faults : List Fault) → first (f ∷ faults) ≡ None → ⊥
noted_some f [] e = true≢false (ap is_some e)
noted_some f (g ∷ faults) e = noted_some (if precedes g f then g else f) faults e

first_none : (faults : List Fault) → first faults ≡ None → faults ≡ []
first_none [] e = refl
first_none (f ∷ faults) e = absurd (noted_some f faults e)

told_none : (found asked : Option TypeFault) → told found asked ≡ None → found ≡ None
told_none None asked e = refl
told_none (Some f) None e = absurd (true≢false (ap is_some e))
told_none (Some f) (Some g) e = absurd (true≢false (ap is_some e))

decided_none : (sizes sentences : Option Fault) → decided sizes sentences ≡ None → sentences ≡ None
decided_none (Some f) k e = absurd (true≢false (ap is_some e))
decided_none None (Some f) e = absurd (true≢false (ap is_some e))
decided_none None None e = refl

no_fault : (p : Program) → type_fault p ≡ None → sentence_faults (known_of p) p.units ≡ []
unfolding type_fault
no_fault p e =
    first_none (sentence_faults (known_of p) p.units)
    (decided_none (first (type_sizes (known_of p) p.units)) (first (sentence_faults (known_of p) p.units))
    (told_none (fault_known (known_of p) p.units) (fault_known (known_with true p) p.units) e))

unit_none : (known : Known) (units : List Code) → flat_map (unit_faults (outside known)) units ≡ [] → (u : Code) → Has units u → code_faults (outside known) u ≡ []
unit_none known [] e u has = absurd has
unit_none known (v ∷ units) e u has = elim has [
  | inl is ↦ subst (λ x. code_faults (outside known) x ≡ []) is (nil_left (code_faults (outside known) v) (main_faults v) (nil_left (unit_faults (outside known) v) _ e))
  | inr more ↦ unit_none known units (nil_right (unit_faults (outside known) v) _ e) u more
]

-- ---- lists

over_all : {A : Type 0} (P : A → Type 0) (f : ℕ → Code → List A) (n : ℕ) (units : List Code) → ((n : ℕ) (u : Code) → Has units u → AllByRecursion P (f n u))
    → AllByRecursion P (over_units f n units)
over_all P f n [] each = tt
over_all P f n (u ∷ rest) each = both P (f n u) (over_units f (n + scope_count u) rest) (each n u (inl refl)) (over_all P f (n + scope_count u) rest (λ m v has. each m v (inr has)))
  where
    both : {A : Type 0} (P : A → Type 0) (xs ys : List A) → AllByRecursion P xs → AllByRecursion P ys → AllByRecursion P (xs ++ ys)
    both P [] ys h g = g
    both P (x ∷ xs) ys h g = (h.0, both P xs ys h.1 g)

all_has : {A : Type 0} (P : A → Type 0) (xs : List A) (x : A) → AllByRecursion P xs → Has xs x → P x
all_has P [] x all has = absurd has
all_has P (z ∷ xs) x all has = elim has [ inl is ↦ subst P is all.0 | inr more ↦ all_has P xs x all.1 more ]

-- ---- subprograms

abbrev IsFineBody : Typing → TypedSub → Type 0
IsFineBody y sub = IsFineCode y sub.result sub.body

abbrev about : Site → List Object → List Signature → Typing
about s objects subs = record { table = s.context.known.table; objects = objects; subs = subs }

bodies_fine : (s : Site) (objects : List Object) (subs : List Signature) (made : ℕ → Type 0) → Laws s.context.known made → (n : ℕ) (u : Code)
    → AreMeantBodies s (about s objects subs) made u → code_faults s.context u ≡ [] → AllByRecursion (IsFineBody (about s objects subs)) (subs_in s n u)
unfolding subs_in code_faults AreMeantBodies
bodies_fine s objects subs made laws n (SubBody front items stmts end) meant none =
    let inner : Site = placed (in_subprogram front) s in
    let more = nil_right (body_faults s.context front) _ none in (
      body_fine inner objects subs made laws false (n + 1) items stmts meant.0 meant.1
          (nil_left (code_faults (in_body front s.context) items) _ more) (nil_right (code_faults (in_body front s.context) items) _ more),
      tt,
    )
bodies_fine s objects subs made laws n (PackageBody d parts) meant none =
    bodies_fine (placed (in_hidden (declared_number d)) s) objects subs made laws n parts meant none
bodies_fine s objects subs made laws n (More a rest) meant none =
    both (IsFineBody (about s objects subs)) (subs_in s n a) (subs_in s (n + scope_count a) rest)
    (bodies_fine s objects subs made laws n a meant.0 (nil_left (code_faults s.context a) _ none))
    (bodies_fine s objects subs made laws (n + scope_count a) rest meant.1 (nil_right (code_faults s.context a) _ none))
  where
    both : {A : Type 0} (P : A → Type 0) (xs ys : List A) → AllByRecursion P xs → AllByRecursion P ys → AllByRecursion P (xs ++ ys)
    both P [] ys h g = g
    both P (x ∷ xs) ys h g = (h.0, both P xs ys h.1 g)
bodies_fine s objects subs made laws n u meant none = tt

-- ---- package objects

objects_fine : (known : Known) (numbers bodies : List ℕ) (objects : List Object) (subs : List Signature) (made : ℕ → Type 0) → Laws known made → (n : ℕ) (u : Code)
    → AreMeantObjects (record { context = outside known; objects = numbers; bodies = bodies }) (record { table = known.table; objects = objects; subs = subs }) made u
    → code_faults (outside known) u ≡ []
    → AllByRecursion (IsFineCode (record { table = known.table; objects = objects; subs = subs }) None) (programs.elaborated (record { context = outside known; objects = numbers; bodies = bodies }) n u)
unfolding code_faults
objects_fine known numbers bodies objects subs made laws n (Package d visible hidden) meant none =
    let s : Site = record { context = outside known; objects = numbers; bodies = bodies } in
    let outer : Site = placed (in_visible (declared_number d)) s in
    let inner : Site = placed (in_hidden (declared_number d)) s in
    both (IsFineCode (record { table = known.table; objects = objects; subs = subs }) None) (statements outer n visible) (statements inner (n + scope_count visible) hidden)
    (code_fine outer objects subs made laws false n visible meant.0 (nil_left (code_faults outer.context visible) _ none))
    (code_fine inner objects subs made laws false (n + scope_count visible) hidden meant.1 (nil_right (code_faults outer.context visible) _ none))
  where
    both : {A : Type 0} (P : A → Type 0) (xs ys : List A) → AllByRecursion P xs → AllByRecursion P ys → AllByRecursion P (xs ++ ys)
    both P [] ys h g = g
    both P (x ∷ xs) ys h g = (h.0, both P xs ys h.1 g)
objects_fine known numbers bodies objects subs made laws n (PackageBody d parts) meant none =
    let s : Site = record { context = outside known; objects = numbers; bodies = bodies } in
    code_fine (placed (in_hidden (declared_number d)) s) objects subs made laws false n parts meant none
objects_fine known numbers bodies objects subs made laws n u meant none = tt

-- ---- programs

-- What is known of the parts of a program, with other objects beside its own.
abbrev typing_with : Known → List Code → List Object → Typing
typing_with known units objects = record { table = known.table; objects = objects; subs = (typing_meant known units).subs }

abbrev AreMeantWith : Known → (ℕ → Type 0) → List Code → List Object → Type 0
AreMeantWith known made units objects =
    (u : Code) → Has units u
    → AreMeantBodies (site_of known units) (typing_with known units objects) made u × AreMeantObjects (site_of known units) (typing_with known units objects) made u

program_fine : (known : Known) (units : List Code) (objects : List Object) (made : ℕ → Type 0) → Laws known made → AreMeantWith known made units objects
    → ((u : Code) → Has units u → code_faults (outside known) u ≡ []) → (sub : TypedSub) → Has (typed_program known units).subs sub
    → IsFineBody (typing_with known units objects) sub
unfolding typed_program
program_fine known units objects made laws meant none sub has =
    let s : Site = site_of known units in
    let y : Typing = typing_with known units objects in
    elim has [
      | inl is ↦ subst (IsFineBody y) is
          (listed s y.objects y.subs made laws (over_units (programs.elaborated s) 1 units)
          (over_all (IsFineCode y None) (programs.elaborated s) 1 units
          (λ n u there. objects_fine known s.objects s.bodies y.objects y.subs made laws n u (meant u there).1 (none u there))))
      | inr more ↦ all_has (IsFineBody y) (over_units (subs_in s) 1 units) sub
          (over_all (IsFineBody y) (subs_in s) 1 units (λ n u there. bodies_fine s y.objects y.subs made laws n u (meant u there).0 (none u there))) more
    ]

module _ (p : Program) (made : ℕ → Type 0) (none : type_fault p ≡ None) (laws : Laws (known_of p) made) where
  abbrev typed : TypedProgram
  typed = typed_program (known_of p) p.units

  abbrev flow : FlowProgram
  flow = flow_program (known_of p).table typed

  -- The law, for programs with temporaries: files are meant over the objects of the program as it is laid out, and the
  -- operands that are evaluated by themselves are typed. `made` says of which numbers stand for types.
  pub all_fine : AreMeantWith (known_of p) made p.units flow.objects → AreEvaluated flow → AreFine flow
  unfolding sentence_faults
  all_fine meant evaluated =
      laid_fine (known_of p).table typed evaluated
      (λ sub has. subst (λ y. IsFineCode y sub.result sub.body) (sym (flow_knows (known_of p).table typed))
      (program_fine (known_of p) p.units flow.objects made laws meant (unit_none (known_of p) p.units (no_fault p none)) sub has))

  -- Where nothing but procedures is called, there are no temporaries.
  undivided_evaluated : AreUndivided flow → AreEvaluated flow
  undivided_evaluated undivided sub has point there t e left is =
      absurd (let no : false ≡ true = sym (ap is_whole is) ∙ undivided sub has point there in absurd (false≢true no))

  pub are_fine : AreMeantUnits (known_of p) made p.units → flow.objects ≡ typed.objects → AreUndivided flow → AreFine flow
  are_fine meant objects undivided =
      all_fine (subst (AreMeantWith (known_of p) made p.units) (sym objects) meant) (undivided_evaluated undivided)
