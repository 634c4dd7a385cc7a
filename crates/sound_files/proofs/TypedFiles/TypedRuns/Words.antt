-- A step whose expressions have the types of their places is typed as the machine says it.
use Rattle.std.proofs.Common.{◌≡◌, refl, sym, ap, ◌∙◌, subst, ◌⊎◌, inl, inr, ℕ, Bool, true, false, ◌&&◌, ◌||◌, List, [], ◌∷◌, nat_eq, Option, Some, None}
use Rattle.std.proofs.lemmas.Bool.{eq-eqb, false≢true}
use Rattle.machine.specs.spark_base.declared.position.Pos.{Pos}
use Rattle.machine.specs.place_names.declared.act.Mode.{Mode}
use Rattle.machine.specs.place_names.declared.act.Mode.TheVariants as mode
use Rattle.machine.specs.type_definitions.declared.table.Shape.{Shape}
use Rattle.machine.specs.type_definitions.declared.table.Shape.TheVariants as shape
use Rattle.machine.specs.type_definitions.Types.{Table, full, is_scalar, view_of, shape_of, meant_type}
use Rattle.machine.specs.type_definitions.Entries.{integer, boolean}
use Rattle.machine.specs.typed_tree.Trees.{TypedTree, Name, Text, Parens, Image, Binary, NoMore, More}
use Rattle.machine.specs.typed_tree.Trees as typed
use Rattle.machine.specs.flow_paths.Instructions.{Instruction, Skip, Declare, Assign, Output, Input, Release, Test, Choose, Start, Next, Evaluate, LeaveLoop, Hold, EndScope, Finish, Fall}
use Rattle.machine.specs.flow_paths.Instructions as instruction
use Rattle.machine.specs.flow_paths.Objects.{Typing, object_at, sub_at}
use Rattle.machine.specs.Typed.{Sort, Whole, Position, Pointer, sorts, sorts_of, sorts_at, same_designated, same_sorts, is_whole, is_position, is_pointer, sorts_of_result, gives, leads, given_first, is_text, is_place, named_type, actuals_given, texts_given, is_typed_instruction}
use Rattle.soundness.specs.TypedLaws.Fine.{Agree, Has, counts, lists}
use Rattle.soundness.specs.TypedLaws.Fine as fine
use Rattle.soundness.proofs.TypedLaws.Agreeing.{Owns, and_right, either_left, either_right}
use Rattle.soundness.proofs.TypedLaws.Sorts.{words_given}
use Rattle.soundness.specs.TypedLaws.TypedSteps.Steps.{Views, IsViewed, Taken, FirstTaken, FirstHas, IsPlaceOf, IsText, FirstText, IsActual, ActualsTaken, Returned, IsTypedStep}

both_true : (a b : Bool) → a ≡ true → b ≡ true → a && b ≡ true
both_true a b e f = ap (λ x. x && b) e ∙ f

nat_same : (n : ℕ) → nat_eq n n ≡ true
nat_same n = eq-eqb n n refl

scalar_sort : (z : Shape) → is_scalar (view_of z) ≡ true → (counts z ≡ true) ⊎ (lists z ≡ true)
scalar_sort (shape.Whole a b) e = inl refl
scalar_sort (shape.Listed k a b) e = inr refl
scalar_sort z e = absurd (false≢true e)

counted_sorts : (f : ℕ → List Sort) (z : Shape) → counts z ≡ true → sorts_of f z ≡ Whole ∷ []
counted_sorts f (shape.Whole a b) e = refl
counted_sorts f z e = absurd (false≢true e)

listed_sorts : (f : ℕ → List Sort) (z : Shape) → lists z ≡ true → sorts_of f z ≡ Position ∷ []
listed_sorts f (shape.Listed k a b) e = refl
listed_sorts f z e = absurd (false≢true e)

-- The sorts of a type go by its definition.
abbrev pub SortsLaw : Table → Type 0
SortsLaw table = (t : ℕ) → sorts table t ≡ sorts_of (sorts table) (shape_of table t)

module _ (y : Typing) (law : SortsLaw y.table) (owns : Owns y.table) (whole : counts (shape_of y.table integer) ≡ true) (listed : lists (shape_of y.table boolean) ≡ true) where
  given : (e : TypedTree) (t : ℕ) → Has y t e → gives y (sorts y.table t) e ≡ true
  given e t has = words_given y law owns whole listed e t has

  whole_sorts : (t : ℕ) → counts (shape_of y.table t) ≡ true → sorts y.table t ≡ Whole ∷ []
  whole_sorts t e = law t ∙ counted_sorts (sorts y.table) (shape_of y.table t) e

  position_sorts : (t : ℕ) → lists (shape_of y.table t) ≡ true → sorts y.table t ≡ Position ∷ []
  position_sorts t e = law t ∙ listed_sorts (sorts y.table) (shape_of y.table t) e

  pointer_sorts : (t d : ℕ) (k n : Bool) → shape_of y.table t ≡ shape.Access d k n → sorts y.table t ≡ Pointer d ∷ []
  pointer_sorts t d k n e = law t ∙ ap (sorts_of (sorts y.table)) e

  scalar_words : (t : ℕ) → is_scalar (full y.table t) ≡ true → (sorts y.table t ≡ Whole ∷ []) ⊎ (sorts y.table t ≡ Position ∷ [])
  scalar_words t e = elim (scalar_sort (shape_of y.table t) e) [ inl h ↦ inl (whole_sorts t h) | inr h ↦ inr (position_sorts t h) ]

  one_scalar : (t : ℕ) → is_scalar (full y.table t) ≡ true → is_whole (sorts y.table t) || is_position (sorts y.table t) ≡ true
  one_scalar t e = elim (scalar_words t e) [
    | inl h ↦ either_left (is_whole (sorts y.table t)) (is_position (sorts y.table t)) (ap is_whole h)
    | inr h ↦ either_right (is_whole (sorts y.table t)) (is_position (sorts y.table t)) (ap is_position h)
  ]

  -- ---- places

  named : (p : Pos) (x t : ℕ) (steps : TypedTree) → fine.Leads y (object_at y x).of steps t → leads y t (object_at y x).of steps ≡ true
  unfolding gives Has
  named p x t steps h = and_right (same_sorts y.table (sorts y.table t) (sorts y.table t)) (leads y t (object_at y x).of steps) (given (Name p x steps t) t (h, inl refl))

  placed : (e : TypedTree) (t : ℕ) → IsPlaceOf y t e → (is_place y e ≡ true) × (named_type e ≡ t)
  placed (Name p x steps u) t h = (named p x u steps h.0, h.1)
  placed e t h = absurd h

  -- ---- sources

  same_target : (d t : ℕ) → Agree y.table d t → same_designated y.table d t ≡ true
  same_target d t (inl e) = either_left _ _ (subst (λ z. nat_eq (meant_type y.table d) z ≡ true) e (nat_same (meant_type y.table d)))
  same_target d t (inr e) = either_right _ _ e

  views : (want t : ℕ) → Views y want t → same_sorts y.table (sorts y.table t) (sorts y.table want) ≡ true
  views want t v =
      let left = pointer_sorts t v.0 v.2 v.3 v.6 in
      let right = pointer_sorts want v.1 v.4 v.5 v.7 in
      ap (λ z. same_sorts y.table z (sorts y.table want)) left ∙ (ap (λ z. same_sorts y.table (Pointer v.0 ∷ []) z) right ∙ both_true (same_designated y.table v.0 v.1) true (same_target v.0 v.1 v.8) refl)

  viewed : (want : ℕ) (e : TypedTree) → IsViewed y want e → gives y (sorts y.table want) e ≡ true
  unfolding gives
  viewed want (Name p x steps t) h = both_true (same_sorts y.table (sorts y.table t) (sorts y.table want)) (leads y t (object_at y x).of steps) (views want t h.1) (named p x t steps h.0)
  viewed want (typed.Call p sub actuals) h =
      subst (λ z. same_sorts y.table (sorts_of_result y.table z) (sorts y.table want) ≡ true) (sym h.1) (views want h.0 h.2)
  viewed want (Parens e) h = viewed want e h
  viewed want e h = absurd h

  taken : (want : ℕ) (e : TypedTree) → Taken y want e → gives y (sorts y.table want) e ≡ true
  taken want e (inl h) = given e want h
  taken want e (inr h) = viewed want e h

  first_taken : (want : ℕ) (v : TypedTree) → FirstTaken y want v → given_first y (sorts y.table want) v ≡ true
  unfolding given_first
  first_taken want (More e rest) h = taken want e h.1
  first_taken want NoMore h = refl
  first_taken want e h = absurd h

  truth : (e : TypedTree) → Has y boolean e → gives y (Position ∷ []) e ≡ true
  truth e h = subst (λ z. gives y z e ≡ true) (position_sorts boolean listed) (given e boolean h)

  first_truth : (v : TypedTree) → FirstHas y boolean v → given_first y (Position ∷ []) v ≡ true
  unfolding given_first
  first_truth (More e rest) h = truth e h.1
  first_truth NoMore h = refl
  first_truth e h = absurd h

  -- ---- strings

  text : (e : TypedTree) → IsText y e → is_text y e ≡ true
  unfolding IsText is_text
  text (Text b) h = refl
  text (Image t e) h = given e t h.1
  text (Parens e) h = text e h
  text (Binary op a b) h = both_true (is_text y a) (is_text y b) (text a h.0) (text b h.1)
  text e h = absurd h

  first_text : (v : TypedTree) → FirstText y v → texts_given y v ≡ true
  first_text (More e rest) h = text e h.1
  first_text NoMore h = refl
  first_text e h = absurd h

  -- ---- calls

  at_place : (x : ℕ) (e : TypedTree) (t : ℕ) → IsPlaceOf y t e → Agree y.table t (object_at y x).of → gives y (sorts_at y x) e ≡ true
  unfolding Has
  at_place x (Name p z steps u) t h agree = given (Name p z steps u) (object_at y x).of (h.0, subst (λ w. Agree y.table w (object_at y x).of) (sym h.1) agree)
  at_place x e t h agree = absurd h

  actual : (x : ℕ) (e : TypedTree) → IsActual y x e → gives y (sorts_at y x) e ≡ true
  actual x e h = by (object_at y x).mode refl h
    where
      by : (m : Mode) → (object_at y x).mode ≡ m → IsActual y x e → gives y (sorts_at y x) e ≡ true
      by mode.In is g = taken (object_at y x).of e (rw is at g)
      by mode.Out is g = let at = rw is at g in at_place x e at.0 at.1 at.2
      by mode.InOut is g = let at = rw is at g in at_place x e at.0 at.1 at.2

  actuals : (formals : List ℕ) (es : TypedTree) → ActualsTaken y formals es → actuals_given y formals es ≡ true
  actuals (x ∷ formals) (More e rest) h = both_true (gives y (sorts_at y x) e) (actuals_given y formals rest) (actual x e h.0) (actuals formals rest h.1)
  actuals [] NoMore h = refl
  actuals formals es h = absurd h

  -- ---- steps

  returned : (result : Option ℕ) (v : TypedTree) → Returned y result v → given_first y (sorts_of_result y.table result) v ≡ true
  unfolding given_first
  returned None v h = subst (λ z. given_first y [] z ≡ true) (sym h) refl
  returned (Some t) v h = subst (λ z. given_first y (sorts y.table t) z ≡ true) (sym h.1) (taken t h.0 h.2)

  -- The law.
  pub typed_step : (result : Option ℕ) (i : Instruction) → IsTypedStep y result i → is_typed_instruction y result i ≡ true
  typed_step result Skip h = refl
  typed_step result (Declare x v) h = first_taken (object_at y x).of v h
  typed_step result (Assign target e) h =
      let at = placed target h.0 h.1 in
      both_true (is_place y target) (gives y (sorts y.table (named_type target)) e) at.0 (subst (λ z. gives y (sorts y.table z) e ≡ true) (sym at.1) (taken h.0 e h.2))
  typed_step result (instruction.Call sub es r) h = actuals (sub_at y sub).formals es h.0
  typed_step result (Output v line) h = first_text v h
  typed_step result (Input target) h =
      let at = placed target h.0 h.1 in
      both_true (is_place y target) (is_whole (sorts y.table (named_type target))) at.0 (ap (λ z. is_whole (sorts y.table z)) at.1 ∙ ap is_whole (whole_sorts h.0 h.2))
  typed_step result (Release e) h =
      let at = placed e h.0 h.2 in
      both_true (is_place y e) (is_pointer (sorts y.table (named_type e))) at.0 (ap (λ z. is_pointer (sorts y.table z)) at.1 ∙ ap is_pointer (pointer_sorts h.0 h.1 false true h.3))
  typed_step result (Test e) h = truth e h
  typed_step result (Choose e choices) h = elim (scalar_words h.0 h.1) [
    | inl w ↦ either_left (gives y (Whole ∷ []) e) (gives y (Position ∷ []) e) (subst (λ z. gives y z e ≡ true) w (given e h.0 h.2))
    | inr w ↦ either_right (gives y (Whole ∷ []) e) (gives y (Position ∷ []) e) (subst (λ z. gives y z e ≡ true) w (given e h.0 h.2))
  ]
  typed_step result (Start x reversed low high) h =
      both_true (is_whole (sorts_at y x) || is_position (sorts_at y x)) (gives y (sorts_at y x) low && gives y (sorts_at y x) high) (one_scalar (object_at y x).of h.0)
      (both_true (gives y (sorts_at y x) low) (gives y (sorts_at y x) high) (given low (object_at y x).of h.1) (given high (object_at y x).of h.2))
  typed_step result (Next x reversed low high) h = one_scalar (object_at y x).of h
  typed_step result (Evaluate t e left) h = truth e h
  typed_step result (LeaveLoop e) h = first_truth e h
  typed_step result (Hold v) h = returned result v h
  typed_step result (EndScope x) h = refl
  typed_step result Finish h = refl
  typed_step result Fall h = refl
