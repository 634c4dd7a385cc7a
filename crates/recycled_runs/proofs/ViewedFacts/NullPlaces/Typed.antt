-- In typed programs what is compared with null is an access value.
use Rattle.std.proofs.Common.{◌≡◌, refl, sym, subst, inl, inr, ℕ, suc, List, [], ◌∷◌, Option, Some, None}
use Rattle.machine.specs.place_names.declared.act.Mode.{Mode}
use Rattle.machine.specs.place_names.declared.act.Mode.TheVariants as mode
use Rattle.machine.specs.type_definitions.Entries.{integer, boolean}
use Rattle.machine.specs.typed_tree.Trees.{TypedTree, Number, Literal, Text, Name, Component as IntoComponent, Designated, Element, Call, EndOfFile, Parens, Image, Unary, Binary, Short, IsNull, Aggregate, Alike, New, NoMore, More}
use Rattle.machine.specs.typed_tree.Trees as typed
use Rattle.machine.specs.flow_paths.Instructions.{Instruction, Skip, Declare, Assign, Output, Input, Release, Test, Choose, Start, Next, Evaluate, LeaveLoop, Hold, EndScope, Finish, Fall}
use Rattle.machine.specs.flow_paths.Instructions as instruction
use Rattle.machine.specs.flow_paths.Objects.{Typing, object_at, sub_at}
use Rattle.machine.specs.flow_paths.Laid.{FlowProgram, flow_typing}
use Rattle.soundness.specs.TypedLaws.Fine.{Has, HasParts, HasFirst, Leads}
use Rattle.soundness.specs.TypedLaws.TypedSteps.Steps.{IsViewed, Taken, FirstTaken, FirstHas, IsPlaceOf, IsText, FirstText, IsActual, ActualsTaken, Returned, IsTypedStep, AreTyped}
use Rattle.recycled_runs.specs.ViewedFacts.NullPlaces.Compares.{Compares, ComparesIn, AreCompared}

module _ (y : Typing) where
  none_compares : (rest : TypedTree) → rest ≡ NoMore → Compares y rest
  unfolding Compares
  none_compares rest e = subst (Compares y) (sym e) tt

  mutual
    unfolding Has HasParts HasFirst Leads Compares

    pub has_compares : (e : TypedTree) (t : ℕ) → Has y t e → Compares y e
    has_compares (Name p x steps of) t has = leads_compare steps (object_at y x).of of has.0
    has_compares (Parens e) t has = has_compares e t has.1
    has_compares (Unary op e) t has = has_compares e _ has.1
    has_compares (Binary op a b) t has = (has_compares a has.2 has.5, has_compares b has.2 has.6)
    has_compares (Short op p a q b) t has = (has_compares a boolean has.1, has_compares b boolean has.2)
    has_compares (IsNull equal (Name p x steps of)) t has = (has.1.1, has.1.2, has.1.3, has.1.4, leads_compare steps (object_at y x).of of has.1.0)
    has_compares (IsNull equal e) t has = absurd has.1
    has_compares (Aggregate of es) t has = parts_compare es of 0 has.2
    has_compares (Alike of e) t has = has_compares e has.3 has.6
    has_compares (New of v) t has = first_compares v of has.5
    has_compares (Number v) t has = tt
    has_compares (Literal n) t has = tt
    has_compares EndOfFile t has = tt
    has_compares typed.Null t has = tt
    has_compares (Call p sub actuals) t has = tt
    has_compares (Text b) t has = absurd has
    has_compares (Image of e) t has = absurd has
    has_compares (IntoComponent i rest) t has = absurd has
    has_compares (Designated rest) t has = absurd has
    has_compares (Element i low high rest) t has = absurd has
    has_compares NoMore t has = absurd has
    has_compares (More e rest) t has = absurd has

    leads_compare : (steps : TypedTree) (t u : ℕ) → Leads y t steps u → Compares y steps
    leads_compare (IntoComponent i rest) t u h = leads_compare rest _ u h.1
    leads_compare (Element index low high rest) t u h = (has_compares index integer h.2, leads_compare rest h.0 u h.3)
    leads_compare (Designated rest) t u h = leads_compare rest h.0 u h.4
    leads_compare NoMore t u h = tt
    leads_compare steps t u h = absurd h

    parts_compare : (es : TypedTree) (t i : ℕ) → HasParts y t i es → Compares y es
    parts_compare (More e rest) t i has = (has_compares e _ has.0, parts_compare rest t (suc i) has.1)
    parts_compare NoMore t i has = tt
    parts_compare es t i has = absurd has

    first_compares : (v : TypedTree) (t : ℕ) → HasFirst y t v → Compares y v
    first_compares (More e rest) t has = (has_compares e t has.1, none_compares rest has.0)
    first_compares NoMore t has = tt
    first_compares v t has = absurd has

  viewed_compares : (want : ℕ) (e : TypedTree) → IsViewed y want e → Compares y e
  unfolding Compares
  viewed_compares want (Name p x steps t) view = leads_compare steps (object_at y x).of t view.0
  viewed_compares want (Call p sub actuals) view = tt
  viewed_compares want (Parens e) view = viewed_compares want e view
  viewed_compares want e view = absurd view

  taken_compares : (want : ℕ) (e : TypedTree) → Taken y want e → Compares y e
  taken_compares want e (inl has) = has_compares e want has
  taken_compares want e (inr view) = viewed_compares want e view

  first_taken : (want : ℕ) (v : TypedTree) → FirstTaken y want v → Compares y v
  unfolding Compares
  first_taken want (More e rest) (last, taken) = (taken_compares want e taken, none_compares rest last)
  first_taken want NoMore taken = tt
  first_taken want v never = absurd never

  first_has : (want : ℕ) (v : TypedTree) → FirstHas y want v → Compares y v
  unfolding Compares
  first_has want (More e rest) (last, has) = (has_compares e want has, none_compares rest last)
  first_has want NoMore has = tt
  first_has want v never = absurd never

  place_compares : (t : ℕ) (e : TypedTree) → IsPlaceOf y t e → Compares y e
  unfolding Compares
  place_compares t (Name p x steps u) place = leads_compare steps (object_at y x).of u place.0
  place_compares t e never = absurd never

  text_compares : (e : TypedTree) → IsText y e → Compares y e
  unfolding IsText Compares
  text_compares (Text b) text = tt
  text_compares (Image t e) text = has_compares e t text.1
  text_compares (Parens e) text = text_compares e text
  text_compares (Binary op a b) text = (text_compares a text.0, text_compares b text.1)
  text_compares e never = absurd never

  first_text : (v : TypedTree) → FirstText y v → Compares y v
  unfolding Compares
  first_text (More e rest) (last, text) = (text_compares e text, none_compares rest last)
  first_text NoMore text = tt
  first_text v never = absurd never

  actual_compares : (x : ℕ) (e : TypedTree) → IsActual y x e → Compares y e
  actual_compares x e actual = by_mode (object_at y x).mode refl actual
    where
      by_mode : (m : Mode) → (object_at y x).mode ≡ m → IsActual y x e → Compares y e
      by_mode mode.In is g = taken_compares (object_at y x).of e (rw is at g)
      by_mode mode.Out is g = (let place = rw is at g in place_compares place.0 e place.1)
      by_mode mode.InOut is g = (let place = rw is at g in place_compares place.0 e place.1)

  actuals_compare : (formals : List ℕ) (actuals : TypedTree) → ActualsTaken y formals actuals → Compares y actuals
  unfolding Compares
  actuals_compare (x ∷ formals) (More e rest) taken = (actual_compares x e taken.0, actuals_compare formals rest taken.1)
  actuals_compare [] NoMore taken = tt
  actuals_compare formals actuals never = absurd never

  returned_compares : (result : Option ℕ) (v : TypedTree) → Returned y result v → Compares y v
  unfolding Compares
  returned_compares None v none = none_compares v none
  returned_compares (Some t) v (e, is, taken) = subst (Compares y) (sym is) (taken_compares t e taken, tt)

  step_compares : (result : Option ℕ) (i : Instruction) → IsTypedStep y result i → ComparesIn y i
  step_compares result Skip is = tt
  step_compares result (Declare x v) is = first_taken (object_at y x).of v is
  step_compares result (Assign target e) (t, place, taken) = (place_compares t target place, taken_compares t e taken)
  step_compares result (instruction.Call sub actuals r) is = actuals_compare (sub_at y sub).formals actuals is.0
  step_compares result (Output text line) is = first_text text is
  step_compares result (Input target) (t, place, whole) = place_compares t target place
  step_compares result (Release e) (t, d, place, access) = place_compares t e place
  step_compares result (Test e) is = has_compares e boolean is
  step_compares result (Choose e choices) (t, scalar, has) = has_compares e t has
  step_compares result (Start x reversed low high) (scalar, first, last) = (has_compares low (object_at y x).of first, has_compares high (object_at y x).of last)
  step_compares result (Next x reversed low high) is = tt
  step_compares result (Evaluate temporary e left) is = has_compares e boolean is
  step_compares result (LeaveLoop e) is = first_has boolean e is
  step_compares result (Hold v) is = returned_compares result v is
  step_compares result (EndScope x) is = tt
  step_compares result Finish is = tt
  step_compares result Fall is = tt

-- So it is in the whole program.
pub typed_compared : (program : FlowProgram) → AreTyped program → AreCompared program
typed_compared program typed sub has p there = step_compares (flow_typing program) sub.result p.instr (typed sub has p there)
