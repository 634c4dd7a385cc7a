-- The actuals of typed calls stay within what they name; and where no object is a formal, there is
-- nothing to ask.
use Rattle.std.proofs.Common.{◌≡◌, refl, ap, ◌∙◌, subst, inl, inr, ℕ, Bool, true, List, [], ◌∷◌}
use Rattle.machine.specs.spark_base.Lists.{Has}
use Rattle.machine.specs.place_names.declared.act.Mode.{Mode}
use Rattle.machine.specs.place_names.declared.act.Mode.TheVariants as mode
use Rattle.machine.specs.type_definitions.declared.table.Shape.{Shape}
use Rattle.machine.specs.type_definitions.declared.table.Shape.TheVariants as shape
use Rattle.machine.specs.type_definitions.Entries.{integer, boolean}
use Rattle.machine.specs.type_definitions.Types.{shape_of, words, words_of, full, view_of, is_scalar}
use Rattle.machine.specs.typed_tree.Trees.{TypedTree, Name, Call, Parens, More}
use Rattle.machine.specs.flow_paths.Objects.{Typing, Signature, object_at, sub_at}
use Rattle.machine.specs.flow_paths.Laid.{FlowProgram, flow_typing}
use Rattle.machine.specs.States.{sub_of}
use Rattle.soundness.specs.TypedLaws.Fine.{Agree, counts, lists}
use Rattle.soundness.specs.TypedLaws.Needed.{Matches, Stays, IsPlace}
use Rattle.soundness.proofs.TypedLaws.Sound.{matches, stays, leads}
use Rattle.soundness.specs.TypedLaws.TypedSteps.Steps.{IsPlaceOf, IsViewed, Taken, IsActual, ActualsTaken, IsTypedStep, AreTyped}
use Rattle.soundness.specs.Ready.{IsActualBy, AreActuals}
use Rattle.soundness.proofs.Passing.{signature_there}
use Rattle.settled_types.specs.OrderLaws.ReadyLaws.InOrder.{ArePassed}

-- an access type isn't scalar
no_access : (z : Shape) (d : ℕ) (c n : Bool) → z ≡ shape.Access d c n → is_scalar (view_of z) ≡ true → ⊥
no_access z d c n e plain = (let g = ap (λ x. is_scalar (view_of x)) e in cc)

module _ (y : Typing) (whole : counts (shape_of y.table integer) ≡ true) (listed : lists (shape_of y.table boolean) ≡ true)
    (word_law : (t : ℕ) → words y.table t ≡ words_of (words y.table) (shape_of y.table t)) where
  -- what is looked at is of an access type
  viewed : (want : ℕ) (e : TypedTree) → is_scalar (full y.table want) ≡ true → IsViewed y want e → ⊥
  viewed want (Name p x steps t) plain (leads, (d, k, c, n, i, m, is, shaped, agree)) = no_access (shape_of y.table want) k i m shaped plain
  viewed want (Call p sub actuals) plain (t, result, (d, k, c, n, i, m, is, shaped, agree)) = no_access (shape_of y.table want) k i m shaped plain
  viewed want (Parens e) plain view = viewed want e plain view
  viewed want e plain view = view

  pub taken_stays : (want : ℕ) (e : TypedTree) → is_scalar (full y.table want) ≡ true → Taken y want e → Stays y e
  taken_stays want e plain (inl has) = stays y whole listed word_law e want has plain
  taken_stays want e plain (inr view) = absurd (viewed want e plain view)

  pub scalar_back : (t u : ℕ) → Matches y.table t u → is_scalar (full y.table u) ≡ true → is_scalar (full y.table t) ≡ true
  scalar_back t u (inl e) plain = ap (λ z. is_scalar (view_of z)) e ∙ plain
  scalar_back t u (inr (a, b)) plain = a

  -- what is copied back to is a name
  place_is : (x t : ℕ) (e : TypedTree) → is_scalar (full y.table (object_at y x).of) ≡ true → IsPlaceOf y t e → Agree y.table t (object_at y x).of
      → (u : ℕ) × IsPlace y e u × (is_scalar (full y.table u) ≡ true)
  place_is x t (Name p z path u) plain place agree = (
    t,
    (leads y whole listed word_law path (object_at y z).of u place.0, place.1),
    scalar_back t (object_at y x).of (matches y.table t (object_at y x).of agree) plain,
  )
  place_is x t e plain place agree = absurd place

  actual_is : (x : ℕ) (e : TypedTree) → is_scalar (full y.table (object_at y x).of) ≡ true → IsActual y x e → IsActualBy y (object_at y x).mode e
  actual_is x e plain actual = by_mode (object_at y x).mode refl actual
    where
      by_mode : (m : Mode) → (object_at y x).mode ≡ m → IsActual y x e → IsActualBy y m e
      by_mode mode.In is g = taken_stays (object_at y x).of e plain (rw is at g)
      by_mode mode.Out is g = (let place = rw is at g in place_is x place.0 e plain place.1 place.2)
      by_mode mode.InOut is g = (let place = rw is at g in place_is x place.0 e plain place.1 place.2)

  actuals_stay : (formals : List ℕ) (actuals : TypedTree) → ((x : ℕ) → Has formals x → is_scalar (full y.table (object_at y x).of) ≡ true) → ActualsTaken y formals actuals → AreActuals y formals actuals
  actuals_stay (x ∷ formals) (More e rest) plain (one, others) =
      (actual_is x e (plain x (inl refl)) one, actuals_stay formals rest (λ z has. plain z (inr has)) others)
  actuals_stay [] actuals plain taken = tt
  actuals_stay (x ∷ formals) actuals plain taken = absurd taken

module _ (program : FlowProgram) where
  -- where typing finds no fault
  pub typed_passed : counts (shape_of program.table integer) ≡ true → lists (shape_of program.table boolean) ≡ true
      → ((t : ℕ) → words program.table t ≡ words_of (words program.table) (shape_of program.table t)) → AreTyped program → ArePassed program
  typed_passed whole listed word_law typed sub has p there n actuals result is known plain =
      let call = subst (λ i. IsTypedStep (flow_typing program) sub.result i) is (typed sub has p there) in
      let same : (sub_at (flow_typing program) n).formals ≡ (sub_of program n).formals = ap (λ (z : Signature). z.formals) (signature_there program.subs n) in
      subst (λ fs. AreActuals (flow_typing program) fs actuals) same
      (actuals_stay (flow_typing program) whole listed word_law (sub_at (flow_typing program) n).formals actuals
      (λ x formal. plain x (subst (λ fs. Has fs x) same formal)) call.0)
