-- What functions give in typed code: scalar values in names and scalar expressions, values that own nothing in actuals; and where a
-- value is made of it, or it stands alone for a place of an anonymous access type.
use Rattle.std.proofs.Common.{◌≡◌, refl, sym, ap, ◌∙◌, subst, ◌⊎◌, inl, inr, ℕ, zero, suc, Bool, true, false, ◌||◌, List, [], ◌∷◌, get_or, Option, Some, None}
use Rattle.std.proofs.lemmas.Bool.{false≢true, true≢false}
use Rattle.machine.specs.spark_base.Lists.{Has as Holds}
use Rattle.machine.specs.spark_base.declared.position.Pos.{Pos}
use Rattle.machine.specs.place_names.declared.act.Mode.{Mode}
use Rattle.machine.specs.place_names.declared.act.Mode.TheVariants as mode
use Rattle.machine.specs.resolved_tree.declared.operator.UnaryOperator.{UnaryOperator}
use Rattle.machine.specs.resolved_tree.declared.operator.UnaryOperator.TheVariants as unary
use Rattle.machine.specs.type_definitions.declared.table.Component.{Component as Part}
use Rattle.machine.specs.type_definitions.declared.table.Shape.{Shape}
use Rattle.machine.specs.type_definitions.declared.table.Shape.TheVariants as shape
use Rattle.machine.specs.type_definitions.Types.{Table, shape_of, components_of, view_of, full, is_owning, is_scalar, owns_of, any_owns}
use Rattle.machine.specs.type_definitions.Entries.{integer, boolean}
use Rattle.machine.specs.type_definitions.Expressions.{unary_type}
use Rattle.machine.specs.typed_tree.Trees.{TypedTree, Number, Literal, Text, Name, Component, Designated, Element, EndOfFile, Image, Parens, Unary, Binary, Short, IsNull, Aggregate, Alike, New, NoMore, More, TypedCode, Declare, Assign, Output, Input, Release, If, Branch, Case, When, Loop, While, For, Exit, Return, Block}
use Rattle.machine.specs.typed_tree.Trees as typed
use Rattle.machine.specs.flow_paths.Names.{has_call}
use Rattle.machine.specs.flow_paths.Objects.{Typing, object_at, sub_at, traverses, is_anonymous, view_of as object_view}
use Rattle.machine.specs.Evaluate.{part_type}
use Rattle.machine.specs.Typed.{is_record, is_array, same_kind}
use Rattle.machine.specs.Words.{component_type, element_type, element_of, no_component}
use Rattle.soundness.specs.TypedLaws.Fine.{Agree, Has, HasParts, HasFirst, Pointed, Leads}
use Rattle.soundness.proofs.TypedLaws.Agreeing.{Owns, one_shape, agree_owns}
use Rattle.soundness.specs.TypedLaws.TypedSteps.Steps.{Views, IsViewed, Taken, FirstTaken, FirstHas, IsPlaceOf, IsText, FirstText, IsActual, ActualsTaken, Returned}
use Rattle.settled_types.specs.OrderLaws.ScopeLaws.Alone.{CallsFit, CallsOnly, PassedFit, ValueFits, StoredFits, CodeFits, BranchesFit, BranchFits, AlternativesFit, AlternativeFits, GivesScalar, GivesOwnless, GivesNamed, GivesSeen}
use Rattle.sound_files.specs.TypedFiles.TypedRuns.Code.{IsName, IsNamedOwner, NamesOwner, NamesOwners, NamesFirst, GivesNoView, Within, WithinSource, FirstWithin, AssignedWithin, ReturnedWithin, IsTypedCode}

-- ---- types

same_some : {a b : ℕ} → Some a ≡ Some b → a ≡ b
same_some e = cc

kind_scalar : (a b : Shape) → same_kind a b ≡ true → is_scalar (view_of b) ≡ true → is_scalar (view_of a) ≡ true
kind_scalar (shape.Whole x y) b e h = refl
kind_scalar (shape.Listed k x y) b e h = refl
kind_scalar (shape.Access d c n) b e h = absurd (false≢true e)
kind_scalar (shape.Fields cs) b e h = absurd (false≢true e)
kind_scalar (shape.Elements x y z) b e h = absurd (false≢true e)
kind_scalar (shape.Same of) b e h = absurd (false≢true e)

agree_scalar : (table : Table) (t u : ℕ) → Agree table t u → is_scalar (full table u) ≡ true → is_scalar (full table t) ≡ true
agree_scalar table t u (inl e) h = ap (λ z. is_scalar (view_of z)) (one_shape table t u e) ∙ h
agree_scalar table t u (inr e) h = kind_scalar (shape_of table t) (shape_of table u) e h

scalar_whole : (z : Shape) → is_record z || is_array z ≡ true → is_scalar (view_of z) ≡ true → ⊥
scalar_whole (shape.Fields cs) made scalar = absurd (false≢true scalar)
scalar_whole (shape.Elements x y of) made scalar = absurd (false≢true scalar)
scalar_whole (shape.Whole x y) made scalar = absurd (false≢true made)
scalar_whole (shape.Listed k x y) made scalar = absurd (false≢true made)
scalar_whole (shape.Access d c n) made scalar = absurd (false≢true made)
scalar_whole (shape.Same of) made scalar = absurd (false≢true made)

scalar_access : (z : Shape) (d : ℕ) (c n : Bool) → z ≡ shape.Access d c n → is_scalar (view_of z) ≡ true → ⊥
scalar_access z d c n is scalar = false≢true (ap (λ k. is_scalar (view_of k)) (sym is) ∙ scalar)

none_of : (owns : ℕ → Bool) → owns integer ≡ false → (cs : List Part) (i : ℕ) → any_owns owns cs ≡ false → owns (get_or cs i no_component).of ≡ false
none_of owns plain [] i none = plain
none_of owns plain (c ∷ cs) zero none = first (owns c.of) (any_owns owns cs) none
  where
    first : (a b : Bool) → a || b ≡ false → a ≡ false
    first true b e = absurd (true≢false e)
    first false b e = refl
none_of owns plain (c ∷ cs) (suc i) none = none_of owns plain cs i (later (owns c.of) (any_owns owns cs) none)
  where
    later : (a b : Bool) → a || b ≡ false → b ≡ false
    later true b e = absurd (true≢false e)
    later false b e = e

part_none : (owns : ℕ → Bool) → owns integer ≡ false → (z : Shape) (i : ℕ) → is_record z || is_array z ≡ true → owns_of owns z ≡ false → owns (part_type z i) ≡ false
part_none owns plain (shape.Fields cs) i made none = none_of owns plain cs i none
part_none owns plain (shape.Elements x y of) i made none = none
part_none owns plain (shape.Whole x y) i made none = absurd (false≢true made)
part_none owns plain (shape.Listed k x y) i made none = absurd (false≢true made)
part_none owns plain (shape.Access d c n) i made none = absurd (false≢true made)
part_none owns plain (shape.Same of) i made none = absurd (false≢true made)

scalar_none : (f : ℕ → Bool) (z : Shape) → is_scalar (view_of z) ≡ true → owns_of f z ≡ false
scalar_none f (shape.Whole x y) e = refl
scalar_none f (shape.Listed k x y) e = refl
scalar_none f (shape.Access d c n) e = absurd (false≢true e)
scalar_none f (shape.Fields cs) e = absurd (false≢true e)
scalar_none f (shape.Elements x y of) e = absurd (false≢true e)
scalar_none f (shape.Same of) e = absurd (false≢true e)

scalar_named : (z : Shape) → is_scalar (view_of z) ≡ true → is_anonymous (view_of z) ≡ false
scalar_named (shape.Whole x y) e = refl
scalar_named (shape.Listed k x y) e = refl
scalar_named (shape.Access d c n) e = absurd (false≢true e)
scalar_named (shape.Fields cs) e = absurd (false≢true e)
scalar_named (shape.Elements x y of) e = absurd (false≢true e)
scalar_named (shape.Same of) e = absurd (false≢true e)

-- an access type that owns nothing is anonymous
seen_access : (f : ℕ → Bool) (d : ℕ) (c n : Bool) → owns_of f (shape.Access d c n) ≡ false → is_anonymous (view_of (shape.Access d c n)) ≡ false → ⊥
seen_access f d true true none named = absurd (true≢false none)
seen_access f d false true none named = absurd (true≢false none)
seen_access f d true false none named = absurd (true≢false named)
seen_access f d false false none named = absurd (true≢false named)

-- What is known of types, and of formals of anonymous access types.
pub record AreSettled (y : Typing) : Type 0 where
  pub owns : Owns y.table
  pub integers : is_scalar (full y.table integer) ≡ true
  pub truths : is_scalar (full y.table boolean) ≡ true
  pub component : (t i : ℕ) → is_anonymous (full y.table (component_type y.table t i)) ≡ false
  pub element : (t : ℕ) → is_anonymous (full y.table (element_type y.table t)) ≡ false
  pub designated : (t d : ℕ) (c n : Bool) → shape_of y.table t ≡ shape.Access d c n → is_anonymous (full y.table d) ≡ false
  -- they are the first ones of traversal functions
  pub first : (n x : ℕ) (rest : List ℕ) → (sub_at y n).formals ≡ x ∷ rest → is_anonymous (object_view y x) ≡ true → traverses y.table (sub_at y n).result ≡ true
  pub later : (n x : ℕ) (rest : List ℕ) → (sub_at y n).formals ≡ x ∷ rest → (z : ℕ) → Holds rest z → is_anonymous (object_view y z) ≡ false

-- Scalar values; values that own nothing; and any that aren't looked at.
data Kind : Type 0 where
  AreScalars : Kind
  AreOwnless : Kind
  AreValues : Kind

module _ (y : Typing) (settled : AreSettled y) where
  -- ---- kinds of functions, by the types of what they give

  abbrev gives : Kind → ℕ → Type 0
  gives AreScalars n = GivesScalar y n
  gives AreOwnless n = GivesOwnless y n
  gives AreValues n = GivesNamed y n

  abbrev fine : Kind → ℕ → Type 0
  fine AreScalars t = is_scalar (full y.table t) ≡ true
  fine AreOwnless t = (is_owning y.table t ≡ false) × (is_anonymous (full y.table t) ≡ false)
  fine AreValues t = Unit {0}

  named_result : (n t : ℕ) → (sub_at y n).result ≡ Some t → GivesNoView y n → is_anonymous (full y.table t) ≡ false
  named_result n t result plain = ap (traverses y.table) (sym result) ∙ plain

  call : (k : Kind) (n t want : ℕ) → (sub_at y n).result ≡ Some t → GivesNoView y n → Agree y.table t want → fine k want → gives k n
  call AreScalars n t want result plain agree scalar = λ u is. ap (λ k. is_scalar (full y.table k)) (same_some (sym is ∙ result)) ∙ agree_scalar y.table t want agree scalar
  call AreOwnless n t want result plain agree none = λ u is. (
    ap (is_owning y.table) (same_some (sym is ∙ result)) ∙ agree_owns y.table t want settled.owns agree ∙ none.0,
    named_result n u is plain,
  )
  call AreValues n t want result plain agree any = λ u is. named_result n u is plain

  part_named : (t i : ℕ) (z : Shape) → shape_of y.table t ≡ z → is_record z || is_array z ≡ true → is_anonymous (full y.table (part_type z i)) ≡ false
  part_named t i (shape.Fields cs) e whole = ap (λ k. is_anonymous (full y.table (get_or (components_of k) i no_component).of)) (sym e) ∙ settled.component t i
  part_named t i (shape.Elements x z of) e whole = ap (λ k. is_anonymous (full y.table (element_of k))) (sym e) ∙ settled.element t
  part_named t i (shape.Whole x z) e whole = absurd (false≢true whole)
  part_named t i (shape.Listed k x z) e whole = absurd (false≢true whole)
  part_named t i (shape.Access d c n) e whole = absurd (false≢true whole)
  part_named t i (shape.Same of) e whole = absurd (false≢true whole)

  part : (k : Kind) (t want i : ℕ) → Agree y.table t want → fine k want → is_record (shape_of y.table t) || is_array (shape_of y.table t) ≡ true → fine k (part_type (shape_of y.table t) i)
  part AreScalars t want i agree scalar whole = absurd (scalar_whole (shape_of y.table t) whole (agree_scalar y.table t want agree scalar))
  part AreOwnless t want i agree none whole = (
    part_none (is_owning y.table) (settled.owns integer ∙ scalar_none (is_owning y.table) (shape_of y.table integer) settled.integers) (shape_of y.table t) i whole
        (sym (settled.owns t) ∙ agree_owns y.table t want settled.owns agree ∙ none.0),
    part_named t i (shape_of y.table t) refl whole,
  )
  part AreValues t want i agree any whole = tt

  made : (k : Kind) (want d t : ℕ) (c n : Bool) → shape_of y.table want ≡ shape.Access d c n → Agree y.table d t → fine k want → fine k t
  made AreScalars want d t c n is agree scalar = absurd (scalar_access (shape_of y.table want) d c n is scalar)
  made AreOwnless want d t c n is agree none =
      absurd (seen_access (is_owning y.table) d c n (ap (owns_of (is_owning y.table)) (sym is) ∙ sym (settled.owns want) ∙ none.0) (ap (λ z. is_anonymous (view_of z)) (sym is) ∙ none.1))
  made AreValues want d t c n is agree any = tt

  abbrev Fit : (ℕ → Type 0) → TypedTree → Type 0
  Fit kind e = CallsFit (GivesScalar y) (GivesOwnless y) kind e

  abbrev Asked : TypedTree → Type 0
  Asked e = Fit (GivesScalar y) e

  unary_scalar : (op : UnaryOperator) → is_scalar (full y.table (unary_type op)) ≡ true
  unary_scalar unary.Not = settled.truths
  unary_scalar op = settled.integers

  element_is : (z : Shape) (of : ℕ) → is_array z ≡ true → part_type z 0 ≡ of → is_record z || is_array z ≡ true
  element_is (shape.Elements low high e) of array is = refl
  element_is (shape.Fields cs) of array is = refl
  element_is z of array is = absurd (false≢true array)

  -- ---- an actual

  -- what is known of an expression
  abbrev Known : TypedTree → Type 0
  Known e = (k : Kind) (want : ℕ) → fine k want → Has y want e → Fit (gives k) e

  no_views : (of t : ℕ) → is_owning y.table of ≡ false → is_anonymous (full y.table of) ≡ false → Views y of t → ⊥
  no_views of t none named (d, k, c, n, o, m, is, want_is, agree) =
      seen_access (is_owning y.table) k o m (ap (owns_of (is_owning y.table)) (sym want_is) ∙ sym (settled.owns of) ∙ none) (ap (λ z. is_anonymous (view_of z)) (sym want_is) ∙ named)

  unviewed : (e : TypedTree) (of : ℕ) → is_owning y.table of ≡ false → is_anonymous (full y.table of) ≡ false → IsViewed y of e → ⊥
  unviewed (Name p x steps t) of none named (lead, views) = no_views of t none named views
  unviewed (typed.Call p n a) of none named (t, result, views) = no_views of t none named views
  unviewed (Parens e) of none named viewed = unviewed e of none named viewed
  unviewed e of none named viewed = viewed

  -- a name that stays within what it names
  name_known : (p : Pos) (x : ℕ) (steps : TypedTree) (t : ℕ) → Known (Name p x steps t) → Leads y (object_at y x).of steps t → Fit (GivesOwnless y) (Name p x steps t)
  unfolding Has CallsFit
  name_known p x steps t known lead = known AreValues t tt (lead, inl refl)

  named_fit : (e : TypedTree) (of : ℕ) → Known e → IsNamedOwner e → Has y of e → Fit (GivesOwnless y) e
  unfolding Has CallsFit
  named_fit typed.Null of known named has = tt
  named_fit (Name p x steps t) of known named (lead, agree) = name_known p x steps t known lead
  named_fit e of known named has = absurd named

  name_fit : (e : TypedTree) (of : ℕ) → Known e → IsName e → Taken y of e → Fit (GivesOwnless y) e
  unfolding Has
  name_fit (Name p x steps t) of known named (inl (lead, agree)) = name_known p x steps t known lead
  name_fit (Name p x steps t) of known named (inr (lead, views)) = name_known p x steps t known lead
  name_fit e of known named taken = absurd named

  place_fit : (e : TypedTree) (t : ℕ) → Known e → IsPlaceOf y t e → Fit (GivesOwnless y) e
  place_fit (Name p x steps u) t known (lead, of) = name_known p x steps u known lead
  place_fit e t known place = absurd place

  one_fit : (x : ℕ) (e : TypedTree) → Known e → IsActual y x e → NamesOwner y x e → (is_anonymous (object_view y x) ≡ true → IsName e) → Fit (GivesOwnless y) e
  one_fit x e known actual owner named = by_mode (object_at y x).mode refl actual
    where
      taken_fit : (of : ℕ) → is_owning y.table of ≡ false → is_anonymous (full y.table of) ≡ false → Taken y of e → Fit (GivesOwnless y) e
      taken_fit of none plain (inl has) = known AreOwnless of (none, plain) has
      taken_fit of none plain (inr viewed) = absurd (unviewed e of none plain viewed)

      in_fit : Taken y (object_at y x).of e → (object_at y x).mode ≡ mode.In → (a b : Bool) → is_owning y.table (object_at y x).of ≡ a → is_anonymous (object_view y x) ≡ b
          → Fit (GivesOwnless y) e
      in_fit taken is true b owns view = (let held = owner is owns in named_fit e (object_at y x).of known held.0 held.1)
      in_fit taken is false true owns view = name_fit e (object_at y x).of known (named view) taken
      in_fit taken is false false owns view = taken_fit (object_at y x).of owns view taken

      by_mode : (m : Mode) → (object_at y x).mode ≡ m → IsActual y x e → Fit (GivesOwnless y) e
      by_mode mode.In is at = in_fit (rw is at at) is (is_owning y.table (object_at y x).of) (is_anonymous (object_view y x)) refl refl
      by_mode mode.Out is at = (let place = rw is at at in place_fit e place.0 known place.1)
      by_mode mode.InOut is at = (let place = rw is at at in place_fit e place.0 known place.1)

  -- ---- expressions

  mutual
    unfolding Has HasParts HasFirst Pointed Leads Within CallsFit

    fit : (k : Kind) (e : TypedTree) (want : ℕ) → fine k want → Has y want e → Within y e → Fit (gives k) e
    fit k (Name p x steps t) want is_fine (lead, agree) within = steps_fit steps (object_at y x).of t lead within
    fit k (typed.Call p n a) want is_fine (t, result, agree) (is_call, passed, plain, within) =
        (call k n t want result plain agree is_fine, actuals_fit n (sub_at y n).formals refl a is_call.0 passed within)
    fit k (Parens e) want is_fine (none, has) within = fit k e want is_fine has within
    fit k (Unary op e) want is_fine (agree, has) within = fit AreScalars e (unary_type op) (unary_scalar op) has within
    fit k (Binary op a b) want is_fine (plain, agree, t, takes, scalar, has, has') (within, within') = (fit AreScalars a t scalar has within, fit AreScalars b t scalar has' within')
    fit k (Short op p a q b) want is_fine (agree, has, has') (left, right, within, within') = (fit AreScalars a boolean settled.truths has within, fit AreScalars b boolean settled.truths has' within')
    fit k (IsNull equal e) want is_fine (agree, pointed) within = pointed_fit e pointed within
    fit k (Aggregate t es) want is_fine (agree, count, parts, whole) within = parts_fit k es t want 0 agree is_fine whole parts within
    fit k (Alike t e) want is_fine (agree, low, high, of, is, plain, has) within =
        fit k e of (subst (fine k) (ap (λ z. part_type z 0) is) (part k t want 0 agree is_fine (ap (λ z. is_record z || is_array z) is))) has within
    fit k (New t v) want is_fine (d, c, n, is, agree, first) within = first_fit k v t (made k want d t c n is agree is_fine) first within
    fit k (Number v) want is_fine has within = tt
    fit k (Literal v) want is_fine has within = tt
    fit k EndOfFile want is_fine has within = tt
    fit k typed.Null want is_fine has within = tt
    fit k e want is_fine has within = absurd has

    pointed_fit : (e : TypedTree) → Pointed y e → Within y e → Asked e
    pointed_fit (Name p x steps t) pointed within = steps_fit steps (object_at y x).of t pointed.0 within
    pointed_fit e pointed within = absurd pointed

    parts_fit : (k : Kind) (es : TypedTree) (t want i : ℕ) → Agree y.table t want → fine k want → is_record (shape_of y.table t) || is_array (shape_of y.table t) ≡ true
        → HasParts y t i es → Within y es → Fit (gives k) es
    parts_fit k (More e rest) t want i agree is_fine whole (has, parts) (within, others) =
        (fit k e (part_type (shape_of y.table t) i) (part k t want i agree is_fine whole) has within, parts_fit k rest t want (suc i) agree is_fine whole parts others)
    parts_fit k NoMore t want i agree is_fine whole parts within = tt
    parts_fit k es t want i agree is_fine whole parts within = absurd parts

    first_fit : (k : Kind) (v : TypedTree) (t : ℕ) → fine k t → HasFirst y t v → Within y v → Fit (gives k) v
    first_fit k (More e rest) t is_fine (last, has) (within, others) = (fit k e t is_fine has within, subst (Fit (gives k)) (sym last) tt)
    first_fit k NoMore t is_fine first within = tt
    first_fit k v t is_fine first within = absurd first

    steps_fit : (steps : TypedTree) (t u : ℕ) → Leads y t steps u → Within y steps → Asked steps
    steps_fit (Component i rest) t u (less, lead) within = steps_fit rest (component_type y.table t i) u lead within
    steps_fit (Element index low high rest) t u (e, is, has, lead) (within, others) = (fit AreScalars index integer settled.integers has within, steps_fit rest e u lead others)
    steps_fit (Designated rest) t u (d, c, n, is, lead) within = steps_fit rest d u lead within
    steps_fit NoMore t u lead within = tt
    steps_fit steps t u lead within = absurd lead

    -- ---- actuals

    others_fit : (formals : List ℕ) (a : TypedTree) → ((z : ℕ) → Holds formals z → is_anonymous (object_view y z) ≡ false) → ActualsTaken y formals a → NamesOwners y formals a
        → Within y a → PassedFit (GivesScalar y) (GivesOwnless y) a
    others_fit (x ∷ formals) (More e rest) plain (actual, actuals) (owner, owners) (within, others) = (
      one_fit x e (λ k want is_fine has. fit k e want is_fine has within) actual owner (λ view. absurd (true≢false (sym view ∙ plain x (inl refl)))),
      others_fit formals rest (λ z has. plain z (inr has)) actuals owners others,
    )
    others_fit [] NoMore plain actuals owners within = tt
    others_fit formals a plain actuals owners within = absurd actuals

    actuals_fit : (n : ℕ) (formals : List ℕ) → (sub_at y n).formals ≡ formals → (a : TypedTree) → ActualsTaken y formals a → NamesOwners y formals a × NamesFirst y (sub_at y n) a
        → Within y a → PassedFit (GivesScalar y) (GivesOwnless y) a
    actuals_fit n (x ∷ formals) is (More e rest) (actual, actuals) ((owner, owners), first) (within, others) = (
      one_fit x e (λ k want is_fine has. fit k e want is_fine has within) actual owner (λ view. first (settled.first n x formals is view)),
      others_fit formals rest (settled.later n x formals is) actuals owners others,
    )
    actuals_fit n [] is NoMore actuals passed within = tt
    actuals_fit n formals is a actuals passed within = absurd actuals

  -- ---- values

  -- what is looked at
  viewed_fit : (e : TypedTree) (want : ℕ) → IsViewed y want e → Within y e → Fit (GivesNamed y) e
  unfolding Within CallsFit
  viewed_fit (Name p x steps t) want (lead, views) within = steps_fit steps (object_at y x).of t lead within
  viewed_fit (typed.Call p n a) want (t, result, views) (is_call, passed, plain, within) =
      ((λ u is. named_result n u is plain), actuals_fit n (sub_at y n).formals refl a is_call.0 passed within)
  viewed_fit (Parens e) want viewed within = viewed_fit e want viewed within
  viewed_fit e want viewed within = absurd viewed

  value_fit : (e : TypedTree) (want : ℕ) → Taken y want e → Within y e → Fit (GivesNamed y) e
  value_fit e want (inl has) within = fit AreValues e want tt has within
  value_fit e want (inr viewed) within = viewed_fit e want viewed within

  -- a value, or what a traversal function gives alone
  abbrev IsSingle : TypedTree → Type 0
  IsSingle e = (q : Pos) × (n : ℕ) × (a : TypedTree) × (e ≡ typed.Call q n a) × GivesSeen y n × PassedFit (GivesScalar y) (GivesOwnless y) a

  result_taken : (p : Pos) (n : ℕ) (a : TypedTree) (want : ℕ) → Taken y want (typed.Call p n a) → (t : ℕ) × ((sub_at y n).result ≡ Some t)
  unfolding Has
  result_taken p n a want (inl (t, result, agree)) = (t, result)
  result_taken p n a want (inr (t, result, views)) = (t, result)

  source_fit : (e : TypedTree) (want : ℕ) → Taken y want e → WithinSource y want e → Fit (GivesNamed y) e ⊎ (IsSingle e × (is_anonymous (full y.table want) ≡ true))
  unfolding CallsFit
  source_fit (typed.Call p n a) want taken (is_call, passed, kind, within) = by_kind kind (traverses y.table (sub_at y n).result) refl
    where
      inner : PassedFit (GivesScalar y) (GivesOwnless y) a
      inner = actuals_fit n (sub_at y n).formals refl a is_call.0 passed within

      by_kind : GivesNoView y n ⊎ (is_anonymous (full y.table want) ≡ true) → (b : Bool) → traverses y.table (sub_at y n).result ≡ b
          → Fit (GivesNamed y) (typed.Call p n a) ⊎ (IsSingle (typed.Call p n a) × (is_anonymous (full y.table want) ≡ true))
      by_kind kind false plain = inl ((λ u is. named_result n u is plain), inner)
      by_kind (inl none) true gives_one = absurd (true≢false (sym gives_one ∙ none))
      by_kind (inr view) true gives_one =
          let found = result_taken p n a want taken in
          inr ((p, n, a, refl, (found.0, found.1, ap (traverses y.table) (sym found.1) ∙ gives_one), inner), view)
  source_fit e want taken within = inl (value_fit e want taken within)

  first_value : (v : TypedTree) (want : ℕ) → FirstTaken y want v → FirstWithin y want v → ValueFits (GivesScalar y) (GivesOwnless y) (GivesNamed y) (GivesSeen y) v
  unfolding CallsFit
  first_value (More e rest) want (last, taken) (within, others) = elim (source_fit e want taken within) [
    | inl value ↦ inl (value, subst (Fit (GivesNamed y)) (sym last) tt)
    | inr ((q, n, a, is, seen, inner), view) ↦ inr (q, n, a, (λ j. More (is j) (last j)), seen, inner)
  ]
  first_value NoMore want taken within = inl tt
  first_value v want taken within = absurd taken

  -- ---- names of places

  leads_plain : (steps : TypedTree) (t u : ℕ) → Leads y t steps u → is_anonymous (full y.table t) ≡ false → is_anonymous (full y.table u) ≡ false
  unfolding Leads
  leads_plain (Component i rest) t u (less, lead) plain = leads_plain rest (component_type y.table t i) u lead (settled.component t i)
  leads_plain (Element index low high rest) t u (e, is, has, lead) plain =
      leads_plain rest e u lead (ap (λ k. is_anonymous (full y.table (element_of k))) (sym is) ∙ settled.element t)
  leads_plain (Designated rest) t u (d, c, n, is, lead) plain = leads_plain rest d u lead (settled.designated t d c n is)
  leads_plain NoMore t u lead plain = ap (λ k. is_anonymous (full y.table k)) (sym lead) ∙ plain
  leads_plain steps t u lead plain = absurd lead

  -- what is of an anonymous access type is all of an object
  whole_place : (steps : TypedTree) (t u : ℕ) → Leads y t steps u → is_anonymous (full y.table u) ≡ true → has_call steps ≡ false
  unfolding Leads has_call
  whole_place (Component i rest) t u (less, lead) view = absurd (true≢false (sym view ∙ leads_plain rest (component_type y.table t i) u lead (settled.component t i)))
  whole_place (Element index low high rest) t u (e, is, has, lead) view =
      absurd (true≢false (sym view ∙ leads_plain rest e u lead (ap (λ k. is_anonymous (full y.table (element_of k))) (sym is) ∙ settled.element t)))
  whole_place (Designated rest) t u (d, c, n, is, lead) view = absurd (true≢false (sym view ∙ leads_plain rest d u lead (settled.designated t d c n is)))
  whole_place NoMore t u lead view = refl
  whole_place steps t u lead view = absurd lead

  target_fit : (e : TypedTree) (t : ℕ) → IsPlaceOf y t e → Within y e → CallsOnly (GivesScalar y) (GivesOwnless y) e
  unfolding Within CallsFit
  target_fit (Name p x steps u) t (lead, of) within = steps_fit steps (object_at y x).of u lead within
  target_fit e t place within = absurd place

  stored_fit : (target e : TypedTree) (t : ℕ) → IsPlaceOf y t target → Taken y t e → AssignedWithin y target e
      → StoredFits (GivesScalar y) (GivesOwnless y) (GivesNamed y) (GivesSeen y) target e
  stored_fit (Name p x path u) e t (lead, of) taken within = elim (source_fit e u (subst (λ k. Taken y k e) (sym of) taken) within) [
    | inl value ↦ inl value
    | inr ((q, n, a, is, seen, inner), view) ↦ inr (q, n, a, is, seen, inner, p, x, path, u, refl, whole_place path (object_at y x).of u lead view)
  ]
  stored_fit target e t place taken within = absurd place

  -- ---- strings and conditions

  text_fit : (e : TypedTree) → IsText y e → Within y e → Asked e
  unfolding IsText Within CallsFit
  text_fit (Text b) is within = tt
  text_fit (Image t e) (scalar, has) within = fit AreScalars e t scalar has within
  text_fit (Parens e) is within = text_fit e is within
  text_fit (Binary op a b) (first, second) (within, within') = (text_fit a first within, text_fit b second within')
  text_fit e is within = absurd is

  first_text : (v : TypedTree) → FirstText y v → Within y v → Asked v
  unfolding Within CallsFit
  first_text (More e rest) (last, is) (within, others) = (text_fit e is within, subst Asked (sym last) tt)
  first_text NoMore is within = tt
  first_text v is within = absurd is

  first_asked : (v : TypedTree) → FirstHas y boolean v → Within y v → Asked v
  unfolding Within CallsFit
  first_asked (More e rest) (last, has) (within, others) = (fit AreScalars e boolean settled.truths has within, subst Asked (sym last) tt)
  first_asked NoMore has within = tt
  first_asked v has within = absurd has

  returned_fit : (r : Option ℕ) (v : TypedTree) → Returned y r v → ReturnedWithin y r v → ValueFits (GivesScalar y) (GivesOwnless y) (GivesNamed y) (GivesSeen y) v
  unfolding CallsFit
  returned_fit None v none within = inl (subst (Fit (GivesNamed y)) (sym none) tt)
  returned_fit (Some t) v (e, is, taken) within =
      subst (λ z. FirstWithin y t z → ValueFits (GivesScalar y) (GivesOwnless y) (GivesNamed y) (GivesSeen y) z) (sym is)
      (λ inner. first_value (More e NoMore) t (refl, taken) inner) within.0

  -- ---- code

  abbrev Fits : TypedCode → Type 0
  Fits c = CodeFits (GivesScalar y) (GivesOwnless y) (GivesNamed y) (GivesSeen y) c

  mutual
    unfolding IsTypedCode CodeFits BranchesFit BranchFits AlternativesFit AlternativeFits

    pub code_fits : (r : Option ℕ) (c : TypedCode) → IsTypedCode y r c → Fits c
    code_fits r (typed.More a rest) (first, second) = (code_fits r a first, code_fits r rest second)
    code_fits r (Declare p x v) (taken, within) = first_value v (object_at y x).of taken within
    code_fits r (Assign p target e) ((t, place, taken), (within, inner)) = (target_fit target t place inner, stored_fit target e t place taken within)
    code_fits r (typed.Call p n a) (is_call, (passed, within)) = actuals_fit n (sub_at y n).formals refl a is_call.0 passed within
    code_fits r (Output p text line) (is, within) = first_text text is within
    code_fits r (Input p target) ((t, place, counted), within) = target_fit target t place within
    code_fits r (Release p m) ((t, d, place, is), within) = target_fit m t place within
    code_fits r (If branches otherwise) (first, second) = (branches_fit r branches first, code_fits r otherwise second)
    code_fits r (Case p e whens) (((t, scalar, has), within), second) = (fit AreScalars e t scalar has within, whens_fit r whens second)
    code_fits r (Loop stmts) typed_stmts = code_fits r stmts typed_stmts
    code_fits r (While p e stmts) ((has, within), second) = (fit AreScalars e boolean settled.truths has within, code_fits r stmts second)
    code_fits r (For p x reversed low high stmts) (((scalar, has, has'), (within, within')), next, inner) =
        (fit AreScalars low (object_at y x).of scalar has within, fit AreScalars high (object_at y x).of scalar has' within', code_fits r stmts inner)
    code_fits r (Exit p e) (has, within) = first_asked e has within
    code_fits r (Return p v) (returned, within) = returned_fit r v returned within
    code_fits r (Block n stmts end) typed_stmts = code_fits r stmts typed_stmts
    code_fits r c typed_code = tt

    branches_fit : (r : Option ℕ) (c : TypedCode) → IsTypedCode y r c → BranchesFit (GivesScalar y) (GivesOwnless y) (GivesNamed y) (GivesSeen y) c
    branches_fit r (typed.More a rest) (first, second) = (branch_fit r a first, branches_fit r rest second)
    branches_fit r c typed_code = tt

    branch_fit : (r : Option ℕ) (c : TypedCode) → IsTypedCode y r c → BranchFits (GivesScalar y) (GivesOwnless y) (GivesNamed y) (GivesSeen y) c
    branch_fit r (Branch p e stmts) ((has, within), second) = (fit AreScalars e boolean settled.truths has within, code_fits r stmts second)
    branch_fit r c typed_code = tt

    whens_fit : (r : Option ℕ) (c : TypedCode) → IsTypedCode y r c → AlternativesFit (GivesScalar y) (GivesOwnless y) (GivesNamed y) (GivesSeen y) c
    whens_fit r (typed.More a rest) (first, second) = (when_fit r a first, whens_fit r rest second)
    whens_fit r c typed_code = tt

    when_fit : (r : Option ℕ) (c : TypedCode) → IsTypedCode y r c → AlternativeFits (GivesScalar y) (GivesOwnless y) (GivesNamed y) (GivesSeen y) c
    when_fit r (When choices stmts) typed_stmts = code_fits r stmts typed_stmts
    when_fit r c typed_code = tt
