-- Expressions at their places in statements.
use Rattle.std.proofs.Common.{◌≡◌, refl, ap, subst, inl, inr, ℕ, ℤ, Bool, true, false, ◌||◌, List, [], if◌then◌else◌, sym, ◌∙◌}
use Rattle.std.proofs.lemmas.Bool.{false≢true}
use Rattle.machine.specs.resolved_tree.Trees.{Tree, Number, Text, Null, Named, Parens, Unary, Binary, Aggregate, Others, New, NoMore, More}
use Rattle.machine.specs.type_definitions.declared.table.Shape.{Shape}
use Rattle.machine.specs.type_definitions.declared.table.Shape.TheVariants as shape
use Rattle.machine.specs.type_definitions.declared.judgement.Own.{Own}
use Rattle.machine.specs.type_definitions.declared.judgement.Own.TheVariants as own
use Rattle.machine.specs.type_definitions.declared.judgement.Where.{Where}
use Rattle.machine.specs.type_definitions.declared.judgement.Where.TheVariants as stands
use Rattle.machine.specs.type_definitions.Types.{Table, full, shape_of, view_of, is_untyped, is_scalar}
use Rattle.machine.specs.type_definitions.Entries.{integer, boolean}
use Rattle.machine.specs.type_definitions.Names.{Context, seen, reading_of}
use Rattle.machine.specs.type_definitions.Expressions.{own_type, around, inside, faults, scalar_own, is_join, is_arithmetic, is_demanding}
use Rattle.machine.specs.type_definitions.Statements.{condition}
use Rattle.machine.specs.typed_tree.Trees.{TypedTree}
use Rattle.machine.specs.typed_tree.Trees as typed
use Rattle.machine.specs.typed_tree.declared.object.Object.{Object}
use Rattle.machine.specs.typed_tree.Expressions.{Site, typed_expression, typed_optional}
use Rattle.machine.specs.flow_paths.Objects.{Typing, Signature}
use Rattle.machine.specs.Typed.{is_record, is_array}
use Rattle.soundness.specs.TypedLaws.Fine.{Has, Laws, IsMeant}
use Rattle.soundness.specs.TypedLaws.Needed.{Gives, Stays, FirstStays, Source}
use Rattle.soundness.proofs.TypedLaws.Agreeing.{of_known, nil_left, nil_right, either_left, either_right}
use Rattle.soundness.proofs.TypedLaws.Readings.{seen_scalar}
use Rattle.soundness.proofs.TypedLaws.Steps.{typing}
use Rattle.soundness.proofs.TypedLaws.Cases.{not_demanding, shape_view}
use Rattle.soundness.proofs.TypedLaws.Main.{fine, has_type}
use Rattle.soundness.proofs.TypedLaws.Sound.{gives, stays}
use Rattle.soundness.specs.TypedLaws.TypedPoints.Meant.{IsMeantOptional}
use Rattle.soundness.proofs.TypedLaws.TypedPoints.Flags.{flagged, at_flags, typed_same, meant_same}

-- ---- where the place decides nothing

no_access : (a : Shape) (d : ℕ) (k n : Bool) → a ≡ shape.Access d k n → is_scalar (view_of a) ≡ true → ⊥
no_access a d k n e h = false≢true (sym (ap (λ x. is_scalar (view_of x)) e) ∙ h)

no_composite : (a : Shape) → is_record a || is_array a ≡ true → is_scalar (view_of a) ≡ true → ⊥
no_composite (shape.Whole a b) e f = false≢true e
no_composite (shape.Listed k a b) e f = false≢true e
no_composite a e f = false≢true f

no_elements : (a : Shape) (low high : ℤ) (of : ℕ) → a ≡ shape.Elements low high of → is_scalar (view_of a) ≡ true → ⊥
no_elements a low high of e h = false≢true (sym (ap (λ x. is_scalar (view_of x)) e) ∙ h)

-- An expression with a type of its own means the same wherever it stands.
pub unwanted : (s : Site) (e : Tree) (t u : ℕ) → (own_type s.context e ≡ own.Demanding → ⊥) → typed_expression s t e ≡ typed_expression s u e
unfolding own_type typed_expression
unwanted s (Number p n) t u own = refl
unwanted s (Text p v) t u own = refl
unwanted s (Named p d rest) t u own = refl
unwanted s (Unary p op e) t u own = refl
unwanted s (Binary p op a b) t u own = refl
unwanted s (Parens p e) t u own = ap typed.Parens (unwanted s e t u own)
unwanted s e t u own = absurd (own refl)

no_demand : (j k : Bool) → (if j then own.Text else if k then own.Of integer else own.Of boolean) ≡ own.Demanding → ⊥
no_demand true k e = false≢true (ap is_demanding e)
no_demand false true e = false≢true (ap is_demanding e)
no_demand false false e = false≢true (ap is_demanding e)

-- What has a scalar type has a type of its own.
pub scalar_own_type : (s : Site) (y : Typing) (e : Tree) (t : ℕ) → IsMeant s y e → Has y t (typed_expression s t e) → is_scalar (full y.table t) ≡ true
    → own_type s.context e ≡ own.Demanding → ⊥
unfolding own_type IsMeant typed_expression Has
scalar_own_type s y (Number p n) t meant has scalar is = false≢true (ap is_demanding is)
scalar_own_type s y (Text p v) t meant has scalar is = false≢true (ap is_demanding is)
scalar_own_type s y (Named p d rest) t meant has scalar is = not_demanding s.context.known (reading_of s.context d rest) is
scalar_own_type s y (Unary p op e) t meant has scalar is = false≢true (ap is_demanding is)
scalar_own_type s y (Binary p op a b) t meant has scalar is = no_demand (is_join op) (is_arithmetic op) is
scalar_own_type s y (Parens p e) t meant has scalar is = scalar_own_type s y e t meant has.1 scalar is
scalar_own_type s y (Null p) t meant has scalar is = no_access (shape_of y.table t) has.0 has.1 has.2 has.3 scalar
scalar_own_type s y (New p m v) t meant has scalar is = no_access (shape_of y.table t) has.0 has.1 has.2 has.3 scalar
scalar_own_type s y (Aggregate p args) t meant has scalar is = no_composite (shape_of y.table t) has.3 scalar
scalar_own_type s y (Others p e) t meant has scalar is = no_elements (shape_of y.table t) has.1 has.2 has.3 has.4 scalar
scalar_own_type s y e t meant has scalar is = absurd meant

module _ (s : Site) (objects : List Object) (subs : List Signature) (made : ℕ → Type 0) (laws : Laws s.context.known made) where
  abbrev pub y : Typing
  y = typing s objects subs made laws

  abbrev pub table : Table
  table = s.context.known.table

  pub seen_full : (c : Context) (t : ℕ) → c.known.table ≡ table → is_scalar (seen c t) ≡ true → is_scalar (full table t) ≡ true
  seen_full c t is e = subst (λ z. is_scalar (full z t) ≡ true) is (elim (seen_scalar c t e) [
    | inl h ↦ shape_view (shape_of c.known.table t) (either_left _ _ h)
    | inr h ↦ shape_view (shape_of c.known.table t) (either_right _ _ h)
  ])

  pub truth : is_scalar (full table boolean) ≡ true
  truth = shape_view (shape_of table boolean) (either_right _ _ laws.listed)

  pub numbers : is_scalar (full table integer) ≡ true
  numbers = shape_view (shape_of table integer) (either_left _ _ laws.whole)

  pub given : (e : TypedTree) (t : ℕ) → Has y t e → Gives y t e
  given e t has = gives y laws.whole laws.listed laws.word_law e t has

  pub stayed : (e : TypedTree) (t : ℕ) → Has y t e → is_scalar (full table t) ≡ true → Stays y e
  stayed e t has scalar = stays y laws.whole laws.listed laws.word_law e t has scalar

  module _ (looped starts : Bool) where
    abbrev pub c : Context
    c = flagged looped starts s.context

    abbrev pub z : Site
    z = at_flags looped starts s

    -- ---- at a place

    pub has_at : (e : Tree) (at : Where) (want : ℕ) → IsMeant s y e → made want → faults c at want e ≡ [] → Has y want (typed_expression s want e)
    has_at e at want meant m none =
        subst (Has y want) (typed_same looped starts s want e)
        (has_type z objects subs made laws e at want (meant_same looped starts s y e meant) m (nil_left (around c at want e) _ none) (nil_right (around c at want e) _ none))

    pub own_at : (e : Tree) (want t : ℕ) → IsMeant s y e → own_type c e ≡ own.Of t → inside c false want e ≡ [] → made t × Has y t (typed_expression s want e)
    own_at e want t meant is none =
        let found = (fine z objects subs made laws e (meant_same looped starts s y e meant)).by_own want t is none in
        (found.0, subst (Has y t) (typed_same looped starts s want e) found.1)

    pub known_at : (e : Tree) (want : ℕ) → IsMeant s y e → own_type c e ≡ own.Unknown → inside c false want e ≡ [] → ⊥
    known_at e want meant is none = (fine z objects subs made laws e (meant_same looped starts s y e meant)).by_known want is none

    -- A scalar expression, by itself.
    pub scalar_at : (e : Tree) (want : ℕ) → IsMeant s y e → scalar_own c (own_type c e) ≡ true → inside c false want e ≡ []
        → (t : ℕ) × (own_type c e ≡ own.Of t) × made t × (is_scalar (seen c t) ≡ true) × Has y t (typed_expression s want e)
    scalar_at e want meant scalar none = by (own_type c e) refl
      where
        by : (o : Own) → own_type c e ≡ o → (t : ℕ) × (own_type c e ≡ own.Of t) × made t × (is_scalar (seen c t) ≡ true) × Has y t (typed_expression s want e)
        by own.Unknown is = absurd (known_at e want meant is none)
        by own.Demanding is = absurd (false≢true (subst (λ x. scalar_own c x ≡ true) is scalar))
        by own.Text is = absurd (false≢true (subst (λ x. scalar_own c x ≡ true) is scalar))
        by (own.Of t) is =
            let f : scalar_own c (own.Of t) ≡ true = subst (λ x. scalar_own c x ≡ true) is scalar in
            let has = own_at e want t meant is none in
            (t, is, has.0, of_known (is_untyped table t) (is_scalar (seen c t)) (laws.certain t has.0) f, has.1)

    pub scalar_stays : (e : Tree) (want : ℕ) → IsMeant s y e → scalar_own c (own_type c e) ≡ true → inside c false want e ≡ [] → Stays y (typed_expression s want e)
    scalar_stays e want meant scalar none =
        let found = scalar_at e want meant scalar none in
        stayed (typed_expression s want e) found.0 found.4 (seen_full c found.0 refl found.3)

    -- Where a scalar type is demanded, and the text is typed for another one.
    pub bound_stays : (e : Tree) (want t : ℕ) → IsMeant s y e → made t → is_scalar (full table t) ≡ true → faults c stands.Elsewhere t e ≡ [] → Stays y (typed_expression s want e)
    bound_stays e want t meant m scalar none =
        let has = has_at e stands.Elsewhere t meant m none in
        subst (Stays y) (unwanted s e t want (λ is. scalar_own_type s y e t meant has scalar is)) (stayed (typed_expression s t e) t has scalar)

    pub condition_stays : (e : Tree) → IsMeant s y e → faults c stands.Elsewhere boolean e ≡ [] → Stays y (typed_expression s boolean e)
    condition_stays e meant none = stayed (typed_expression s boolean e) boolean (has_at e stands.Elsewhere boolean meant laws.booleans none) truth

    pub first_stays : (v : Tree) → IsMeantOptional s y v → condition c v ≡ [] → FirstStays y (typed_optional s boolean v)
    first_stays (More e rest) meant none = (refl, condition_stays e meant none)
    first_stays NoMore meant none = tt
    first_stays v meant none = absurd meant

    pub source_at : (e : Tree) (want : ℕ) → IsMeant s y e → made want → faults c stands.Stored want e ≡ [] → Source y want (typed_expression s want e)
    source_at e want meant m none = inr (given (typed_expression s want e) want (has_at e stands.Stored want meant m none))
