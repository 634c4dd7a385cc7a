-- An expression that has a type gives what soundness asks for.
use Rattle.std.proofs.Common.{◌≡◌, refl, sym, ap, ◌∙◌, subst, ◌⊎◌, inl, inr, ℕ, suc, Bool, true, false, ◌||◌, if◌then◌else◌}
use Rattle.std.proofs.lemmas.Bool.{false≢true}
use Rattle.machine.specs.type_definitions.declared.table.Shape.{Shape}
use Rattle.machine.specs.type_definitions.declared.table.Shape.TheVariants as shape
use Rattle.machine.specs.type_definitions.Types.{Table, shape_of, full, view_of, is_scalar, is_owning, words, words_of}
use Rattle.machine.specs.type_definitions.Entries.{integer, boolean}
use Rattle.machine.specs.type_definitions.Expressions.{unary_type, is_arithmetic}
use Rattle.machine.specs.resolved_tree.declared.operator.Operator.{Operator}
use Rattle.machine.specs.resolved_tree.declared.operator.UnaryOperator.{UnaryOperator}
use Rattle.machine.specs.resolved_tree.declared.operator.UnaryOperator.TheVariants as unary
use Rattle.machine.specs.typed_tree.Trees.{TypedTree, Number, Literal, Text, Name, Component as IntoComponent, Designated, Element, Call, EndOfFile, Parens, Image, Unary, Binary, Short, IsNull, Aggregate, Alike, New, NoMore, More}
use Rattle.machine.specs.typed_tree.Trees as typed
use Rattle.machine.specs.flow_paths.Objects.{Typing, object_at}
use Rattle.machine.specs.Typed.{same_kind, is_record, is_array}
use Rattle.machine.specs.Words.{element_of, element_type}
use Rattle.machine.specs.Evaluate.{part_type}
use Rattle.soundness.specs.TypedLaws.Fine.{Agree, counts, lists, operator_type, Has, HasParts, HasFirst}
use Rattle.soundness.specs.TypedLaws.Fine as fine
use Rattle.soundness.specs.TypedLaws.Needed.{Matches, Stays, Leads, Gives, GivesParts, GivesFirst}
use Rattle.soundness.proofs.TypedLaws.Cases.{shape_view}
use Rattle.soundness.proofs.TypedLaws.Agreeing.{one_shape, either_left, either_right}

kind_scalar : (a b : Shape) → same_kind a b ≡ true → (is_scalar (view_of a) ≡ true) × (is_scalar (view_of b) ≡ true)
kind_scalar (shape.Whole u v) (shape.Whole w x) e = (refl, refl)
kind_scalar (shape.Listed k u v) (shape.Listed l w x) e = (refl, refl)
kind_scalar (shape.Whole u v) b e = absurd (false≢true e)
kind_scalar (shape.Listed k u v) b e = absurd (false≢true e)
kind_scalar a b e = absurd (false≢true e)

pub matches : (table : Table) (t u : ℕ) → Agree table t u → Matches table t u
matches table t u (inl e) = inl (one_shape table t u e)
matches table t u (inr e) = inr (kind_scalar (shape_of table t) (shape_of table u) e)

agree_scalar : (table : Table) (t u : ℕ) → Agree table t u → is_scalar (full table t) ≡ is_scalar (full table u)
agree_scalar table t u (inl e) = ap (λ z. is_scalar (view_of z)) (one_shape table t u e)
agree_scalar table t u (inr e) = let both = kind_scalar (shape_of table t) (shape_of table u) e in both.0 ∙ sym both.1

composite_scalar : (z : Shape) → is_record z || is_array z ≡ true → is_scalar (view_of z) ≡ true → ⊥
composite_scalar (shape.Whole a b) e f = absurd (false≢true e)
composite_scalar (shape.Listed k a b) e f = absurd (false≢true e)
composite_scalar z e f = absurd (false≢true f)

no_access : (z : Shape) (d : ℕ) (k n : Bool) → z ≡ shape.Access d k n → is_scalar (view_of z) ≡ true → ⊥
no_access z d k n e h = false≢true (sym (ap (λ x. is_scalar (view_of x)) e) ∙ h)

module _ (y : Typing) (whole : counts (shape_of y.table integer) ≡ true) (listed : lists (shape_of y.table boolean) ≡ true)
    (word_law : (t : ℕ) → words y.table t ≡ words_of (words y.table) (shape_of y.table t)) where
  whole_scalar : is_scalar (full y.table integer) ≡ true
  whole_scalar = shape_view (shape_of y.table integer) (either_left _ _ whole)

  truth_scalar : is_scalar (full y.table boolean) ≡ true
  truth_scalar = shape_view (shape_of y.table boolean) (either_right _ _ listed)

  unary_scalar : (op : UnaryOperator) → is_scalar (full y.table (unary_type op)) ≡ true
  unary_scalar unary.Not = truth_scalar
  unary_scalar op = whole_scalar

  mutual
    unfolding Has fine.Leads Stays Leads

    pub stays : (e : TypedTree) (t : ℕ) → Has y t e → is_scalar (full y.table t) ≡ true → Stays y e
    stays (Name p x steps of) t has scalar = (leads steps (object_at y x).of of has.0, agree_scalar y.table of t has.1 ∙ scalar)
    stays (Parens e) t has scalar = stays e t has.1 scalar
    stays (Unary op e) t has scalar = stays e (unary_type op) has.1 (unary_scalar op)
    stays (Binary op a b) t has scalar = (stays a has.2 has.5 has.4, stays b has.2 has.6 has.4)
    stays (Short op p a q b) t has scalar = (stays a boolean has.1 truth_scalar, stays b boolean has.2 truth_scalar)
    stays (IsNull equal (Name p x steps of)) t has scalar = leads steps (object_at y x).of of has.1.0
    stays (IsNull equal (Call p sub actuals)) t has scalar = tt
    stays (IsNull equal e) t has scalar = absurd has.1
    stays (Aggregate of es) t has scalar = absurd (composite_scalar (shape_of y.table of) has.3 (agree_scalar y.table of t has.0 ∙ scalar))
    stays (Alike of e) t has scalar = absurd (false≢true (sym (ap (λ z. is_scalar (view_of z)) has.4) ∙ agree_scalar y.table of t has.0 ∙ scalar))
    stays (New of v) t has scalar = absurd (no_access (shape_of y.table t) has.0 has.1 has.2 has.3 scalar)
    stays (Number v) t has scalar = tt
    stays (Literal n) t has scalar = tt
    stays EndOfFile t has scalar = tt
    stays typed.Null t has scalar = tt
    stays (Call p sub actuals) t has scalar = tt
    stays (Text b) t has scalar = absurd has
    stays (Image of e) t has scalar = absurd has
    stays (IntoComponent i rest) t has scalar = absurd has
    stays (Designated rest) t has scalar = absurd has
    stays (Element i low high rest) t has scalar = absurd has
    stays NoMore t has scalar = absurd has
    stays (More e rest) t has scalar = absurd has

    pub leads : (steps : TypedTree) (t u : ℕ) → fine.Leads y t steps u → Leads y t steps u
    leads (IntoComponent i rest) t u h = (h.0, leads rest _ u h.1)
    leads (Element index low high rest) t u h = (h.0, h.1, stays index integer h.2 whole_scalar, leads rest h.0 u h.3)
    leads (Designated rest) t u h = (h.0, h.1, h.2, h.3, leads rest h.0 u h.4)
    leads NoMore t u h = h
    leads e t u h = absurd h

  operator_scalar : (op : Operator) → is_scalar (full y.table (operator_type op)) ≡ true
  operator_scalar op = by (is_arithmetic op)
    where
      by : (b : Bool) → is_scalar (full y.table (if b then integer else boolean)) ≡ true
      by true = whole_scalar
      by false = truth_scalar

  mutual
    unfolding Has HasParts HasFirst Gives GivesParts GivesFirst Stays

    pub gives : (e : TypedTree) (t : ℕ) → Has y t e → Gives y t e
    gives (Name p x steps of) t has = (leads steps (object_at y x).of of has.0, matches y.table of t has.1)
    gives typed.Null t has = word_law t ∙ ap (words_of (words y.table)) has.3
    gives (Call p sub actuals) t has = (has.0, has.1, matches y.table has.0 t has.2)
    gives (Aggregate of es) t has = (matches y.table of t has.0, has.3, has.1, gives_parts es of 0 has.2)
    gives (Alike of e) t has =
        let element : element_type y.table of ≡ has.3 = ap element_of has.4 in (
          matches y.table of t has.0,
          ap is_array has.4,
          subst (λ z. (is_owning y.table z ≡ false) ⊎ (e ≡ typed.Null)) (sym element) has.5,
          subst (λ z. Gives y z e) (sym element) (gives e has.3 has.6),
        )
    gives (New of v) t has = (has.0, has.1, has.2, has.3, matches y.table has.0 of has.4, gives_first v of has.5)
    gives (Number v) t has = shape_view (shape_of y.table t) (either_left _ _ has.0)
    gives (Literal n) t has = shape_view (shape_of y.table t) (either_right _ _ has)
    gives EndOfFile t has = shape_view (shape_of y.table t) (either_right _ _ has)
    gives (Parens e) t has = gives e t has.1
    gives (Unary op e) t has = (sym (agree_scalar y.table (unary_type op) t has.0) ∙ unary_scalar op, stays e (unary_type op) has.1 (unary_scalar op))
    gives (Binary op a b) t has = (sym (agree_scalar y.table (operator_type op) t has.1) ∙ operator_scalar op, stays a has.2 has.5 has.4, stays b has.2 has.6 has.4)
    gives (Short op p a q b) t has = (sym (agree_scalar y.table boolean t has.0) ∙ truth_scalar, stays a boolean has.1 truth_scalar, stays b boolean has.2 truth_scalar)
    gives (IsNull equal e) t has =
        let scalar = sym (agree_scalar y.table boolean t has.0) ∙ truth_scalar in (scalar, stays (IsNull equal e) t has scalar)
    gives (Text b) t has = absurd has
    gives (Image of e) t has = absurd has
    gives (IntoComponent i rest) t has = absurd has
    gives (Designated rest) t has = absurd has
    gives (Element i low high rest) t has = absurd has
    gives NoMore t has = absurd has
    gives (More e rest) t has = absurd has

    gives_parts : (es : TypedTree) (t i : ℕ) → HasParts y t i es → GivesParts y t i es
    gives_parts (More e rest) t i has = (gives e (part_type (shape_of y.table t) i) has.0, gives_parts rest t (suc i) has.1)
    gives_parts NoMore t i has = tt
    gives_parts e t i has = absurd has

    gives_first : (v : TypedTree) (t : ℕ) → HasFirst y t v → GivesFirst y t v
    gives_first (More e rest) t has = (has.0, gives e t has.1)
    gives_first NoMore t has = tt
    gives_first e t has = absurd has
