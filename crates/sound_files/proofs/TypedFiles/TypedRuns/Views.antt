-- Sources that are looked at, for places of anonymous access types.
use Rattle.std.proofs.Common.{◌≡◌, refl, sym, ap, ◌∙◌, subst, ◌⊎◌, inl, inr, ℕ, Bool, true, false, ◌&&◌, ◌||◌, List, [], if◌then◌else◌}
use Rattle.std.proofs.lemmas.Bool.{false≢true}
use Rattle.machine.specs.spark_base.declared.position.Pos.{Pos}
use Rattle.machine.specs.resolved_tree.declared.operator.UnaryOperator.{UnaryOperator}
use Rattle.machine.specs.resolved_tree.declared.operator.UnaryOperator.TheVariants as unary
use Rattle.machine.specs.resolved_tree.Trees.{Tree, Number, Text, Null, Named, Parens, Unary, Binary, Aggregate, Others, New, position}
use Rattle.machine.specs.type_definitions.declared.table.Shape.{Shape}
use Rattle.machine.specs.type_definitions.declared.table.Shape.TheVariants as shape
use Rattle.machine.specs.type_definitions.declared.judgement.Own.{Own}
use Rattle.machine.specs.type_definitions.declared.judgement.Own.TheVariants as own
use Rattle.machine.specs.type_definitions.declared.judgement.Reading.{Reading}
use Rattle.machine.specs.type_definitions.declared.judgement.Reading.TheVariants as reading
use Rattle.machine.specs.type_definitions.Types.{Table, base, full, is_owning, is_same, is_untyped, owns_of, shape_of, view_of}
use Rattle.machine.specs.type_definitions.Entries.{entry_of, integer, boolean}
use Rattle.machine.specs.type_definitions.Faults.{demand, K6}
use Rattle.machine.specs.type_definitions.Names.{Context, seen, reading_of}
use Rattle.machine.specs.type_definitions.Expressions.{own_of, own_type, around_parens, inside, reading_faults, given_names, call_arguments, is_access, is_anonymous, designated, unary_type, is_arithmetic}
use Rattle.machine.specs.type_definitions.Statements.{designates, source_fits, source_name, source_faults, return_source, formal_source, is_name}
use Rattle.machine.specs.typed_tree.Trees.{TypedTree}
use Rattle.machine.specs.typed_tree.Trees as typed
use Rattle.machine.specs.typed_tree.declared.object.Object.{Object}
use Rattle.machine.specs.typed_tree.Expressions.{Site, typed_expression, typed_name, typed_steps, typed_actuals, typed_imaged, called_function, object_type}
use Rattle.machine.specs.flow_paths.Objects.{Typing, Signature}
use Rattle.machine.specs.Typed.{is_record, is_array, same_kind}
use Rattle.soundness.specs.TypedLaws.Fine.{Agree, Has, Laws, IsMeant, counts, lists}
use Rattle.soundness.proofs.TypedLaws.Agreeing.{of_known, holds, nil_left, nil_right, and_left, and_right, agree_trans, agree_counts, agree_lists, one_shape, is_free}
use Rattle.soundness.proofs.TypedLaws.Steps.{seen_access}
use Rattle.soundness.proofs.TypedLaws.Named.{named_has}
use Rattle.soundness.proofs.TypedLaws.Cases.{is_access_view, not_off, one_base}
use Rattle.soundness.proofs.TypedLaws.Main.{fine, fine_suffixes}
use Rattle.soundness.proofs.TypedLaws.TypedPoints.Sources.{anonymous_shape}
use Rattle.soundness.specs.TypedLaws.TypedSteps.Steps.{Taken}
use Rattle.sound_files.proofs.TypedFiles.TypedRuns.Actuals.{agree_back}

-- ---- shapes

abbrev target_in : Shape → ℕ
target_in (shape.Access d k n) = d
target_in z = 0

one_target : (z : Shape) (u v : ℕ) (c k n l : Bool) → z ≡ shape.Access u c n → z ≡ shape.Access v k l → u ≡ v
one_target z u v c k n l e f = sym (ap target_in e) ∙ ap target_in f

no_number : (z : Shape) (d : ℕ) (k n : Bool) → z ≡ shape.Access d k n → counts z ≡ true → ⊥
no_number z d k n e h = false≢true (sym (ap counts e) ∙ h)

no_literal : (z : Shape) (d : ℕ) (k n : Bool) → z ≡ shape.Access d k n → lists z ≡ true → ⊥
no_literal z d k n e h = false≢true (sym (ap lists e) ∙ h)

no_composite : (z : Shape) (d : ℕ) (k n : Bool) → z ≡ shape.Access d k n → is_record z || is_array z ≡ true → ⊥
no_composite z d k n e h = false≢true (sym (ap (λ x. is_record x || is_array x) e) ∙ h)

kind_access : (a b : Shape) (d : ℕ) (k n : Bool) → b ≡ shape.Access d k n → same_kind a b ≡ true → ⊥
kind_access a b d k n e f = none a d k n (subst (λ z. same_kind a z ≡ true) e f)
  where
    none : (a : Shape) (d : ℕ) (k n : Bool) → same_kind a (shape.Access d k n) ≡ true → ⊥
    none (shape.Whole u v) d k n h = absurd (false≢true h)
    none (shape.Listed l u v) d k n h = absurd (false≢true h)
    none a d k n h = absurd (false≢true h)

access_from : (table : Table) (t u d : ℕ) (k n : Bool) → Agree table t u → shape_of table u ≡ shape.Access d k n → shape_of table t ≡ shape.Access d k n
access_from table t u d k n (inl e) h = one_shape table t u e ∙ h
access_from table t u d k n (inr e) h = absurd (kind_access (shape_of table t) (shape_of table u) d k n h e)

-- ---- expressions of an access type

module _ (y : Typing) (whole : counts (shape_of y.table integer) ≡ true) (listed : lists (shape_of y.table boolean) ≡ true) where
  number_apart : (t d : ℕ) (k n : Bool) → Agree y.table integer t → shape_of y.table t ≡ shape.Access d k n → ⊥
  number_apart t d k n agree is = no_number (shape_of y.table t) d k n is (agree_counts y.table integer t agree whole)

  truth_apart : (t d : ℕ) (k n : Bool) → Agree y.table boolean t → shape_of y.table t ≡ shape.Access d k n → ⊥
  truth_apart t d k n agree is = no_literal (shape_of y.table t) d k n is (agree_lists y.table boolean t agree listed)

  unary_apart : (op : UnaryOperator) (t d : ℕ) (k n : Bool) → Agree y.table (unary_type op) t → shape_of y.table t ≡ shape.Access d k n → ⊥
  unary_apart unary.Not t d k n agree is = truth_apart t d k n agree is
  unary_apart op t d k n agree is = number_apart t d k n agree is

  operator_apart : (b : Bool) (t d : ℕ) (k n : Bool) → Agree y.table (if b then integer else boolean) t → shape_of y.table t ≡ shape.Access d k n → ⊥
  operator_apart true t d k n agree is = number_apart t d k n agree is
  operator_apart false t d k n agree is = truth_apart t d k n agree is

  -- It designates what an access type designates that takes it.
  pub view_taken : (e : TypedTree) (t want d k : ℕ) (c n a m : Bool) → shape_of y.table t ≡ shape.Access d c n → shape_of y.table want ≡ shape.Access k a m
      → Agree y.table d k → is_owning y.table want ≡ false → Has y t e → Taken y want e
  unfolding Has
  view_taken (typed.Name p x steps u) t want d k c n a m is wants agree bare has =
      inr (has.0, (d, k, c, n, a, m, access_from y.table u t d c n has.1 is, wants, agree))
  view_taken (typed.Call p sub actuals) t want d k c n a m is wants agree bare has =
      inr (has.0, has.1, (d, k, c, n, a, m, access_from y.table has.0 t d c n has.2 is, wants, agree))
  view_taken typed.Null t want d k c n a m is wants agree bare has = inl (k, a, m, wants)
  view_taken (typed.New u v) t want d k c n a m is wants agree bare has =
      let same : has.0 ≡ d = one_target (shape_of y.table t) has.0 d has.1 c has.2 n has.3 is in
      inl (k, a, m, wants, agree_trans y.table k d u (agree_back y.table d k agree) (subst (λ z. Agree y.table z u) same has.4), has.5)
  view_taken (typed.Parens e) t want d k c n a m is wants agree bare has = elim (view_taken e t want d k c n a m is wants agree bare has.1) [ inl h ↦ inl (bare, h) | inr h ↦ inr h ]
  view_taken (typed.Number v) t want d k c n a m is wants agree bare has = absurd (no_number (shape_of y.table t) d c n is has.0)
  view_taken (typed.Literal v) t want d k c n a m is wants agree bare has = absurd (no_literal (shape_of y.table t) d c n is has)
  view_taken typed.EndOfFile t want d k c n a m is wants agree bare has = absurd (no_literal (shape_of y.table t) d c n is has)
  view_taken (typed.Unary op e) t want d k c n a m is wants agree bare has = absurd (unary_apart op t d c n has.0 is)
  view_taken (typed.Binary op e f) t want d k c n a m is wants agree bare has = absurd (operator_apart (is_arithmetic op) t d c n has.1 is)
  view_taken (typed.Short op p e q f) t want d k c n a m is wants agree bare has = absurd (truth_apart t d c n has.0 is)
  view_taken (typed.IsNull equal e) t want d k c n a m is wants agree bare has = absurd (truth_apart t d c n has.0 is)
  view_taken (typed.Aggregate u es) t want d k c n a m is wants agree bare has =
      absurd (no_composite (shape_of y.table u) d c n (access_from y.table u t d c n has.0 is) has.3)
  view_taken (typed.Alike u e) t want d k c n a m is wants agree bare has =
      absurd (no_composite (shape_of y.table u) d c n (access_from y.table u t d c n has.0 is) (ap (λ z. is_record z || is_array z) has.4))
  view_taken e t want d k c n a m is wants agree bare has = absurd has

anonymous_owns : (f : ℕ → Bool) (z : Shape) → is_anonymous (view_of z) ≡ true → owns_of f z ≡ false
anonymous_owns f (shape.Access d c false) e = refl
anonymous_owns f (shape.Access d c true) e = absurd (false≢true e)
anonymous_owns f z e = absurd (false≢true e)

-- A type by itself, or none: then a place decides.
no_own : (c : Context) (want : ℕ) (o : Own) → designates c want o ≡ true → (o ≡ own.Unknown) ⊎ (t : ℕ) × (o ≡ own.Of t)
no_own c want own.Unknown e = inl refl
no_own c want (own.Of t) e = inr (t, refl)
no_own c want o e = absurd (false≢true e)

module _ (s : Site) (objects : List Object) (subs : List Signature) (made : ℕ → Type 0) (laws : Laws s.context.known made) where
  abbrev y : Typing
  y = record { table = s.context.known.table; objects = objects; subs = subs }

  abbrev table : Table
  table = s.context.known.table

  abbrev c : Context
  c = s.context

  -- A place of an anonymous access type takes what designates its type.
  module _ (want : ℕ) (m : made want) (anonymous : is_anonymous (full table want) ≡ true) where
    defined : (to : ℕ) × (constant : Bool) × (named : Bool) × (shape_of table want ≡ shape.Access to constant named)
    defined = anonymous_shape (shape_of table want) anonymous

    bare : is_owning table want ≡ false
    bare = laws.owns want ∙ anonymous_owns (is_owning table) (shape_of table want) anonymous

    fits_taken : (e : TypedTree) (t : ℕ) → made t → Has y t e → designates c want (own.Of t) ≡ true → Taken y want e
    fits_taken e t mt has fit =
        let source = is_access (seen c t) && is_same table (designated (full table t)) (designated (full table want)) in
        let fits = of_known (is_untyped table t) source (laws.certain t mt) fit in
        let found = is_access_view (seen c t) (and_left (is_access (seen c t)) _ fits) in
        let is = seen_access c t found.0 found.1 found.2 found.3 in
        let same = and_right (is_access (seen c t)) _ fits in
        let left : designated (full table t) ≡ found.0 = ap (λ z. designated (view_of z)) is in
        let right : designated (full table want) ≡ defined.0 = ap (λ z. designated (view_of z)) defined.3 in
        let from_made = laws.target t found.0 found.1 found.2 mt is in
        let to_made = laws.target want defined.0 defined.1 defined.2 m defined.3 in
        let bases = one_base s objects subs made laws (designated (full table t)) (designated (full table want)) (subst made (sym left) from_made) (subst made (sym right) to_made) same in
        let one : base table found.0 ≡ base table defined.0 = ap (base table) (sym left) ∙ bases ∙ ap (base table) right in
        view_taken y laws.whole laws.listed e t want found.0 defined.0 found.1 found.2 defined.1 defined.2 is defined.3 (laws.same found.0 defined.0 from_made to_made one) bare has

    -- A name, or a call.
    name_taken : (p : Pos) (d : ℕ) (rest : Tree) (loose : Bool) → IsMeant s y (Named p d rest) → designates c want (own_of c.known (reading_of c d rest)) ≡ true
        → inside c loose want (Named p d rest) ≡ [] → Taken y want (typed_expression s want (Named p d rest))
    unfolding inside typed_expression IsMeant
    name_taken p d rest loose meant fit within = elim (no_own c want (own_of c.known (reading_of c d rest)) fit) [
      | inl off ↦ absurd (not_off c p d loose (given_names (call_arguments rest)) (reading_of c d rest) off
          (nil_left (reading_faults c p d loose (given_names (call_arguments rest)) (reading_of c d rest)) _ within))
      | inr of ↦ (
          let has = named_has s objects subs made laws p d of.0 rest (reading_of c d rest) (typed_actuals s (called_function (reading_of c d rest)) rest) (typed_imaged s rest) meant.0
          (fine_suffixes s objects subs made laws rest meant.1) refl of.1 (nil_right (reading_faults c p d loose (given_names (call_arguments rest)) (reading_of c d rest)) _ within) in
          fits_taken (typed_name s p d (reading_of c d rest) (typed_steps s (object_type (entry_of c.known d)) rest) (typed_actuals s (called_function (reading_of c d rest)) rest) (typed_imaged s rest))
          of.0 has.0 has.1 (subst (λ o. designates c want o ≡ true) of.1 fit))
    ]

    -- Anything else with a type of its own.
    own_taken : (e : Tree) → IsMeant s y e → designates c want (own_type c e) ≡ true → inside c false want e ≡ [] → Taken y want (typed_expression s want e)
    own_taken e meant fit within = elim (no_own c want (own_type c e) fit) [
      | inl off ↦ absurd ((fine s objects subs made laws e meant).by_known want off within)
      | inr of ↦ (
          let has = (fine s objects subs made laws e meant).by_own want of.0 of.1 within in
          fits_taken (typed_expression s want e) of.0 has.0 has.1 (subst (λ o. designates c want o ≡ true) of.1 fit))
    ]

    null_taken : Taken y want typed.Null
    unfolding Has
    null_taken = inl (defined.0, defined.1, defined.2, defined.3)

    -- ---- borrowers, observers and results

    -- A name that is no place and no call breaks a sentence.
    pub source_taken : (e : Tree) → IsMeant s y e → source_faults c want e ≡ [] → Taken y want (typed_expression s want e)
    unfolding inside
    source_taken (Named p d rest) meant none =
        name_taken p d rest true meant (by (reading_of c d rest) (nil_left (source_name c want p (reading_of c d rest)) _ none))
        (nil_right (source_name c want p (reading_of c d rest)) (inside c true integer (Named p d rest)) none)
      where
        by : (r : Reading) → source_name c want p r ≡ [] → designates c want (own_of c.known r) ≡ true
        by reading.Off h = refl
        by (reading.Place t) h = holds 1 p (designates c want (own_of c.known (reading.Place t))) (nil_left _ _ h)
        by (reading.Value t v) h = holds 1 p (designates c want (own_of c.known (reading.Value t v))) (nil_left _ _ h)
        by (reading.Call f) h = holds 1 p (designates c want (own_of c.known (reading.Call f))) (nil_left _ _ h)
        by (reading.Image t) h = holds 1 p (designates c want (own_of c.known (reading.Image t))) (nil_left _ _ h)
        by reading.EndOfFile h = holds 1 p (designates c want (own_of c.known reading.EndOfFile)) (nil_left _ _ h)
    source_taken e meant none = absurd (let f = nil_left (K6 (position e)) _ (nil_right (demand 1 (position e) (source_fits c want e)) _ none) in false≢true (ap is_free f))

    pub return_taken : (e : Tree) → IsMeant s y e → return_source c want e ≡ [] → Taken y want (typed_expression s want e)
    unfolding typed_expression
    return_taken (Null p) meant none = null_taken
    return_taken e meant none = source_taken e meant none

    -- ---- formals

    enclosed : (e : TypedTree) → Taken y want e → Taken y want (typed.Parens e)
    unfolding Has
    enclosed e (inl h) = inl (bare, h)
    enclosed e (inr h) = inr h

    fitting : (e : Tree) (loose : Bool) → IsMeant s y e → source_fits c want e ≡ true → inside c loose want e ≡ [] → Taken y want (typed_expression s want e)
    unfolding inside typed_expression own_type IsMeant
    fitting (Named p d rest) loose meant fit within = name_taken p d rest loose meant fit within
    fitting (Null p) loose meant fit within = null_taken
    fitting (New p k v) loose meant fit within = inl ((fine s objects subs made laws (New p k v) meant).by_place want m fit within (λ o. refl))
    fitting (Parens p e) loose meant fit within = enclosed (typed_expression s want e) (fitting e false meant fit (nil_right (around_parens c p want e) _ within))
    fitting (Number p n) loose meant fit within = own_taken (Number p n) meant fit within
    fitting (Text p v) loose meant fit within = absurd (false≢true fit)
    fitting (Unary p op e) loose meant fit within = own_taken (Unary p op e) meant fit within
    fitting (Binary p op e f) loose meant fit within = own_taken (Binary p op e f) meant fit within
    fitting (Aggregate p args) loose meant fit within = absurd (false≢true fit)
    fitting (Others p e) loose meant fit within = absurd (false≢true fit)
    fitting e loose meant fit within = absurd meant

    pub formal_taken : (e : Tree) → IsMeant s y e → formal_source c want e ≡ [] → Taken y want (typed_expression s want e)
    formal_taken e meant none =
        fitting e (is_name e) meant (holds 1 (position e) (source_fits c want e) (nil_left (demand 1 (position e) (source_fits c want e)) _ none))
        (nil_right (demand 1 (position e) (source_fits c want e)) _ none)
