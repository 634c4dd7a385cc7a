-- A value of the type of its place is lowered.
use Rattle.std.proofs.Common.{◌≡◌, refl, sym, ap, ◌∙◌, subst, inl, inr, ℕ, suc, ◌+◌, Bool, true, false, ◌&&◌, ◌||◌, ◌==◌, Option, Some, None, if◌then◌else◌}
use Rattle.std.specs.Prelude.{option_and_then, slice_get}
use Rattle.std.proofs.lemmas.Bool.{eq-eqb}
use Rattle.machine.specs.type_definitions.declared.table.Shape.{Shape}
use Rattle.machine.specs.type_definitions.declared.table.Shape.TheVariants as shape
use Rattle.machine.specs.type_definitions.Types.{Table, shape_of, is_owning}
use Rattle.machine.specs.type_definitions.Entries.{integer, boolean}
use Rattle.machine.specs.resolved_tree.declared.operator.Operator.{Operator}
use Rattle.machine.specs.resolved_tree.declared.operator.UnaryOperator.{UnaryOperator}
use Rattle.machine.specs.resolved_tree.declared.operator.UnaryOperator.TheVariants as unary
use Rattle.machine.specs.spark_base.declared.position.Pos.{Pos}
use Rattle.machine.specs.type_definitions.Expressions.{unary_type, is_arithmetic}
use Rattle.machine.specs.typed_tree.Trees.{TypedTree, Number, Literal, Text, Name, Component as IntoComponent, Designated, Element, Call, EndOfFile, Parens, Image, Unary, Binary, Short, IsNull, Aggregate, Alike, New, NoMore, More}
use Rattle.machine.specs.typed_tree.Trees as typed
use Rattle.machine.specs.flow_paths.Objects.{Typing, object_at, sub_at}
use Rattle.machine.specs.flow_paths.Names.{waiting}
use Rattle.machine.specs.flow_paths.Laid.{result_of}
use Rattle.machine.specs.Words.{element_of, element_type, element_count}
use Rattle.machine.specs.Evaluate.{Use, AsValue, AsView, part_type}
use Rattle.machine.specs.Typed.{Sort, Whole, Position, sorts, is_pointer, points_to, is_record, is_array, field_count, tree_count}
use Rattle.soundness.specs.TypedLaws.Fine.{Agree, counts, lists, Has, HasParts, HasFirst, Leads, operator_type}
use Rattle.soundness.proofs.TypedLaws.Agreeing.{Owns, agree_access}
use Rattle.soundness.specs.TypedLaws.TypedSteps.Steps.{Views, Taken}
use Rattle.run_codes.specs.Codes.{Fill}
use Rattle.run_codes.specs.Codes as codes
use Rattle.run_codes.specs.Lowered.{Site, Placed, Lowered, object_place, lowered, led, place, scalar, Scalar, scalar_of, same_scalar, one_type, is_access, is_composite, are_composite, is_taken, is_nth, place_value, waited_value, both, value, parts, first_value, option_map}
use Rattle.run_codes.specs.Programs.{taken_types}
use Rattle.sound_files.specs.TypedFiles.LoweredLaws.Lowers.{HasRoom}
use Rattle.sound_files.proofs.TypedFiles.LoweredLaws.Found.{Found, Any, then_found, map_found, if_found, some_found}
use Rattle.sound_files.proofs.TypedFiles.LoweredLaws.Shapes.{IsScalarOf, SortsLaw, counted_is, listed_is, agree_sym, agree_scalar, agree_composite, agree_sorts, pointer_is, target_is, view_sorts, scalar_plain, both_true}
use Rattle.sound_files.proofs.TypedFiles.LoweredLaws.Takes.{IsAt, at_first, at_next}
use Rattle.sound_files.proofs.TypedFiles.LoweredLaws.Fits.{Fits}
use Rattle.sound_files.proofs.TypedFiles.LoweredLaws.Words as lowering

-- ---- scalars

scalar_by : (z : Shape) (so : Sort) (l : Lowered) → IsScalarOf z so → l.sort ≡ so
    → Found Any (option_and_then (λ (s : Scalar). if same_scalar s.sort l.sort then Some (codes.Checked l.code s.low s.high) else None) (scalar_of z))
scalar_by (shape.Whole low high) so l is e = rw (e ∙ is) tt
scalar_by (shape.Listed k low high) so l is e = rw (e ∙ is) tt
scalar_by z so l is e = absurd is

both_found : (a b : Option Fill) → Found Any a → Found Any b → Found Any (both a b)
both_found (Some a) (Some b) h g = tt
both_found (Some a) None h g = absurd g
both_found None b h g = absurd h

module _ (c : Site) (owns : Owns c.typing.table) (whole : counts (shape_of c.typing.table integer) ≡ true) (listed : lists (shape_of c.typing.table boolean) ≡ true)
    (law : SortsLaw c.typing.table) where
  abbrev s : Typing
  s = c.typing

  abbrev table : Table
  table = c.typing.table

  scalar_found : (want : ℕ) (so : Sort) (l : Lowered) → IsScalarOf (shape_of table want) so → l.sort ≡ so → Found Any (scalar table want l)
  scalar_found want so l is e = scalar_by (shape_of table want) so l is e

  -- ---- names

  pub place_found : (k x t : ℕ) (p : Pos) (steps : TypedTree) → Leads s (object_at s x).of steps t → HasRoom c x → Fits c steps → IsAt c.takes k (taken_types s steps)
      → Found (λ (q : Placed). q.of ≡ t) (place c k (Name p x steps t))
  place_found k x t p steps leads room fits at =
      then_found (λ (q : Placed). q.of ≡ t) (λ (q : Placed). q.of ≡ t) (λ q. if q.of == t then Some q else None) (option_and_then (λ q. led c k q steps) (object_place c x))
      (then_found (λ (q : Placed). q.of ≡ (object_at s x).of) (λ (q : Placed). q.of ≡ t) (λ q. led c k q steps) (object_place c x) (lowering.room_found c owns whole listed x room)
      (λ q e. lowering.leads c owns whole listed steps k q (object_at s x).of t e leads fits at))
      (λ q e. if_found (λ (q : Placed). q.of ≡ t) (q.of == t) (Some q) (eq-eqb q.of t e) e)

  never_taken : (u : Use) (t : ℕ) → is_owning table t ≡ false → is_taken table u t ≡ true → ⊥
  never_taken AsView t e f = cc
  never_taken AsValue t e f = cc

  -- nothing scalar is taken away
  stays : (u : Use) (want : ℕ) (q : Placed) (so : Sort) (z : Shape) → shape_of table want ≡ z → IsScalarOf z so → Agree table q.of want → is_taken table u q.of ≡ true → ⊥
  stays u want q so z is scalar agree kept =
      never_taken u q.of (scalar_plain table q.of so owns (agree_scalar table q.of want so agree (subst (λ z. IsScalarOf z so) (sym is) scalar))) kept

  access_by : (u : Use) (want : ℕ) (q : Placed) (d : ℕ) (k n : Bool) → shape_of table want ≡ shape.Access d k n → one_type table q.of want ≡ true → is_access (shape_of table q.of) ≡ true
      → (b : Bool) → is_taken table u q.of ≡ b → Found Any (place_value table u want q)
  access_by u want q d k n is one access true kept = rw one (rw is (rw kept (rw access tt)))
  access_by u want q d k n is one access false kept = rw one (rw is (rw kept tt))

  -- of a type that agrees
  value_by : (u : Use) (want : ℕ) (q : Placed) (z : Shape) → shape_of table want ≡ z → Agree table q.of want → one_type table q.of want ≡ true → (b : Bool) → is_taken table u q.of ≡ b
      → Found Any (place_value table u want q)
  value_by u want q (shape.Whole low high) is agree one true kept = absurd (stays u want q Whole (shape.Whole low high) is refl agree kept)
  value_by u want q (shape.Whole low high) is agree one false kept = rw one (rw is (rw kept tt))
  value_by u want q (shape.Listed k low high) is agree one true kept = absurd (stays u want q Position (shape.Listed k low high) is refl agree kept)
  value_by u want q (shape.Listed k low high) is agree one false kept = rw one (rw is (rw kept tt))
  value_by u want q (shape.Access d k n) is agree one b kept = access_by u want q d k n is one (ap is_access (agree_access table want q.of d k n (agree_sym table q.of want agree) is)) b kept
  value_by u want q (shape.Fields cs) is agree one true kept = rw one (rw is (rw kept tt))
  value_by u want q (shape.Fields cs) is agree one false kept = rw one (rw is (rw kept tt))
  value_by u want q (shape.Elements low high e) is agree one true kept = rw one (rw is (rw kept tt))
  value_by u want q (shape.Elements low high e) is agree one false kept = rw one (rw is (rw kept tt))
  value_by u want q (shape.Same of) is agree one true kept = rw one (rw is (rw kept tt))
  value_by u want q (shape.Same of) is agree one false kept = rw one (rw is (rw kept tt))

  name_found : (u : Use) (want t : ℕ) (q : Placed) → Agree table t want → q.of ≡ t → Found Any (place_value table u want q)
  name_found u want t q agree e =
      let same = subst (λ t. Agree table t want) (sym e) agree in
      value_by u want q (shape_of table want) refl same (agree_sorts table law q.of want same) (is_taken table u q.of) refl

  -- what is looked at
  view_found : (u : Use) (want t : ℕ) (q : Placed) → Views s want t → q.of ≡ t → Found Any (place_value table u want q)
  view_found u want t q (d, k, m, n, l, o, from, to, agree) e =
      let own : shape_of table q.of ≡ shape.Access d m n = ap (shape_of table) e ∙ from in
      access_by u want q k l o to (view_sorts table law q.of want d k m n l o own to agree) (ap is_access own) (is_taken table u q.of) refl

  -- ---- values that wait

  waited_found : (k t want : ℕ) → is_nth c k t && one_type table t want ≡ true → Found Any (waited_value c k want t)
  waited_found k t want e = rw e tt

  called_found : (k t want : ℕ) (o : Option ℕ) → o ≡ Some t → slice_get c.takes k ≡ Some (result_of o) → one_type table t want ≡ true
      → Found Any (option_and_then (waited_value c k want) o)
  called_found k t want o e at one =
      then_found (λ u. u ≡ t) Any (waited_value c k want) o (some_found (λ u. u ≡ t) o t e refl)
      (λ u same. subst (λ u. Found Any (waited_value c k want u)) (sym same)
      (waited_found k t want (both_true (is_nth c k t) (one_type table t want) (lowering.nth c owns whole listed k t (at ∙ ap (λ o. Some (result_of o)) e)) one)))

  -- ---- all values

  -- an expression of a scalar type
  word_found : (e : TypedTree) (k : ℕ) (u : Use) (want : ℕ) (so : Sort) → IsScalarOf (shape_of table want) so → Has s want e → Fits c e → IsAt c.takes k (taken_types s e)
      → Found Any (option_and_then (scalar table want) (lowered c k u e))
  word_found e k u want so is has fits at =
      then_found (λ (l : Lowered). l.sort ≡ so) Any (scalar table want) (lowered c k u e) (lowering.words c owns whole listed e k u want so has is fits at)
      (λ l same. scalar_found want so l is same)

  truth : (want : ℕ) → Agree table boolean want → IsScalarOf (shape_of table want) Position
  truth want agree = agree_scalar table want boolean Position (agree_sym table boolean want agree) (listed_is (shape_of table boolean) listed)

  number : (want : ℕ) → Agree table integer want → IsScalarOf (shape_of table want) Whole
  number want agree = agree_scalar table want integer Whole (agree_sym table integer want agree) (counted_is (shape_of table integer) whole)

  unary_scalar : (op : UnaryOperator) (want : ℕ) → Agree table (unary_type op) want → (so : Sort) × IsScalarOf (shape_of table want) so
  unary_scalar unary.Not want agree = (Position, truth want agree)
  unary_scalar op want agree = (Whole, number want agree)

  binary_scalar : (op : Operator) (want : ℕ) → Agree table (operator_type op) want → (so : Sort) × IsScalarOf (shape_of table want) so
  binary_scalar op want agree = by (is_arithmetic op) agree
    where
      by : (b : Bool) → Agree table (if b then integer else boolean) want → (so : Sort) × IsScalarOf (shape_of table want) so
      by true agree = (Whole, number want agree)
      by false agree = (Position, truth want agree)

  repeated_found : (e : TypedTree) (k want t : ℕ) → are_composite table want t && (one_type table t want && is_array (shape_of table t)) ≡ true
      → Found Any (value c k AsValue (element_type table t) e)
      → Found Any (if are_composite table want t && (one_type table t want && is_array (shape_of table t))
      then option_map (λ v. codes.Repeated v (element_count table t)) (value c k AsValue (element_type table t) e) else None)
  repeated_found e k want t is found =
      if_found Any (are_composite table want t && (one_type table t want && is_array (shape_of table t))) _ is
      (map_found Any Any (λ v. codes.Repeated v (element_count table t)) (value c k AsValue (element_type table t) e) found (λ v h. tt))

  composites : (t want : ℕ) → Agree table t want → is_record (shape_of table t) || is_array (shape_of table t) ≡ true → are_composite table want t ≡ true
  composites t want agree is = both_true (is_composite (shape_of table want)) (is_composite (shape_of table t)) (agree_composite table t want agree is) is

  array_is : (z : Shape) → is_array z ≡ true → is_record z || is_array z ≡ true
  array_is (shape.Elements low high of) e = refl
  array_is (shape.Fields cs) e = refl
  array_is z e = e

  mutual
    unfolding value parts first_value Has HasParts HasFirst Fits taken_types waiting

    pub values : (e : TypedTree) (k : ℕ) (u : Use) (want : ℕ) → Has s want e → Fits c e → IsAt c.takes k (taken_types s e) → Found Any (value c k u want e)
    values (Number v) k u want has fits at = word_found (Number v) k u want Whole (counted_is (shape_of table want) has.0) has fits at
    values (Literal n) k u want has fits at = word_found (Literal n) k u want Position (listed_is (shape_of table want) has) has fits at
    values EndOfFile k u want has fits at = word_found EndOfFile k u want Position (listed_is (shape_of table want) has) has fits at
    values typed.Null k u want has fits at = if_found Any (is_pointer (sorts table want)) _ (pointer_is table law want has.0 has.1 has.2 has.3) tt
    values (Name p x steps t) k u want has fits at =
        then_found (λ (q : Placed). q.of ≡ t) Any (place_value table u want) (place c k (Name p x steps t)) (place_found k x t p steps has.0 fits.0 fits.1 at)
        (λ q e. name_found u want t q has.1 e)
    values (Call p sub actuals) k u want has fits at = called_found k has.0 want (sub_at s sub).result has.1 at.0 (agree_sorts table law has.0 want has.2)
    values (Parens e) k u want has fits at = values e k AsValue want has.1 fits at
    values (Unary op e) k u want has fits at =
        let scalar = unary_scalar op want has.0 in
        word_found (Unary op e) k u want scalar.0 scalar.1 has fits at
    values (Binary op a b) k u want has fits at =
        let scalar = binary_scalar op want has.1 in
        word_found (Binary op a b) k u want scalar.0 scalar.1 has fits at
    values (Short op p a q b) k u want has fits at = word_found (Short op p a q b) k u want Position (truth want has.0) has fits at
    values (IsNull equal e) k u want has fits at = word_found (IsNull equal e) k u want Position (truth want has.0) has fits at
    values (Aggregate t es) k u want has fits at =
        if_found Any (are_composite table want t && (one_type table t want && (tree_count es == field_count (shape_of table t)))) (parts c k t 0 es)
        (both_true (are_composite table want t) _ (composites t want has.0 has.3)
        (both_true (one_type table t want) _ (agree_sorts table law t want has.0) (eq-eqb (tree_count es) (field_count (shape_of table t)) has.1)))
        (all_parts es k t 0 has.2 fits at)
    values (Alike t e) k u want has fits at =
        let array : is_array (shape_of table t) ≡ true = ap is_array has.4 in
        repeated_found e k want t
        (both_true (are_composite table want t) _ (composites t want has.0 (array_is (shape_of table t) array)) (both_true (one_type table t want) _ (agree_sorts table law t want has.0) array))
        (values e k AsValue (element_type table t) (subst (λ of. Has s of e) (sym (ap element_of has.4)) has.6) fits at)
    values (New t v) k u want has fits at =
        if_found Any (points_to table t (sorts table want)) _ (target_is table law want t has.0 has.1 has.2 has.3 has.4)
        (map_found Any Any (λ a. codes.New a t) (first_value c k t v) (firsts v k t has.5 fits at) (λ a h. tt))
    values (Text b) k u want has fits at = absurd has
    values (Image t e) k u want has fits at = absurd has
    values (IntoComponent i rest) k u want has fits at = absurd has
    values (Designated rest) k u want has fits at = absurd has
    values (Element i low high rest) k u want has fits at = absurd has
    values NoMore k u want has fits at = absurd has
    values (More e rest) k u want has fits at = absurd has

    all_parts : (es : TypedTree) (k t i : ℕ) → HasParts s t i es → Fits c es → IsAt c.takes k (taken_types s es) → Found Any (parts c k t i es)
    all_parts (More e rest) k t i has fits at =
        both_found (value c k AsValue (part_type (shape_of table t) i) e) (parts c (k + waiting e) t (suc i) rest)
        (values e k AsValue (part_type (shape_of table t) i) has.0 fits.0 (at_first c.takes k (taken_types s e) (taken_types s rest) at))
        (all_parts rest (k + waiting e) t (suc i) has.1 fits.1 (at_next s c.takes k e (taken_types s rest) at))
    all_parts NoMore k t i has fits at = tt
    all_parts es k t i has fits at = absurd has

    firsts : (v : TypedTree) (k t : ℕ) → HasFirst s t v → Fits c v → IsAt c.takes k (taken_types s v) → Found Any (first_value c k t v)
    firsts (More e rest) k t has fits at =
        subst (λ r. Found Any (first_value c k t (More e r))) (sym has.0) (values e k AsValue t has.1 fits.0 (at_first c.takes k (taken_types s e) (taken_types s rest) at))
    firsts NoMore k t has fits at = tt
    firsts v k t has fits at = absurd has

  viewed_sorts : (t want : ℕ) → Views s want t → one_type table t want ≡ true
  viewed_sorts t want (d, k, m, n, l, o, from, to, agree) = view_sorts table law t want d k m n l o from to agree

  -- What a place takes: a value, or what is looked at.
  pub takens : (e : TypedTree) (k : ℕ) (u : Use) (want : ℕ) → Taken s want e → Fits c e → IsAt c.takes k (taken_types s e) → Found Any (value c k u want e)
  unfolding value Fits taken_types
  takens e k u want (inl has) fits at = values e k u want has fits at
  takens (Name p x steps t) k u want (inr view) fits at =
      then_found (λ (q : Placed). q.of ≡ t) Any (place_value table u want) (place c k (Name p x steps t)) (place_found k x t p steps view.0 fits.0 fits.1 at)
      (λ q e. view_found u want t q view.1 e)
  takens (Call p sub actuals) k u want (inr view) fits at =
      called_found k view.0 want (sub_at s sub).result view.1 at.0 (viewed_sorts view.0 want view.2)
  takens (Parens e) k u want (inr view) fits at = takens e k AsValue want (inr view) fits at
  takens e k u want (inr view) fits at = absurd view
