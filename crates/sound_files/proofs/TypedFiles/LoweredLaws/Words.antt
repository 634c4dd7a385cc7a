-- An expression of a scalar type is lowered to a code whose word is of the sort of the type, and a
-- name leads to a place of its type.
use Rattle.std.proofs.Common.{◌≡◌, refl, sym, ap, ◌∙◌, subst, ℕ, ◌+◌, ◌<◌, ◌≤◌, Bool, true, false, ◌&&◌, ◌||◌, ◌==◌, List, [], ◌∷◌, ◌++◌, length, Option, Some, None, ℤ, if◌then◌else◌, arith}
use Rattle.std.specs.Prelude.{option_and_then, slice_get, nat_le, nat_lt}
use Rattle.std.specs.Ordering.{int_eq}
use Rattle.std.proofs.lemmas.Cmp.{int_eq_equiv}
use Rattle.std.proofs.lemmas.Bool.{eq-eqb, false≢true}
use Rattle.machine.specs.resolved_tree.declared.operator.Operator.{Operator}
use Rattle.machine.specs.resolved_tree.declared.operator.Operator.TheVariants as operator
use Rattle.machine.specs.resolved_tree.declared.operator.UnaryOperator.{UnaryOperator}
use Rattle.machine.specs.resolved_tree.declared.operator.UnaryOperator.TheVariants as unary
use Rattle.machine.specs.type_definitions.declared.table.Shape.{Shape}
use Rattle.machine.specs.type_definitions.declared.table.Shape.TheVariants as shape
use Rattle.machine.specs.type_definitions.Types.{Table, shape_of, fields, is_owning}
use Rattle.machine.specs.type_definitions.Entries.{integer, boolean}
use Rattle.machine.specs.type_definitions.Expressions.{unary_type, operand_type, is_arithmetic, is_logical}
use Rattle.machine.specs.typed_tree.declared.node.ShortCircuit.{ShortCircuit}
use Rattle.machine.specs.typed_tree.Trees.{TypedTree, Number, Literal, Text, Name, Component as IntoComponent, Designated, Element, Call, EndOfFile, Parens, Image, Unary, Binary, Short, IsNull, Aggregate, Alike, New, NoMore, More}
use Rattle.machine.specs.typed_tree.Trees as typed
use Rattle.machine.specs.flow_paths.Objects.{Typing, object_at, sub_at, is_package_object}
use Rattle.machine.specs.flow_paths.Names.{has_call, waiting}
use Rattle.machine.specs.flow_paths.Laid.{result_of}
use Rattle.machine.specs.Words.{component_type, element_of as type_of_element, element_type}
use Rattle.machine.specs.Evaluate.{Use, AsValue, AsView}
use Rattle.machine.specs.Typed.{Sort, Whole, Position, Pointer, is_not, takes_whole, takes_truth, compares_words, designates, has_bounds, is_record, is_array, field_count}
use Rattle.soundness.specs.TypedLaws.Fine.{Agree, counts, lists, Has, Pointed, Leads, Takes, is_plain, operator_type}
use Rattle.soundness.proofs.TypedLaws.Agreeing.{Owns}
use Rattle.run_codes.specs.Codes.{Place}
use Rattle.run_codes.specs.Lowered.{Kept, Site, Placed, Lowered, kept_words, offset_from, offset_of, package_offset, in_frame, in_packages, object_place, component_of, element_of, designated_of, sort_of, whole_code, is_taken, loaded, named, is_nth, waited, unary as lowered_unary, binary, short_circuit, null_test, max_position, lowered, led, option_map}
use Rattle.run_codes.specs.Codes as codes
use Rattle.run_codes.specs.Programs.{has_room, taken_types}
use Rattle.sound_files.specs.TypedFiles.LoweredLaws.Lowers.{HasRoom}
use Rattle.sound_files.proofs.TypedFiles.LoweredLaws.Fits.{Fits}
use Rattle.sound_files.proofs.TypedFiles.LoweredLaws.Found.{Found, Any, then_found, map_found, if_found, unless_found, some_found}
use Rattle.sound_files.proofs.TypedFiles.LoweredLaws.Shapes.{IsScalarOf, counted_is, listed_is, counted_of, listed_of, scalar_is, scalar_sort, no_pointer, no_composite, no_elements, agree_scalar, scalar_plain, nat_same, record_fields}
use Rattle.sound_files.proofs.TypedFiles.LoweredLaws.Takes.{IsAt, at_first, at_next}

-- ---- rooms

pub room_offset : (s : Typing) (at : ℕ) (all : List Kept) (x : ℕ) → has_room x all ≡ true → Found Any (offset_from s at all x)
room_offset s at [] x has = absurd (false≢true has)
room_offset s at (k ∷ all) x has = by (k.object == x) has (λ more. room_offset s (at + kept_words s k) all x more)
  where
    by : (b : Bool) → b || has_room x all ≡ true → (has_room x all ≡ true → Found Any (offset_from s (at + kept_words s k) all x))
        → Found Any (if b then Some at else offset_from s (at + kept_words s k) all x)
    by true has more = tt
    by false has more = more has

at_most : (a b : ℕ) → a ≤ b → nat_le a b ≡ true
at_most a b le = grind (arith, le)

-- ---- operators

unary_found : (op : UnaryOperator) (so : Sort) (l : Lowered) → so ≡ (if is_not op then Position else Whole) → l.sort ≡ so → Found (λ (r : Lowered). r.sort ≡ so) (lowered_unary op l)
unary_found unary.Not so l is e = rw (e ∙ is) (sym is)
unary_found op so l is e = rw (e ∙ is) (sym is)

arithmetic_found : (op : Operator) (a b : Lowered) → takes_whole op ≡ true → a.sort ≡ Whole → b.sort ≡ Whole → Found (λ (r : Lowered). r.sort ≡ Whole) (binary op a b)
arithmetic_found op a b is e f = rw e (rw f (rw is refl))

logical_found : (op : Operator) (a b : Lowered) → takes_truth op ≡ true → a.sort ≡ Position → b.sort ≡ Position → Found (λ (r : Lowered). r.sort ≡ Position) (binary op a b)
logical_found op a b is e f = rw e (rw f (rw is refl))

compared_found : (op : Operator) (z : Shape) (so : Sort) (a b : Lowered) → takes_whole op ≡ false → takes_truth op ≡ false → compares_words op ≡ true → IsScalarOf z so
    → a.sort ≡ so → b.sort ≡ so → Found (λ (r : Lowered). r.sort ≡ Position) (binary op a b)
compared_found op (shape.Whole low high) so a b never none is scalar e f = rw (e ∙ scalar) (rw (f ∙ scalar) (rw never (rw is refl)))
compared_found op (shape.Listed k low high) so a b never none is scalar e f = rw (e ∙ scalar) (rw (f ∙ scalar) (rw none (rw is refl)))
compared_found op z so a b never none is scalar e f = absurd scalar

short_found : (op : ShortCircuit) (a b : Lowered) → a.sort ≡ Position → b.sort ≡ Position → Found (λ (r : Lowered). r.sort ≡ Position) (short_circuit op a b)
short_found op a b e f = rw e (rw f refl)

null_found : (equal : Bool) (d : ℕ) (l : Lowered) → l.sort ≡ Pointer d → Found (λ (r : Lowered). r.sort ≡ Position) (null_test equal l)
null_found equal d l e = rw e refl

pub whole_found : (l : Lowered) → l.sort ≡ Whole → Found Any (whole_code l)
whole_found l e = rw e tt

-- ---- in a subprogram

module _ (c : Site) (owns : Owns c.typing.table) (whole : counts (shape_of c.typing.table integer) ≡ true) (listed : lists (shape_of c.typing.table boolean) ≡ true) where
  abbrev s : Typing
  s = c.typing

  abbrev table : Table
  table = c.typing.table

  abbrev Sorted : Sort → Option Lowered → Type 0
  Sorted so o = Found (λ (l : Lowered). l.sort ≡ so) o

  abbrev Of : ℕ → Option Placed → Type 0
  Of t o = Found (λ (q : Placed). q.of ≡ t) o

  -- ---- sorts

  truth_sort : (want : ℕ) (so : Sort) → Agree table boolean want → IsScalarOf (shape_of table want) so → so ≡ Position
  truth_sort want so agree is = listed_of (shape_of table boolean) so listed (agree_scalar table boolean want so agree is)

  number_sort : (want : ℕ) (so : Sort) → Agree table integer want → IsScalarOf (shape_of table want) so → so ≡ Whole
  number_sort want so agree is = counted_of (shape_of table integer) so whole (agree_scalar table integer want so agree is)

  unary_is : (op : UnaryOperator) (want : ℕ) (so : Sort) → Agree table (unary_type op) want → IsScalarOf (shape_of table want) so → so ≡ (if is_not op then Position else Whole)
  unary_is unary.Not want so agree is = truth_sort want so agree is
  unary_is op want so agree is = number_sort want so agree is

  -- ---- operands of two

  add_found : (op : Operator) (t want : ℕ) (so to : Sort) (a b : Lowered) → takes_whole op ≡ true → Agree table integer want → t ≡ integer → IsScalarOf (shape_of table want) so
      → IsScalarOf (shape_of table t) to → a.sort ≡ to → b.sort ≡ to → Found (λ (r : Lowered). r.sort ≡ so) (binary op a b)
  add_found op t want so to a b is agree same scalar operand e f =
      let number : to ≡ Whole = counted_of (shape_of table integer) to whole (subst (λ t. IsScalarOf (shape_of table t) to) same operand) in
      subst (λ so. Found (λ (r : Lowered). r.sort ≡ so) (binary op a b)) (sym (number_sort want so agree scalar))
      (arithmetic_found op a b is (e ∙ number) (f ∙ number))

  both_found : (op : Operator) (t want : ℕ) (so to : Sort) (a b : Lowered) → takes_truth op ≡ true → Agree table boolean want → t ≡ boolean → IsScalarOf (shape_of table want) so
      → IsScalarOf (shape_of table t) to → a.sort ≡ to → b.sort ≡ to → Found (λ (r : Lowered). r.sort ≡ so) (binary op a b)
  both_found op t want so to a b is agree same scalar operand e f =
      let truth : to ≡ Position = listed_of (shape_of table boolean) to listed (subst (λ t. IsScalarOf (shape_of table t) to) same operand) in
      subst (λ so. Found (λ (r : Lowered). r.sort ≡ so) (binary op a b)) (sym (truth_sort want so agree scalar))
      (logical_found op a b is (e ∙ truth) (f ∙ truth))

  less_found : (op : Operator) (t want : ℕ) (so to : Sort) (a b : Lowered) → takes_whole op ≡ false → takes_truth op ≡ false → compares_words op ≡ true → Agree table boolean want
      → IsScalarOf (shape_of table want) so → IsScalarOf (shape_of table t) to → a.sort ≡ to → b.sort ≡ to → Found (λ (r : Lowered). r.sort ≡ so) (binary op a b)
  less_found op t want so to a b never none is agree scalar operand e f =
      subst (λ so. Found (λ (r : Lowered). r.sort ≡ so) (binary op a b)) (sym (truth_sort want so agree scalar))
      (compared_found op (shape_of table t) to a b never none is operand e f)

  binary_found : (op : Operator) (t want : ℕ) (so to : Sort) (a b : Lowered) → is_plain op ≡ true → Agree table (operator_type op) want
      → Takes (is_arithmetic op || is_logical op) (operand_type op) t → IsScalarOf (shape_of table want) so → IsScalarOf (shape_of table t) to
      → a.sort ≡ to → b.sort ≡ to → Found (λ (r : Lowered). r.sort ≡ so) (binary op a b)
  binary_found operator.Add t want so to a b plain agree takes scalar operand e f = add_found operator.Add t want so to a b refl agree takes scalar operand e f
  binary_found operator.Subtract t want so to a b plain agree takes scalar operand e f = add_found operator.Subtract t want so to a b refl agree takes scalar operand e f
  binary_found operator.Multiply t want so to a b plain agree takes scalar operand e f = add_found operator.Multiply t want so to a b refl agree takes scalar operand e f
  binary_found operator.Divide t want so to a b plain agree takes scalar operand e f = add_found operator.Divide t want so to a b refl agree takes scalar operand e f
  binary_found operator.Modulo t want so to a b plain agree takes scalar operand e f = add_found operator.Modulo t want so to a b refl agree takes scalar operand e f
  binary_found operator.Remainder t want so to a b plain agree takes scalar operand e f = add_found operator.Remainder t want so to a b refl agree takes scalar operand e f
  binary_found operator.And t want so to a b plain agree takes scalar operand e f = both_found operator.And t want so to a b refl agree takes scalar operand e f
  binary_found operator.Or t want so to a b plain agree takes scalar operand e f = both_found operator.Or t want so to a b refl agree takes scalar operand e f
  binary_found operator.Xor t want so to a b plain agree takes scalar operand e f = both_found operator.Xor t want so to a b refl agree takes scalar operand e f
  binary_found operator.Equal t want so to a b plain agree takes scalar operand e f = less_found operator.Equal t want so to a b refl refl refl agree scalar operand e f
  binary_found operator.NotEqual t want so to a b plain agree takes scalar operand e f = less_found operator.NotEqual t want so to a b refl refl refl agree scalar operand e f
  binary_found operator.Less t want so to a b plain agree takes scalar operand e f = less_found operator.Less t want so to a b refl refl refl agree scalar operand e f
  binary_found operator.LessEqual t want so to a b plain agree takes scalar operand e f = less_found operator.LessEqual t want so to a b refl refl refl agree scalar operand e f
  binary_found operator.Greater t want so to a b plain agree takes scalar operand e f = less_found operator.Greater t want so to a b refl refl refl agree scalar operand e f
  binary_found operator.GreaterEqual t want so to a b plain agree takes scalar operand e f = less_found operator.GreaterEqual t want so to a b refl refl refl agree scalar operand e f
  binary_found operator.AndThen t want so to a b plain agree takes scalar operand e f = absurd (false≢true plain)
  binary_found operator.OrElse t want so to a b plain agree takes scalar operand e f = absurd (false≢true plain)
  binary_found operator.Concatenate t want so to a b plain agree takes scalar operand e f = absurd (false≢true plain)

  -- ---- names

  pub room_found : (x : ℕ) → HasRoom c x → Of (object_at s x).of (object_place c x)
  room_found x has = by (is_package_object s x) has
    where
      by : (b : Bool) → (if b then has_room x c.package_objects else has_room x c.own) ≡ true
          → Of (object_at s x).of (if b then option_map (in_packages (object_at s x).of) (package_offset c x) else option_map (in_frame (object_at s x).of) (offset_of c x))
      by true has =
          map_found Any (λ (q : Placed). q.of ≡ (object_at s x).of) (in_packages (object_at s x).of) (package_offset c x) (room_offset s 0 c.package_objects x has) (λ at is. refl)
      by false has = map_found Any (λ (q : Placed). q.of ≡ (object_at s x).of) (in_frame (object_at s x).of) (offset_of c x) (room_offset s 0 c.own x has) (λ at is. refl)

  component_found : (i t : ℕ) (p : Placed) → p.of ≡ t → i < length (fields table t) → Of (component_type table t i) (component_of table i p)
  component_found i t p e lt =
      if_found (λ (q : Placed). q.of ≡ component_type table t i) (is_record (shape_of table p.of) && nat_lt i (field_count (shape_of table p.of))) _
      (subst (λ t. is_record (shape_of table t) && nat_lt i (field_count (shape_of table t)) ≡ true) (sym e) (record_fields (shape_of table t) i lt))
      (ap (λ t. component_type table t i) e)

  element_found : (i : codes.Code) (low high : ℤ) (t of : ℕ) (p : Placed) → p.of ≡ t → shape_of table t ≡ shape.Elements low high of → Of of (element_of table i low high p)
  element_found i low high t of p e is =
      if_found (λ (q : Placed). q.of ≡ of) (has_bounds low high (shape_of table p.of)) _
      (ap (λ t. has_bounds low high (shape_of table t)) e ∙ ap (has_bounds low high) is ∙ ap (λ b. b && int_eq high high) (int_eq_equiv.refl low) ∙ int_eq_equiv.refl high)
      (ap (element_type table) e ∙ ap type_of_element is)

  designated_found : (t d : ℕ) (k n : Bool) (p : Placed) → p.of ≡ t → shape_of table t ≡ shape.Access d k n → Of d (designated_of table p)
  designated_found t d k n p e is =
      map_found (λ u. u ≡ d) (λ (q : Placed). q.of ≡ d) _ (designates (shape_of table p.of))
      (subst (λ z. Found (λ u. u ≡ d) (designates z)) (sym (ap (shape_of table) e ∙ is)) refl) (λ u same. same)

  untaken : (u : Use) (t : ℕ) → is_owning table t ≡ false → is_taken table u t ≡ false
  untaken AsView t e = refl
  untaken AsValue t e = e

  loaded_found : (p : Place) (o : Option Sort) (so : Sort) → o ≡ Some so → Sorted so (loaded p o)
  loaded_found p o so e = subst (λ o. Sorted so (loaded p o)) (sym e) refl

  named_found : (u : Use) (t : ℕ) (so : Sort) (q : Placed) → q.of ≡ t → is_taken table u t ≡ false → sort_of (shape_of table t) ≡ Some so → Sorted so (if q.of == t then named table u q else None)
  named_found u t so q e kept is =
      if_found (λ (l : Lowered). l.sort ≡ so) (q.of == t) (named table u q) (eq-eqb q.of t e)
      (unless_found (λ (l : Lowered). l.sort ≡ so) (is_taken table u q.of) (loaded q.place (sort_of (shape_of table q.of))) (ap (is_taken table u) e ∙ kept)
      (loaded_found q.place (sort_of (shape_of table q.of)) so (ap (λ t. sort_of (shape_of table t)) e ∙ is)))

  pub nth : (k t : ℕ) → slice_get c.takes k ≡ Some t → is_nth c k t ≡ true
  nth k t e = rw e (nat_same t)

  waited_found : (k t : ℕ) (so : Sort) → slice_get c.takes k ≡ Some t → sort_of (shape_of table t) ≡ Some so → Sorted so (waited c k t)
  waited_found k t so e is =
      if_found (λ (l : Lowered). l.sort ≡ so) (is_nth c k t) _ (nth k t e)
      (map_found (λ x. x ≡ so) (λ (l : Lowered). l.sort ≡ so) _ (sort_of (shape_of table t)) (some_found (λ x. x ≡ so) (sort_of (shape_of table t)) so is refl) (λ x same. same))

  -- ---- expressions

  abbrev Lowers : TypedTree → Type 0
  Lowers e =
      (k : ℕ) (u : Use) (want : ℕ) (so : Sort) → Has s want e → IsScalarOf (shape_of table want) so → Fits c e → IsAt c.takes k (taken_types s e) → Sorted so (lowered c k u e)

  -- a name, from where its steps lead
  led_from : (k x t : ℕ) (steps : TypedTree) → HasRoom c x → ((q : Placed) → q.of ≡ (object_at s x).of → Of t (led c k q steps))
      → Of t (option_and_then (λ q. led c k q steps) (object_place c x))
  led_from k x t steps room next = then_found (λ (q : Placed). q.of ≡ (object_at s x).of) (λ (q : Placed). q.of ≡ t) (λ q. led c k q steps) (object_place c x) (room_found x room) next

  short_lowered : (k : ℕ) (op : ShortCircuit) (a b : TypedTree) → (called : Bool) → IsAt c.takes k (if called then boolean ∷ [] else taken_types s a ++ taken_types s b)
      → (IsAt c.takes k (taken_types s a) → Sorted Position (lowered c k AsValue a))
      → (IsAt c.takes (k + waiting a) (taken_types s b) → Sorted Position (lowered c (k + waiting a) AsValue b))
      → Sorted Position (if called then waited c k boolean
      else option_and_then (λ l. option_and_then (short_circuit op l) (lowered c (k + waiting a) AsValue b)) (lowered c k AsValue a))
  short_lowered k op a b true at left right = waited_found k boolean Position at.0 (scalar_sort (shape_of table boolean) Position (listed_is (shape_of table boolean) listed))
  short_lowered k op a b false at left right =
      then_found (λ (l : Lowered). l.sort ≡ Position) (λ (l : Lowered). l.sort ≡ Position) (λ l. option_and_then (short_circuit op l) (lowered c (k + waiting a) AsValue b)) (lowered c k AsValue a)
      (left (at_first c.takes k (taken_types s a) (taken_types s b) at))
      (λ l is. then_found (λ (r : Lowered). r.sort ≡ Position) (λ (r : Lowered). r.sort ≡ Position) (short_circuit op l) (lowered c (k + waiting a) AsValue b)
      (right (at_next s c.takes k a (taken_types s b) at)) (λ r same. short_found op l r is same))

  called_found : (k t : ℕ) (o : Option ℕ) (so : Sort) → o ≡ Some t → slice_get c.takes k ≡ Some (result_of o) → sort_of (shape_of table t) ≡ Some so
      → Sorted so (option_and_then (waited c k) o)
  called_found k t o so e at is =
      then_found (λ u. u ≡ t) (λ (l : Lowered). l.sort ≡ so) (waited c k) o (some_found (λ u. u ≡ t) o t e refl)
      (λ u same. subst (λ u. Sorted so (waited c k u)) (sym same) (waited_found k t so (at ∙ ap (λ o. Some (result_of o)) e) is))

  two_lowered : (k : ℕ) (op : Operator) (a b : TypedTree) (t want : ℕ) (so to : Sort) → is_plain op ≡ true → Agree table (operator_type op) want
      → Takes (is_arithmetic op || is_logical op) (operand_type op) t → IsScalarOf (shape_of table want) so → IsScalarOf (shape_of table t) to
      → Sorted to (lowered c k AsValue a) → Sorted to (lowered c (k + waiting a) AsValue b)
      → Sorted so (option_and_then (λ l. option_and_then (binary op l) (lowered c (k + waiting a) AsValue b)) (lowered c k AsValue a))
  two_lowered k op a b t want so to plain agree takes scalar operand left right =
      then_found (λ (l : Lowered). l.sort ≡ to) (λ (l : Lowered). l.sort ≡ so) (λ l. option_and_then (binary op l) (lowered c (k + waiting a) AsValue b)) (lowered c k AsValue a) left
      (λ l is. then_found (λ (r : Lowered). r.sort ≡ to) (λ (r : Lowered). r.sort ≡ so) (binary op l) (lowered c (k + waiting a) AsValue b) right
      (λ r same. binary_found op t want so to l r plain agree takes scalar operand is same))

  mutual
    unfolding lowered led Has Leads Pointed Fits taken_types waiting

    pub words : (e : TypedTree) (k : ℕ) (u : Use) (want : ℕ) (so : Sort) → Has s want e → IsScalarOf (shape_of table want) so → Fits c e → IsAt c.takes k (taken_types s e)
        → Found (λ (l : Lowered). l.sort ≡ so) (lowered c k u e)
    words (Number v) k u want so has is fits at =
        if_found (λ (l : Lowered). l.sort ≡ so) _ _ has.1 (sym (counted_of (shape_of table want) so has.0 is))
    words (Literal n) k u want so has is fits at =
        if_found (λ (l : Lowered). l.sort ≡ so) (nat_le n max_position) _ (at_most n max_position fits) (sym (listed_of (shape_of table want) so has is))
    words EndOfFile k u want so has is fits at = sym (listed_of (shape_of table want) so has is)
    words typed.Null k u want so has is fits at = absurd (no_pointer (shape_of table want) so has.0 has.1 has.2 is has.3)
    words (Name p x steps t) k u want so has is fits at =
        let scalar = agree_scalar table t want so has.1 is in
        then_found (λ (q : Placed). q.of ≡ t) (λ (l : Lowered). l.sort ≡ so) (λ q. if q.of == t then named table u q else None) (option_and_then (λ q. led c k q steps) (object_place c x))
        (led_from k x t steps fits.0 (λ q e. leads steps k q (object_at s x).of t e has.0 fits.1 at))
        (λ q e. named_found u t so q e (untaken u t (scalar_plain table t so owns scalar)) (scalar_sort (shape_of table t) so scalar))
    words (Call p sub actuals) k u want so has is fits at =
        called_found k has.0 (sub_at s sub).result so has.1 at.0 (scalar_sort (shape_of table has.0) so (agree_scalar table has.0 want so has.2 is))
    words (Parens e) k u want so has is fits at = words e k AsValue want so has.1 is fits at
    words (Unary op e) k u want so has is fits at =
        then_found (λ (l : Lowered). l.sort ≡ so) (λ (l : Lowered). l.sort ≡ so) (lowered_unary op) (lowered c k AsValue e)
        (words e k AsValue (unary_type op) so has.1 (agree_scalar table (unary_type op) want so has.0 is) fits at)
        (λ l same. unary_found op so l (unary_is op want so has.0 is) same)
    words (Binary op a b) k u want so has is fits at =
        let operand = scalar_is (shape_of table has.2) has.4 in
        two_lowered k op a b has.2 want so operand.0 has.0 has.1 has.3 is operand.1
        (words a k AsValue has.2 operand.0 has.5 operand.1 fits.0 (at_first c.takes k (taken_types s a) (taken_types s b) at))
        (words b (k + waiting a) AsValue has.2 operand.0 has.6 operand.1 fits.1 (at_next s c.takes k a (taken_types s b) at))
    words (Short op p a q b) k u want so has is fits at =
        subst (λ so. Sorted so (lowered c k u (Short op p a q b))) (sym (truth_sort want so has.0 is))
        (short_lowered k op a b (has_call b) at
        (λ left. words a k AsValue boolean Position has.1 (listed_is (shape_of table boolean) listed) fits.0 left)
        (λ right. words b (k + waiting a) AsValue boolean Position has.2 (listed_is (shape_of table boolean) listed) fits.1 right))
    words (IsNull equal e) k u want so has is fits at =
        let one = pointers e k has.1 fits at in
        subst (λ so. Sorted so (lowered c k u (IsNull equal e))) (sym (truth_sort want so has.0 is))
        (then_found (λ (l : Lowered). l.sort ≡ Pointer one.0) (λ (l : Lowered). l.sort ≡ Position) (null_test equal) (lowered c k AsView e) one.1 (λ l same. null_found equal one.0 l same))
    words (Aggregate t es) k u want so has is fits at = absurd (no_composite (shape_of table t) so (agree_scalar table t want so has.0 is) has.3)
    words (Alike t e) k u want so has is fits at =
        absurd (no_elements (shape_of table t) so (agree_scalar table t want so has.0 is) (ap is_array has.4))
    words (New t v) k u want so has is fits at = absurd (no_pointer (shape_of table want) so has.0 has.1 has.2 is has.3)
    words (Text b) k u want so has is fits at = absurd has
    words (Image t e) k u want so has is fits at = absurd has
    words (IntoComponent i rest) k u want so has is fits at = absurd has
    words (Designated rest) k u want so has is fits at = absurd has
    words (Element i low high rest) k u want so has is fits at = absurd has
    words NoMore k u want so has is fits at = absurd has
    words (More e rest) k u want so has is fits at = absurd has

    -- a name that is compared with null
    pointers : (e : TypedTree) (k : ℕ) → Pointed s e → Fits c e → IsAt c.takes k (taken_types s e) → (d : ℕ) × Found (λ (l : Lowered). l.sort ≡ Pointer d) (lowered c k AsView e)
    pointers (Name p x steps t) k has fits at = (
      has.1,
      then_found (λ (q : Placed). q.of ≡ t) (λ (l : Lowered). l.sort ≡ Pointer has.1) (λ q. if q.of == t then named table AsView q else None) (option_and_then (λ q. led c k q steps) (object_place c x))
          (led_from k x t steps fits.0 (λ q e. leads steps k q (object_at s x).of t e has.0 fits.1 at))
          (λ q e. named_found AsView t (Pointer has.1) q e refl (ap sort_of has.4)),
    )
    pointers e k has fits at = absurd has

    -- where the steps of a name lead
    pub leads : (steps : TypedTree) (k : ℕ) (p : Placed) (o t : ℕ) → p.of ≡ o → Leads s o steps t → Fits c steps → IsAt c.takes k (taken_types s steps)
        → Found (λ (q : Placed). q.of ≡ t) (led c k p steps)
    leads (IntoComponent i rest) k p o t e has fits at =
        then_found (λ (q : Placed). q.of ≡ component_type table o i) (λ (q : Placed). q.of ≡ t) (λ q. led c k q rest) (component_of table i p) (component_found i o p e has.0)
        (λ q is. leads rest k q (component_type table o i) t is has.1 fits at)
    leads (Element index low high rest) k p o t e has fits at =
        then_found Any (λ (q : Placed). q.of ≡ t) (λ i. option_and_then (λ q. led c (k + waiting index) q rest) (element_of table i low high p)) (option_and_then whole_code (lowered c k AsValue index))
        (then_found (λ (l : Lowered). l.sort ≡ Whole) Any whole_code (lowered c k AsValue index)
        (words index k AsValue integer Whole has.2 (counted_is (shape_of table integer) whole) fits.0 (at_first c.takes k (taken_types s index) (taken_types s rest) at)) whole_found)
        (λ i is. then_found (λ (q : Placed). q.of ≡ has.0) (λ (q : Placed). q.of ≡ t) (λ q. led c (k + waiting index) q rest) (element_of table i low high p)
        (element_found i low high o has.0 p e has.1)
        (λ q same. leads rest (k + waiting index) q has.0 t same has.3 fits.1 (at_next s c.takes k index (taken_types s rest) at)))
    leads (Designated rest) k p o t e has fits at =
        then_found (λ (q : Placed). q.of ≡ has.0) (λ (q : Placed). q.of ≡ t) (λ q. led c k q rest) (designated_of table p) (designated_found o has.0 has.1 has.2 p e has.3)
        (λ q is. leads rest k q has.0 t is has.4 fits at)
    leads NoMore k p o t e has fits at = e ∙ has
    leads steps k p o t e has fits at = absurd has
