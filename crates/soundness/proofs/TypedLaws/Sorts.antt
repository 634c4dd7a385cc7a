-- An expression that has a type gives words of its sorts: what the executor asks for.
use Rattle.std.proofs.Common.{is_some, ◌≡◌, refl, sym, ap, ◌∙◌, subst, ◌⊎◌, inl, inr, ℕ, suc, ◌<◌, Bool, true, false, not, ◌&&◌, ◌||◌, List, [], ◌∷◌, length, nat_eq, nat_lt, Some, if◌then◌else◌, arith, lt-ltb}
use Rattle.std.proofs.lemmas.Bool.{eq-eqb, false≢true}
use Rattle.std.specs.Prelude.{ℤ}
use Rattle.std.specs.Ordering.{int_eq}
use Rattle.std.proofs.lemmas.Cmp.{int_eq_equiv}
use Rattle.machine.specs.resolved_tree.declared.operator.Operator.{Operator}
use Rattle.machine.specs.resolved_tree.declared.operator.Operator.TheVariants as operator
use Rattle.machine.specs.resolved_tree.declared.operator.UnaryOperator.{UnaryOperator}
use Rattle.machine.specs.resolved_tree.declared.operator.UnaryOperator.TheVariants as unary
use Rattle.machine.specs.type_definitions.declared.table.Shape.{Shape}
use Rattle.machine.specs.type_definitions.declared.table.Shape.TheVariants as shape
use Rattle.machine.specs.type_definitions.Types.{Table, meant_type, shape_of, fields, components_of, view_of, is_scalar, is_owning}
use Rattle.machine.specs.type_definitions.Entries.{integer, boolean}
use Rattle.machine.specs.type_definitions.Expressions.{unary_type, operand_type, is_arithmetic, is_logical}
use Rattle.machine.specs.typed_tree.Trees.{TypedTree, Number, Literal, Text, Name, Component as IntoComponent, Designated, Element, Call, EndOfFile, Parens, Image, Unary, Binary, Short, IsNull, Aggregate, Alike, New, NoMore, More}
use Rattle.machine.specs.typed_tree.Trees as typed
use Rattle.machine.specs.flow_paths.Objects.{Typing, object_at}
use Rattle.machine.specs.Words.{element_of, element_type, component_type}
use Rattle.machine.specs.Evaluate.{part_type}
use Rattle.machine.specs.Typed.{Sort, Whole, Position, Pointer, sorts, sorts_of, same_kind, same_designated, same_sort, same_sorts, is_whole, is_position, is_pointer, points_to, sorts_of_result, gives, pointed, leads, leads_on, parts_given, given_first, designates, is_record, is_array, has_bounds, is_null, field_count, tree_count, is_not, takes_whole, takes_truth, compares_words}
use Rattle.soundness.specs.TypedLaws.Fine.{Agree, counts, lists, operator_type, is_plain, Takes, Has, HasParts, HasFirst, Pointed, Leads}
use Rattle.soundness.proofs.TypedLaws.Agreeing.{Owns, one_shape, either_left, either_right, agree_counts, agree_lists}

both_true : (a b : Bool) → a ≡ true → b ≡ true → a && b ≡ true
both_true a b e f = ap (λ x. x && b) e ∙ f

nat_same : (n : ℕ) → nat_eq n n ≡ true
nat_same n = eq-eqb n n refl

sort_same : (table : Table) (a : Sort) → same_sort table a a ≡ true
sort_same table Whole = refl
sort_same table Position = refl
sort_same table (Pointer d) = either_left _ _ (nat_same (meant_type table d))

sorts_same : (table : Table) (a : List Sort) → same_sorts table a a ≡ true
sorts_same table [] = refl
sorts_same table (x ∷ a) = both_true _ _ (sort_same table x) (sorts_same table a)

counted_sorts : (f : ℕ → List Sort) (z : Shape) → counts z ≡ true → sorts_of f z ≡ Whole ∷ []
counted_sorts f (shape.Whole a b) e = refl
counted_sorts f z e = absurd (false≢true e)

listed_sorts : (f : ℕ → List Sort) (z : Shape) → lists z ≡ true → sorts_of f z ≡ Position ∷ []
listed_sorts f (shape.Listed k a b) e = refl
listed_sorts f z e = absurd (false≢true e)

kind_sorts : (f : ℕ → List Sort) (a b : Shape) → same_kind a b ≡ true → sorts_of f a ≡ sorts_of f b
kind_sorts f (shape.Whole u v) (shape.Whole w x) e = refl
kind_sorts f (shape.Listed k u v) (shape.Listed l w x) e = refl
kind_sorts f (shape.Whole u v) b e = absurd (false≢true e)
kind_sorts f (shape.Listed k u v) b e = absurd (false≢true e)
kind_sorts f a b e = absurd (false≢true e)

scalar_sort : (z : Shape) → is_scalar (view_of z) ≡ true → (counts z ≡ true) ⊎ (lists z ≡ true)
scalar_sort (shape.Whole a b) e = inl refl
scalar_sort (shape.Listed k a b) e = inr refl
scalar_sort z e = absurd (false≢true e)

first_of : (x z w : Bool) → x ≡ true → x || z || w ≡ true
first_of true true true e = refl
first_of true true false e = refl
first_of true false true e = refl
first_of true false false e = refl
first_of false z w e = absurd (false≢true e)

second_of : (x z w : Bool) → z ≡ true → x || z || w ≡ true
second_of true true true e = refl
second_of true true false e = refl
second_of false true true e = refl
second_of false true false e = refl
second_of x false w e = absurd (false≢true e)

third_of : (x z w : Bool) → w ≡ true → x || z || w ≡ true
third_of true true true e = refl
third_of true false true e = refl
third_of false true true e = refl
third_of false false true e = refl
third_of x z false e = absurd (false≢true e)

either_both : (c d e f : Bool) → ((c ≡ true) × (d ≡ true)) ⊎ ((e ≡ true) × (f ≡ true)) → (c && d) || (e && f) ≡ true
either_both c d e f (inl h) = either_left _ _ (both_true c d h.0 h.1)
either_both c d e f (inr h) = either_right _ _ (both_true e f h.0 h.1)

int_same : (v : ℤ) → int_eq v v ≡ true
int_same v = int_eq_equiv.refl v

-- what stands for each element owns nothing but null
one_or_null : (b : Bool) (e : TypedTree) → (b ≡ false) ⊎ (e ≡ typed.Null) → not b || is_null e ≡ true
one_or_null b e (inl plain) = either_left _ _ (ap not plain)
one_or_null b e (inr null) = either_right _ _ (ap is_null null)

record_fields : (z : Shape) (i : ℕ) → i < length (components_of z) → (is_record z ≡ true) × (field_count z ≡ length (components_of z))
record_fields (shape.Fields cs) i lt = (refl, refl)
record_fields (shape.Whole a b) i lt = absurd (omega (arith, lt))
record_fields (shape.Listed k a b) i lt = absurd (omega (arith, lt))
record_fields (shape.Access d k n) i lt = absurd (omega (arith, lt))
record_fields (shape.Elements a b el) i lt = absurd (omega (arith, lt))
record_fields (shape.Same t) i lt = absurd (omega (arith, lt))

module _ (y : Typing) (law : (t : ℕ) → sorts y.table t ≡ sorts_of (sorts y.table) (shape_of y.table t)) (owns : Owns y.table)
    (whole : counts (shape_of y.table integer) ≡ true) (listed : lists (shape_of y.table boolean) ≡ true) where
  whole_sorts : (t : ℕ) → counts (shape_of y.table t) ≡ true → sorts y.table t ≡ Whole ∷ []
  whole_sorts t e = law t ∙ counted_sorts (sorts y.table) (shape_of y.table t) e

  position_sorts : (t : ℕ) → lists (shape_of y.table t) ≡ true → sorts y.table t ≡ Position ∷ []
  position_sorts t e = law t ∙ listed_sorts (sorts y.table) (shape_of y.table t) e

  pointer_sorts : (t d : ℕ) (k n : Bool) → shape_of y.table t ≡ shape.Access d k n → sorts y.table t ≡ Pointer d ∷ []
  pointer_sorts t d k n e = law t ∙ ap (sorts_of (sorts y.table)) e

  one_sorts : (t u : ℕ) → Agree y.table t u → sorts y.table t ≡ sorts y.table u
  one_sorts t u (inl e) = law t ∙ ap (sorts_of (sorts y.table)) (one_shape y.table t u e) ∙ sym (law u)
  one_sorts t u (inr e) = law t ∙ kind_sorts (sorts y.table) (shape_of y.table t) (shape_of y.table u) e ∙ sym (law u)

  agree_sorts : (t u : ℕ) → Agree y.table t u → same_sorts y.table (sorts y.table t) (sorts y.table u) ≡ true
  agree_sorts t u e = subst (λ z. same_sorts y.table (sorts y.table t) z ≡ true) (one_sorts t u e) (sorts_same y.table (sorts y.table t))

  whole_is : (t : ℕ) → counts (shape_of y.table t) ≡ true → is_whole (sorts y.table t) ≡ true
  whole_is t e = ap is_whole (whole_sorts t e)

  position_is : (t : ℕ) → lists (shape_of y.table t) ≡ true → is_position (sorts y.table t) ≡ true
  position_is t e = ap is_position (position_sorts t e)

  truth_is : (t : ℕ) → Agree y.table boolean t → is_position (sorts y.table t) ≡ true
  truth_is t e = position_is t (agree_lists y.table boolean t e listed)

  number_is : (t : ℕ) → Agree y.table integer t → is_whole (sorts y.table t) ≡ true
  number_is t e = whole_is t (agree_counts y.table integer t e whole)

  same_target : (d t : ℕ) → Agree y.table d t → same_designated y.table d t ≡ true
  same_target d t (inl e) = either_left _ _ (subst (λ z. nat_eq (meant_type y.table d) z ≡ true) e (nat_same (meant_type y.table d)))
  same_target d t (inr e) = either_right _ _ e

  unary_sorts : (op : UnaryOperator) (t : ℕ) (g : Bool) → Agree y.table (unary_type op) t → g ≡ true
      → (if is_not op then is_position (sorts y.table t) && g else is_whole (sorts y.table t) && g) ≡ true
  unary_sorts unary.Not t g agree h = both_true _ _ (truth_is t agree) h
  unary_sorts op t g agree h = both_true _ _ (number_is t agree) h

  whole_case : (t u : ℕ) (a b z w : Bool) → Agree y.table integer t → u ≡ integer → (Agree y.table u t → (a ≡ true) × (b ≡ true)) → (is_whole (sorts y.table t) && (a && b)) || z || w ≡ true
  whole_case t u a b z w agree is own =
      let both = own (subst (λ x. Agree y.table x t) (sym is) agree) in
      first_of (is_whole (sorts y.table t) && (a && b)) z w (both_true _ _ (number_is t agree) (both_true a b both.0 both.1))

  truth_case : (t u : ℕ) (a b z w : Bool) → Agree y.table boolean t → u ≡ boolean → (Agree y.table u t → (a ≡ true) × (b ≡ true)) → z || (is_position (sorts y.table t) && (a && b)) || w ≡ true
  truth_case t u a b z w agree is own =
      let both = own (subst (λ x. Agree y.table x t) (sym is) agree) in
      second_of z (is_position (sorts y.table t) && (a && b)) w (both_true _ _ (truth_is t agree) (both_true a b both.0 both.1))

  leads_same : (to d : ℕ) (rest : TypedTree) → leads_on y to (Some d) rest ≡ leads y to d rest
  unfolding leads leads_on
  leads_same to d (Number v) = refl
  leads_same to d (Literal n) = refl
  leads_same to d typed.Null = refl
  leads_same to d (Text b) = refl
  leads_same to d (Name p x st of) = refl
  leads_same to d (Call p sub actuals) = refl
  leads_same to d EndOfFile = refl
  leads_same to d (Parens e) = refl
  leads_same to d (Image of e) = refl
  leads_same to d (Unary op e) = refl
  leads_same to d (Binary op a b) = refl
  leads_same to d (Short op p a q b) = refl
  leads_same to d (IsNull equal e) = refl
  leads_same to d (Aggregate of es) = refl
  leads_same to d (Alike of e) = refl
  leads_same to d (New of v) = refl
  leads_same to d NoMore = refl
  leads_same to d (More e rest) = refl
  leads_same to d (IntoComponent i rest) = refl
  leads_same to d (Designated rest) = refl
  leads_same to d (Element i low high rest) = refl

  -- what is wanted of a, of b, and of both as numbers and as positions
  binary_sorts : (op : Operator) (t u : ℕ) (a b c d e f : Bool) → is_plain op ≡ true → Agree y.table (operator_type op) t
      → Takes (is_arithmetic op || is_logical op) (operand_type op) u
      → ((Agree y.table u t) → (a ≡ true) × (b ≡ true)) → ((c ≡ true) × (d ≡ true)) ⊎ ((e ≡ true) × (f ≡ true))
      → (takes_whole op && (is_whole (sorts y.table t) && (a && b))) || (takes_truth op && (is_position (sorts y.table t) && (a && b)))
      || (compares_words op && (is_position (sorts y.table t) && ((c && d) || (e && f)))) ≡ true
  binary_sorts operator.Add t u a b c d e f plain agree takes own cases = whole_case t u a b false false agree takes own
  binary_sorts operator.Subtract t u a b c d e f plain agree takes own cases = whole_case t u a b false false agree takes own
  binary_sorts operator.Multiply t u a b c d e f plain agree takes own cases = whole_case t u a b false false agree takes own
  binary_sorts operator.Divide t u a b c d e f plain agree takes own cases = whole_case t u a b false false agree takes own
  binary_sorts operator.Modulo t u a b c d e f plain agree takes own cases = whole_case t u a b false false agree takes own
  binary_sorts operator.Remainder t u a b c d e f plain agree takes own cases = whole_case t u a b false false agree takes own
  binary_sorts operator.And t u a b c d e f plain agree takes own cases = truth_case t u a b false false agree takes own
  binary_sorts operator.Or t u a b c d e f plain agree takes own cases = truth_case t u a b false false agree takes own
  binary_sorts operator.Xor t u a b c d e f plain agree takes own cases = truth_case t u a b false false agree takes own
  binary_sorts operator.Equal t u a b c d e f plain agree takes own cases = third_of false false (is_position (sorts y.table t) && ((c && d) || (e && f))) (both_true _ _ (truth_is t agree) (either_both c d e f cases))
  binary_sorts operator.NotEqual t u a b c d e f plain agree takes own cases = third_of false false (is_position (sorts y.table t) && ((c && d) || (e && f))) (both_true _ _ (truth_is t agree) (either_both c d e f cases))
  binary_sorts operator.Less t u a b c d e f plain agree takes own cases = third_of false false (is_position (sorts y.table t) && ((c && d) || (e && f))) (both_true _ _ (truth_is t agree) (either_both c d e f cases))
  binary_sorts operator.LessEqual t u a b c d e f plain agree takes own cases = third_of false false (is_position (sorts y.table t) && ((c && d) || (e && f))) (both_true _ _ (truth_is t agree) (either_both c d e f cases))
  binary_sorts operator.Greater t u a b c d e f plain agree takes own cases = third_of false false (is_position (sorts y.table t) && ((c && d) || (e && f))) (both_true _ _ (truth_is t agree) (either_both c d e f cases))
  binary_sorts operator.GreaterEqual t u a b c d e f plain agree takes own cases = third_of false false (is_position (sorts y.table t) && ((c && d) || (e && f))) (both_true _ _ (truth_is t agree) (either_both c d e f cases))
  binary_sorts operator.AndThen t u a b c d e f plain agree takes own cases = absurd (false≢true plain)
  binary_sorts operator.OrElse t u a b c d e f plain agree takes own cases = absurd (false≢true plain)
  binary_sorts operator.Concatenate t u a b c d e f plain agree takes own cases = absurd (false≢true plain)

  mutual
    unfolding Has HasParts HasFirst Pointed Leads gives pointed leads leads_on parts_given given_first

    pub words_given : (e : TypedTree) (t : ℕ) → Has y t e → gives y (sorts y.table t) e ≡ true
    words_given (Number v) t has = both_true _ _ (whole_is t has.0) has.1
    words_given (Literal n) t has = position_is t has
    words_given EndOfFile t has = position_is t has
    words_given typed.Null t has = ap is_pointer (pointer_sorts t has.0 has.1 has.2 has.3)
    words_given (Name p x steps of) t has = both_true _ _ (agree_sorts of t has.1) (steps_lead steps (object_at y x).of of has.0)
    words_given (Call p sub actuals) t has =
        subst (λ z. same_sorts y.table (sorts_of_result y.table z) (sorts y.table t) ≡ true) (sym has.1) (agree_sorts has.0 t has.2)
    words_given (Parens e) t has = words_given e t has.1
    words_given (Unary op e) t has =
        unary_sorts op t (gives y (sorts y.table t) e) has.0
        (subst (λ z. gives y z e ≡ true) (one_sorts (unary_type op) t has.0) (words_given e (unary_type op) has.1))
    words_given (Binary op a b) t has =
        let left = words_given a has.2 has.5 in
        let right = words_given b has.2 has.6 in
        binary_sorts op t has.2 (gives y (sorts y.table t) a) (gives y (sorts y.table t) b) (gives y (Whole ∷ []) a) (gives y (Whole ∷ []) b)
        (gives y (Position ∷ []) a) (gives y (Position ∷ []) b) has.0 has.1 has.3
        (λ agree. (subst (λ z. gives y z a ≡ true) (one_sorts has.2 t agree) left, subst (λ z. gives y z b ≡ true) (one_sorts has.2 t agree) right))
        (elim (scalar_sort (shape_of y.table has.2) has.4) [
          | inl h ↦ inl (subst (λ z. gives y z a ≡ true) (whole_sorts has.2 h) left, subst (λ z. gives y z b ≡ true) (whole_sorts has.2 h) right)
          | inr h ↦ inr (subst (λ z. gives y z a ≡ true) (position_sorts has.2 h) left, subst (λ z. gives y z b ≡ true) (position_sorts has.2 h) right)
        ])
    words_given (Short op p a q b) t has =
        let same = one_sorts boolean t has.0 in
        both_true _ _ (truth_is t has.0) (both_true _ _ (subst (λ z. gives y z a ≡ true) same (words_given a boolean has.1))
        (subst (λ z. gives y z b ≡ true) same (words_given b boolean has.2)))
    words_given (IsNull equal (Name p x steps of)) t has =
        both_true _ _ (truth_is t has.0) (both_true _ _ (ap (λ z. is_some (designates z)) has.1.4) (steps_lead steps (object_at y x).of of has.1.0))
    words_given (IsNull equal e) t has = absurd has.1
    words_given (Aggregate of es) t has =
        both_true _ _ (agree_sorts of t has.0) (both_true _ _ (subst (λ z. nat_eq (tree_count es) z ≡ true) has.1 (nat_same (tree_count es))) (parts_words es of 0 has.2))
    words_given (Alike of e) t has =
        let element : element_type y.table of ≡ has.3 = ap element_of has.4 in
        both_true _ _ (both_true _ _ (ap is_array has.4) (one_or_null (is_owning y.table (element_type y.table of)) e
        (subst (λ z. (is_owning y.table z ≡ false) ⊎ (e ≡ typed.Null)) (sym element) has.5))) (both_true _ _ (agree_sorts of t has.0) (subst (λ z. gives y (sorts y.table z) e ≡ true) (sym element) (words_given e has.3 has.6)))
    words_given (New of v) t has =
        both_true _ _ (subst (λ z. points_to y.table of z ≡ true) (sym (pointer_sorts t has.0 has.1 has.2 has.3)) (same_target has.0 of has.4)) (first_words v of has.5)
    words_given (Text b) t has = absurd has
    words_given (Image of e) t has = absurd has
    words_given (IntoComponent i rest) t has = absurd has
    words_given (Designated rest) t has = absurd has
    words_given (Element i low high rest) t has = absurd has
    words_given NoMore t has = absurd has
    words_given (More e rest) t has = absurd has

    steps_lead : (steps : TypedTree) (o u : ℕ) → Leads y o steps u → leads y u o steps ≡ true
    steps_lead (IntoComponent i rest) o u h =
        let found = record_fields (shape_of y.table o) i h.0 in
        both_true _ _ (subst (λ z. nat_lt i z ≡ true) (sym found.1) (lt-ltb i (length (fields y.table o)) h.0)) (both_true _ _ found.0 (steps_lead rest (component_type y.table o i) u h.1))
    steps_lead (Element index low high rest) o u h =
        let element : element_type y.table o ≡ h.0 = ap element_of h.1 in
        both_true _ _ (ap (has_bounds low high) h.1 ∙ both_true _ _ (int_same low) (int_same high))
        (both_true _ _ (subst (λ z. gives y z index ≡ true) (whole_sorts integer whole) (words_given index integer h.2))
        (subst (λ z. leads y u z rest ≡ true) (sym element) (steps_lead rest h.0 u h.3)))
    steps_lead (Designated rest) o u h =
        subst (λ z. leads_on y u (designates z) rest ≡ true) (sym h.3) (leads_same u h.0 rest ∙ steps_lead rest h.0 u h.4)
    steps_lead NoMore o u h = subst (λ z. nat_eq o z ≡ true) h (nat_same o)
    steps_lead e o u h = absurd h

    parts_words : (es : TypedTree) (t i : ℕ) → HasParts y t i es → parts_given y t i es ≡ true
    parts_words (More e rest) t i has = both_true _ _ (words_given e (part_type (shape_of y.table t) i) has.0) (parts_words rest t (suc i) has.1)
    parts_words e t i has = refl

    first_words : (v : TypedTree) (t : ℕ) → HasFirst y t v → given_first y (sorts y.table t) v ≡ true
    first_words (More e rest) t has = words_given e t has.1
    first_words NoMore t has = refl
    first_words e t has = absurd has
