-- The initial values of package objects call no function of the program: a sentence of typing forbids it.
use Rattle.std.proofs.Common.{◌≡◌, refl, subst, ℕ, ◌+◌, Bool, true, false, not, ◌||◌, nat_eq, List, [], ◌∷◌, ◌++◌, map, ℤ, if◌then◌else◌}
use Rattle.std.specs.List.{AllByRecursion}
use Rattle.std.proofs.lemmas.Bool.{false≢true, true≢false}
use Rattle.machine.specs.spark_base.declared.position.Pos.{Pos}
use Rattle.machine.specs.resolved_tree.declared.operator.Operator.{Operator}
use Rattle.machine.specs.resolved_tree.declared.operator.Operator.TheVariants as operator
use Rattle.machine.specs.resolved_tree.Trees.{Tree, Number, Text, Named, Parens, Unary, Binary, Aggregate, Others, New, Selected, All, Applied, Argument, position}
use Rattle.machine.specs.resolved_tree.Trees as resolved
use Rattle.machine.specs.type_definitions.declared.judgement.Fault.{Fault}
use Rattle.machine.specs.type_definitions.declared.judgement.View.{View}
use Rattle.machine.specs.type_definitions.declared.judgement.View.TheVariants as view
use Rattle.machine.specs.type_definitions.declared.judgement.Reading.{Reading}
use Rattle.machine.specs.type_definitions.declared.judgement.Reading.TheVariants as reading
use Rattle.machine.specs.type_definitions.declared.judgement.Role.{Role}
use Rattle.machine.specs.type_definitions.declared.judgement.Way.{Way}
use Rattle.machine.specs.type_definitions.declared.judgement.Where.TheVariants as stands
use Rattle.machine.specs.type_definitions.Faults.{demand}
use Rattle.machine.specs.type_definitions.Entries.{entry_of, integer}
use Rattle.machine.specs.type_definitions.Names.{Context, seen, through, reading_of}
use Rattle.machine.specs.type_definitions.Statics.{is_alone}
use Rattle.machine.specs.type_definitions.Expressions.{Given, all_by_position, reading_faults, given_names, call_arguments, way_of, onward, around, around_parens, around_operands, around_role, is_loose, role_type, aggregates, parts_role, repeats, repeated_type, mark_faults, inside, arguments, within_suffix, behind, unary_type, operand_type, is_null}
use Rattle.machine.specs.type_definitions.Gathered.{natural_of}
use Rattle.machine.specs.typed_tree.Trees.{TypedTree, typed_list}
use Rattle.machine.specs.typed_tree.Trees as typed
use Rattle.machine.specs.typed_tree.Expressions.{Site, number, value_of_type, designating, element, typed_name, operands, has_name, named_value, arranged, typed_expression, typed_steps, typed_step, typed_actuals, typed_imaged, typed_first, typed_values}
use Rattle.machine.specs.flow_paths.Names.{has_call}
use Rattle.settled_types.proofs.OrderLaws.Mains.{nothing_left, nothing_right, demanded}
use Rattle.soundness.proofs.TypedLaws.TypedPoints.Flags.{flagged, reading_same}

none_both : (x y : Bool) → x ≡ false → y ≡ false → x || y ≡ false
none_both false y h g = g
none_both true y h g = absurd (true≢false h)

never : (x : Bool) → x ≡ true → not x ≡ true → ⊥
never true e f = false≢true f
never false e f = false≢true e

module _ (s : Site) (looped b : Bool) (started : b ≡ true) where
  abbrev c : Context
  c = flagged looped b s.context

  abbrev Still : TypedTree → Type 0
  Still e = has_call e ≡ false

  list_none : (vs : List TypedTree) → AllByRecursion Still vs → Still (typed_list vs)
  unfolding has_call
  list_none [] h = refl
  list_none (v ∷ vs) h = none_both (has_call v) (has_call (typed_list vs)) h.0 (list_none vs h.1)

  value_none : (w : List ℕ) (given : List Given) (vs : List TypedTree) → AllByRecursion Still vs → Still (named_value w given vs)
  unfolding has_call
  value_none w [] vs h = refl
  value_none w (g ∷ given) [] h = refl
  value_none w (g ∷ given) (v ∷ vs) h = by_name (has_name w g) (value_none w given vs h.1)
    where
      by_name : (x : Bool) → Still (named_value w given vs) → Still (if x then v else named_value w given vs)
      by_name true later = h.0
      by_name false later = later

  values_named : (names : List (List ℕ)) (given : List Given) (vs : List TypedTree) → AllByRecursion Still vs
      → AllByRecursion Still (map (λ w. named_value w given vs) names)
  values_named [] given vs h = tt
  values_named (w ∷ names) given vs h = (value_none w given vs h, values_named names given vs h)

  arranged_none : (names : List (List ℕ)) (given : List Given) (vs : List TypedTree) → AllByRecursion Still vs → Still (arranged names given vs)
  arranged_none names given vs h = by_position (all_by_position given)
    where
      by_position : (x : Bool) → Still (typed_list (if x then vs else map (λ w. named_value w given vs) names))
      by_position true = list_none vs h
      by_position false = list_none (map (λ w. named_value w given vs) names) (values_named names given vs h)

  operands_none : (op : Operator) (p q : Pos) (l r : Bool) (x y : TypedTree) → Still x → Still y → Still (operands op p q l r x y)
  unfolding has_call
  operands_none operator.AndThen p q l r x y h g = none_both (has_call x) (has_call y) h g
  operands_none operator.OrElse p q l r x y h g = none_both (has_call x) (has_call y) h g
  operands_none operator.Equal p q true r x y h g = g
  operands_none operator.Equal p q false true x y h g = h
  operands_none operator.Equal p q false false x y h g = none_both (has_call x) (has_call y) h g
  operands_none operator.NotEqual p q true r x y h g = g
  operands_none operator.NotEqual p q false true x y h g = h
  operands_none operator.NotEqual p q false false x y h g = none_both (has_call x) (has_call y) h g
  operands_none _ p q l r x y h g = none_both (has_call x) (has_call y) h g

  designating_none : (v : View) (e : TypedTree) → Still e → Still (designating v e)
  unfolding has_call
  designating_none (view.Access d constant named) e h = h
  designating_none _ e h = h

  element_none : (v : View) (index e : TypedTree) → Still index → Still e → Still (element v index e)
  unfolding has_call
  element_none (view.Elements low high of) index e h g = none_both (has_call index) (has_call e) h g
  element_none _ index e h g = g

  number_none : (t : ℕ) (v : ℤ) → Still (value_of_type t v)
  unfolding has_call
  number_none t v = by_type (nat_eq t integer)
    where
      by_type : (x : Bool) → Still (if x then number v else typed.Literal (natural_of v))
      by_type true = refl
      by_type false = refl

  -- what a name is
  name_none : (p : Pos) (d : ℕ) (loose : Bool) (given : List Given) (r : Reading) (steps actuals imaged : TypedTree) → reading_faults c p d loose given r ≡ []
      → Still steps → Still imaged → Still (typed_name s p d r steps actuals imaged)
  unfolding has_call
  name_none p d loose given reading.Off steps actuals imaged faults h g = refl
  name_none p d loose given (reading.Place t) steps actuals imaged faults h g = h
  name_none p d loose given (reading.Value t v) steps actuals imaged faults h g = number_none t v
  name_none p d loose given (reading.Call f) steps actuals imaged faults h g =
      absurd (never b started (demanded 8 p (not b) (nothing_left (demand 8 p (not b)) _ faults)))
  name_none p d loose given (reading.Image t) steps actuals imaged faults h g = g
  name_none p d loose given reading.EndOfFile steps actuals imaged faults h g = refl

  if_none : (x : Bool) (fs : List Fault) (y z : TypedTree) → (if x then [] else fs) ≡ [] → Still y → (fs ≡ [] → Still z) → Still (if x then y else z)
  if_none true fs y z e h g = h
  if_none false fs y z e h g = g e

  mutual
    unfolding inside arguments within_suffix behind typed_expression typed_steps typed_step typed_actuals typed_imaged typed_first typed_values has_call

    pub expression_still : (e : Tree) (want wanted : ℕ) (loose : Bool) → inside c loose wanted e ≡ [] → Still (typed_expression s want e)
    expression_still (Number p n) want wanted loose faults = refl
    expression_still (Text p t) want wanted loose faults = refl
    expression_still (Named p d rest) want wanted loose faults =
        let given : List Given = given_names (call_arguments rest) in
        let way : Way = way_of s.context.known d (entry_of s.context.known d) in
        let later : behind c way rest ≡ [] = nothing_right (reading_faults c p d loose given (reading_of c d rest)) (behind c way rest) faults in
        name_none p d loose given (reading_of s.context d rest) _ _ (typed_imaged s rest)
        (subst (λ r. reading_faults c p d loose given r ≡ []) (reading_same looped b s.context d rest)
        (nothing_left (reading_faults c p d loose given (reading_of c d rest)) (behind c way rest) faults))
        (steps_none rest _ way later) (imaged_none rest way later)
    expression_still (Parens p e) want wanted loose faults =
        expression_still e want wanted false (nothing_right (around_parens c p wanted e) (inside c false wanted e) faults)
    expression_still (Unary p op e) want wanted loose faults =
        let fs : List Fault = around c stands.Elsewhere (unary_type op) e ++ inside c false (unary_type op) e in
        if_none (is_alone op e) fs _ (typed.Unary op (typed_expression s (unary_type op) e)) faults refl
        (λ none. expression_still e (unary_type op) (unary_type op) false (nothing_right (around c stands.Elsewhere (unary_type op) e) (inside c false (unary_type op) e) none))
    expression_still (Binary p op x y) want wanted loose faults =
        let both : inside c false (operand_type op) x ++ inside c false (operand_type op) y ≡ [] =
        nothing_right (around_operands c p op x y) (inside c false (operand_type op) x ++ inside c false (operand_type op) y) faults in
        operands_none op (position x) (position y) (is_null x) (is_null y) (typed_expression s (operand_type op) x) (typed_expression s (operand_type op) y)
        (expression_still x (operand_type op) (operand_type op) false (nothing_left (inside c false (operand_type op) x) (inside c false (operand_type op) y) both))
        (expression_still y (operand_type op) (operand_type op) false (nothing_right (inside c false (operand_type op) x) (inside c false (operand_type op) y) both))
    expression_still (Aggregate p args) want wanted loose faults =
        arranged_none _ (given_names args) _
        (values_none args (parts_role c wanted) _ 0 0 (nothing_right (demand 4 p (aggregates c wanted (given_names args))) (arguments c (parts_role c wanted) 0 args) faults))
    expression_still (Others p e) want wanted loose faults =
        let inner : around c stands.AfterOthers (repeated_type c wanted) e ++ inside c false (repeated_type c wanted) e ≡ [] =
        nothing_right (demand 4 p (repeats c wanted)) (around c stands.AfterOthers (repeated_type c wanted) e ++ inside c false (repeated_type c wanted) e) faults in
        expression_still e _ (repeated_type c wanted) false (nothing_right (around c stands.AfterOthers (repeated_type c wanted) e) (inside c false (repeated_type c wanted) e) inner)
    expression_still (New p m v) want wanted loose faults =
        list_none _ (values_none v _ _ 0 0 (nothing_right (mark_faults s.context.known m) _ faults))
    expression_still _ want wanted loose faults = refl

    values_none : (args : Tree) (role for : Role) (i j : ℕ) → arguments c role i args ≡ [] → AllByRecursion Still (typed_values s for j args)
    values_none (Argument w e rest) role for i j faults =
        let more : inside c (is_loose c role i w) (role_type c role i w) e ++ arguments c role (i + 1) rest ≡ [] =
        nothing_right (around_role c role i w e) (inside c (is_loose c role i w) (role_type c role i w) e ++ arguments c role (i + 1) rest) faults in (
          expression_still e _ (role_type c role i w) (is_loose c role i w)
              (nothing_left (inside c (is_loose c role i w) (role_type c role i w) e) (arguments c role (i + 1) rest) more),
          values_none rest role for (i + 1) (j + 1) (nothing_right (inside c (is_loose c role i w) (role_type c role i w) e) (arguments c role (i + 1) rest) more),
        )
    values_none _ role for i j faults = tt

    first_none : (args : Tree) (want : ℕ) (role : Role) (i : ℕ) → arguments c role i args ≡ [] → Still (typed_first s want args)
    first_none (Argument w e rest) want role i faults =
        expression_still e want (role_type c role i w) (is_loose c role i w)
        (nothing_left (inside c (is_loose c role i w) (role_type c role i w) e) (arguments c role (i + 1) rest)
        (nothing_right (around_role c role i w e) (inside c (is_loose c role i w) (role_type c role i w) e ++ arguments c role (i + 1) rest) faults))
    first_none _ want role i faults = refl

    steps_none : (rest : Tree) (t : ℕ) (way : Way) → behind c way rest ≡ [] → Still (typed_steps s t rest)
    steps_none (resolved.More a more) t way faults =
        step_none a t way _ (nothing_left (within_suffix c way a) (behind c (onward c a way) more) faults)
        (steps_none more _ (onward c a way) (nothing_right (within_suffix c way a) (behind c (onward c a way) more) faults))
    steps_none _ t way faults = refl

    step_none : (a : Tree) (t : ℕ) (way : Way) (e : TypedTree) → within_suffix c way a ≡ [] → Still e → Still (typed_step s t a e)
    step_none (Selected w) t way e faults h = designating_none (seen s.context t) (typed.Component _ e) h
    step_none All t way e faults h = h
    step_none (Applied args) t way e faults h =
        designating_none (seen s.context t) _ (element_none (seen s.context (through (seen s.context t) t)) (typed_first s integer args) e (first_none args integer _ 0 faults) h)
    step_none _ t way e faults h = h

    imaged_none : (rest : Tree) (way : Way) → behind c way rest ≡ [] → Still (typed_imaged s rest)
    imaged_none (resolved.More a (resolved.More (Applied args) rest)) way faults =
        first_none args integer _ 0
        (nothing_left (within_suffix c (onward c a way) (Applied args)) (behind c (onward c (Applied args) (onward c a way)) rest)
        (nothing_right (within_suffix c way a) (behind c (onward c a way) (resolved.More (Applied args) rest)) faults))
    imaged_none _ way faults = refl
