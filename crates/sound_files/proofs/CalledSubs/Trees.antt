-- Calls in a typed expression go to what is known as a subprogram.
use Rattle.std.proofs.Common.{◌≡◌, ℕ, ◌+◌, Bool, true, false, List, [], ◌∷◌, map, nat_eq, ℤ, negsuc, if◌then◌else◌}
use Rattle.machine.specs.spark_base.declared.position.Pos.{Pos}
use Rattle.machine.specs.resolved_tree.declared.operator.Operator.{Operator}
use Rattle.machine.specs.resolved_tree.declared.operator.Operator.TheVariants as operator
use Rattle.machine.specs.resolved_tree.Trees.{Tree, Number, Text, Named, Parens, Unary, Binary, Aggregate, Others, New, Selected, All, Applied, Argument, More, position}
use Rattle.machine.specs.type_definitions.declared.judgement.View.{View}
use Rattle.machine.specs.type_definitions.declared.judgement.View.TheVariants as view
use Rattle.machine.specs.type_definitions.declared.judgement.Reading.{Reading}
use Rattle.machine.specs.type_definitions.declared.judgement.Reading.TheVariants as reading
use Rattle.machine.specs.type_definitions.declared.judgement.Role.{Role}
use Rattle.machine.specs.type_definitions.declared.judgement.Role.TheVariants as role
use Rattle.machine.specs.type_definitions.Types.{fields}
use Rattle.machine.specs.type_definitions.Entries.{entry_of, integer, marked}
use Rattle.machine.specs.type_definitions.Names.{seen, step, through, reading_of}
use Rattle.machine.specs.type_definitions.Statics.{is_alone}
use Rattle.machine.specs.type_definitions.Expressions.{Given, given_names, all_by_position, role_type, operand_type, unary_type, element_type, is_null, next_type}
use Rattle.machine.specs.type_definitions.Gathered.{natural_of}
use Rattle.machine.specs.typed_tree.Trees.{TypedTree, typed_list}
use Rattle.machine.specs.typed_tree.Trees as typed
use Rattle.machine.specs.typed_tree.Expressions.{Site, sub_number, number, value_of_type, designating, component_number, element, object_type, typed_name, compared, operands, has_name, named_value, arranged, role_names, arguments_given, called_function, typed_expression, typed_steps, typed_step, typed_actuals, typed_imaged, typed_first, typed_values, typed_optional}
use Rattle.sound_files.specs.CalledSubs.Called.{Calls, is_subprogram_entry}
use Rattle.sound_files.proofs.CalledSubs.Readings.{Says, reading_says}

module _ (s : Site) (asked : ℕ → TypedTree → Type 0)
    (known : (d : ℕ) → is_subprogram_entry (entry_of s.context.known d) ≡ true → (actuals : TypedTree) → asked (sub_number s d) actuals) where
  -- A declaration whose calls are as asked, with all actuals.
  abbrev IsAsked : ℕ → Type 0
  IsAsked d = (actuals : TypedTree) → asked (sub_number s d) actuals

  abbrev Fine : TypedTree → Type 0
  Fine e = Calls asked e

  abbrev AllFine : List TypedTree → Type 0
  AllFine [] = Unit {0}
  AllFine (e ∷ rest) = Fine e × AllFine rest

  list_fine : (es : List TypedTree) → AllFine es → Fine (typed_list es)
  unfolding Calls
  list_fine [] all = tt
  list_fine (e ∷ rest) all = (all.0, list_fine rest all.1)

  value_fine : (w : List ℕ) (given : List Given) (values : List TypedTree) → AllFine values → Fine (named_value w given values)
  unfolding Calls
  value_fine w [] values all = tt
  value_fine w (g ∷ given) [] all = tt
  value_fine w (g ∷ given) (v ∷ values) all = by (has_name w g) (value_fine w given values all.1)
    where
      by : (b : Bool) → Fine (named_value w given values) → Fine (if b then v else named_value w given values)
      by true later = all.0
      by false later = later

  values_fine : (given : List Given) (values : List TypedTree) (names : List (List ℕ)) → AllFine values → AllFine (map (λ w. named_value w given values) names)
  values_fine given values [] all = tt
  values_fine given values (w ∷ names) all = (value_fine w given values all, values_fine given values names all)

  arranged_fine : (names : List (List ℕ)) (given : List Given) (values : List TypedTree) → AllFine values → Fine (arranged names given values)
  arranged_fine names given values all = list_fine (if all_by_position given then values else map (λ w. named_value w given values) names) (by (all_by_position given))
    where
      by : (b : Bool) → AllFine (if b then values else map (λ w. named_value w given values) names)
      by true = all
      by false = values_fine given values names all

  given_fine : (for : Role) (args : Tree) (values : List TypedTree) → AllFine values → Fine (arguments_given s.context for args values)
  given_fine for args values all = arranged_fine (role_names s.context for) (given_names args) values all

  of_type_fine : (t : ℕ) (v : ℤ) → Fine (value_of_type t v)
  unfolding Calls
  of_type_fine t v = by (nat_eq t integer)
    where
      by : (b : Bool) → Fine (if b then number v else typed.Literal (natural_of v))
      by true = tt
      by false = tt

  name_fine : (p : Pos) (d : ℕ) (r : Reading) (steps actuals imaged : TypedTree) → Says IsAsked r → Fine steps → Fine actuals → Fine imaged
      → Fine (typed_name s p d r steps actuals imaged)
  unfolding Calls
  name_fine p d reading.Off steps actuals imaged says a b c = tt
  name_fine p d (reading.Place t) steps actuals imaged says a b c = a
  name_fine p d (reading.Value t v) steps actuals imaged says a b c = of_type_fine t v
  name_fine p d (reading.Call f) steps actuals imaged says a b c = (says actuals, b)
  name_fine p d (reading.Image t) steps actuals imaged says a b c = c
  name_fine p d reading.EndOfFile steps actuals imaged says a b c = tt

  compared_fine : (op : Operator) (equal null_left null_right : Bool) (a b : TypedTree) → Fine a → Fine b → Fine (compared op equal null_left null_right a b)
  unfolding Calls
  compared_fine op equal true null_right a b h g = g
  compared_fine op equal false true a b h g = h
  compared_fine op equal false false a b h g = (h, g)

  operands_fine : (op : Operator) (p q : Pos) (null_left null_right : Bool) (a b : TypedTree) → Fine a → Fine b → Fine (operands op p q null_left null_right a b)
  unfolding Calls
  operands_fine operator.AndThen p q null_left null_right a b h g = (h, g)
  operands_fine operator.OrElse p q null_left null_right a b h g = (h, g)
  operands_fine operator.Equal p q null_left null_right a b h g = compared_fine operator.Equal true null_left null_right a b h g
  operands_fine operator.NotEqual p q null_left null_right a b h g = compared_fine operator.NotEqual false null_left null_right a b h g
  operands_fine op p q null_left null_right a b h g = (h, g)

  designating_fine : (v : View) (steps : TypedTree) → Fine steps → Fine (designating v steps)
  unfolding Calls
  designating_fine (view.Access designated constant is_named) steps h = h
  designating_fine _ steps h = h

  element_fine : (v : View) (index behind : TypedTree) → Fine index → Fine behind → Fine (element v index behind)
  unfolding Calls
  element_fine (view.Elements low high of) index behind h g = (h, g)
  element_fine _ index behind h g = g

  mutual
    unfolding typed_expression typed_steps typed_step typed_actuals typed_imaged typed_first typed_values Calls

    pub expression_fine : (e : Tree) (want : ℕ) → Fine (typed_expression s want e)
    expression_fine (Number p n) want = tt
    expression_fine (Text p t) want = tt
    expression_fine (Named p d rest) want =
        let r : Reading = reading_of s.context d rest in
        name_fine p d r (typed_steps s (object_type (entry_of s.context.known d)) rest) (typed_actuals s (called_function r) rest) (typed_imaged s rest)
        (reading_says IsAsked s.context d rest (known d)) (steps_fine (object_type (entry_of s.context.known d)) rest)
        (actuals_fine (called_function r) rest) (imaged_fine rest)
    expression_fine (Parens p e) want = expression_fine e want
    expression_fine (Unary p op e) want = by (is_alone op e) (expression_fine e (unary_type op))
      where
        by : (b : Bool) → Fine (typed_expression s (unary_type op) e)
            → Fine (if b then typed.Number (negsuc 2147483647) else typed.Unary op (typed_expression s (unary_type op) e))
        by true h = tt
        by false h = h
    expression_fine (Binary p op a b) want =
        operands_fine op (position a) (position b) (is_null a) (is_null b) (typed_expression s (operand_type op) a) (typed_expression s (operand_type op) b)
        (expression_fine a (operand_type op)) (expression_fine b (operand_type op))
    expression_fine (Aggregate p args) want =
        given_fine (role.Parts want) args (typed_values s (role.Parts want) 0 args) (arguments_fine args (role.Parts want) 0)
    expression_fine (Others p e) want = expression_fine e (element_type (seen s.context want))
    expression_fine (New p m v) want =
        list_fine (typed_values s (role.Allocated (marked s.context.known m)) 0 v) (arguments_fine v (role.Allocated (marked s.context.known m)) 0)
    expression_fine _ want = tt

    steps_fine : (t : ℕ) (e : Tree) → Fine (typed_steps s t e)
    steps_fine t (More a rest) = step_fine t a (typed_steps s (next_type (step s.context a t)) rest) (steps_fine (next_type (step s.context a t)) rest)
    steps_fine t _ = tt

    step_fine : (t : ℕ) (a : Tree) (behind : TypedTree) → Fine behind → Fine (typed_step s t a behind)
    step_fine t (Selected w) behind h =
        designating_fine (seen s.context t)
        (typed.Component (component_number w (fields s.context.known.table (through (seen s.context t) t))) behind) h
    step_fine t All behind h = h
    step_fine t (Applied args) behind h =
        let v : View = seen s.context (through (seen s.context t) t) in
        designating_fine (seen s.context t) (element v (typed_first s integer args) behind)
        (element_fine v (typed_first s integer args) behind (first_fine args integer) h)
    step_fine t _ behind h = h

    pub actuals_fine : (f : ℕ) (e : Tree) → Fine (typed_actuals s f e)
    actuals_fine f (More (Applied args) rest) =
        given_fine (role.Actuals f) args (typed_values s (role.Actuals f) 0 args) (arguments_fine args (role.Actuals f) 0)
    actuals_fine f _ = tt

    imaged_fine : (e : Tree) → Fine (typed_imaged s e)
    imaged_fine (More a (More (Applied args) rest)) = first_fine args integer
    imaged_fine _ = tt

    pub first_fine : (e : Tree) (want : ℕ) → Fine (typed_first s want e)
    first_fine (Argument w e rest) want = expression_fine e want
    first_fine _ want = tt

    arguments_fine : (e : Tree) (for : Role) (i : ℕ) → AllFine (typed_values s for i e)
    arguments_fine (Argument w e rest) for i = (expression_fine e (role_type s.context for i w), arguments_fine rest for (i + 1))
    arguments_fine _ for i = tt

  pub optional_fine : (want : ℕ) (e : Tree) → Fine (typed_optional s want e)
  unfolding Calls
  optional_fine want (More e rest) = (expression_fine e want, tt)
  optional_fine want _ = tt
