-- The literals in a typed expression are words.
use Rattle.std.proofs.Common.{◌≡◌, ◌∙◌, inl, inr, refl, sym, subst, true≢false, ℕ, ◌+◌, Bool, true, false, List, [], ◌∷◌, ◌++◌, map, nat_eq, ℤ, negsuc, if◌then◌else◌}
use Rattle.soundness.proofs.Lists.{Has-append_cases}
use Rattle.machine.specs.spark_base.declared.position.Pos.{Pos}
use Rattle.machine.specs.resolved_tree.declared.operator.Operator.{Operator}
use Rattle.machine.specs.resolved_tree.declared.operator.Operator.TheVariants as operator
use Rattle.machine.specs.resolved_tree.Trees.{Tree, Number, Text, Named, Parens, Unary, Binary, Aggregate, Others, New, Selected, All, Applied, Argument, More, position}
use Rattle.machine.specs.type_definitions.declared.judgement.View.{View}
use Rattle.machine.specs.type_definitions.declared.judgement.View.TheVariants as view
use Rattle.machine.specs.type_definitions.declared.judgement.Reading.{Reading}
use Rattle.machine.specs.type_definitions.declared.judgement.Reading.TheVariants as reading
use Rattle.machine.specs.type_definitions.declared.judgement.Role.{Role}
use Rattle.machine.specs.type_definitions.declared.judgement.Role.TheVariants as role
use Rattle.machine.specs.type_definitions.Types.{fields}
use Rattle.machine.specs.type_definitions.Entries.{entry_of, integer, marked}
use Rattle.machine.specs.type_definitions.Names.{seen, step, through, reading_of}
use Rattle.machine.specs.type_definitions.Statics.{is_alone}
use Rattle.machine.specs.type_definitions.Expressions.{Given, given_names, all_by_position, role_type, operand_type, unary_type, element_type, is_null, next_type}
use Rattle.machine.specs.type_definitions.Gathered.{natural_of}
use Rattle.machine.specs.typed_tree.Trees.{TypedTree, typed_list}
use Rattle.machine.specs.typed_tree.Trees as typed
use Rattle.machine.specs.typed_tree.Expressions.{Site, number, value_of_type, designating, component_number, element, object_type, typed_name, compared, operands, has_name, named_value, arranged, role_names, arguments_given, called_function, typed_expression, typed_steps, typed_step, typed_actuals, typed_imaged, typed_first, typed_values, typed_optional}
use Rattle.sound_files.specs.TypedFiles.LoweredLaws.Lowers.{literals}
use Rattle.sound_files.specs.TypedFiles.LoweredSources.Words.{IsWord, AreWords}
use Rattle.sound_files.proofs.TypedFiles.LoweredSources.Readings.{IsWordReading, HasWordsAll, reading_word}

pub no_words : AreWords []
no_words n has = absurd has

pub both_words : (xs ys : List ℕ) → AreWords xs → AreWords ys → AreWords (xs ++ ys)
both_words xs ys h g n has = elim (Has-append_cases xs ys n has) [ inl here ↦ h n here | inr there ↦ g n there ]

module _ (s : Site) (words : HasWordsAll s.context.known) where
  abbrev Worded : TypedTree → Type 0
  Worded e = AreWords (literals e)

  abbrev AllWorded : List TypedTree → Type 0
  AllWorded [] = Unit {0}
  AllWorded (e ∷ rest) = Worded e × AllWorded rest

  list_words : (es : List TypedTree) → AllWorded es → Worded (typed_list es)
  unfolding literals
  list_words [] all = no_words
  list_words (e ∷ rest) all = both_words (literals e) (literals (typed_list rest)) all.0 (list_words rest all.1)

  value_words : (w : List ℕ) (given : List Given) (values : List TypedTree) → AllWorded values → Worded (named_value w given values)
  unfolding literals
  value_words w [] values all = no_words
  value_words w (g ∷ given) [] all = no_words
  value_words w (g ∷ given) (v ∷ values) all = by (has_name w g) (value_words w given values all.1)
    where
      by : (b : Bool) → Worded (named_value w given values) → Worded (if b then v else named_value w given values)
      by true later = all.0
      by false later = later

  values_words : (given : List Given) (values : List TypedTree) (names : List (List ℕ)) → AllWorded values → AllWorded (map (λ w. named_value w given values) names)
  values_words given values [] all = tt
  values_words given values (w ∷ names) all = (value_words w given values all, values_words given values names all)

  arranged_words : (names : List (List ℕ)) (given : List Given) (values : List TypedTree) → AllWorded values → Worded (arranged names given values)
  arranged_words names given values all = list_words (if all_by_position given then values else map (λ w. named_value w given values) names) (by (all_by_position given))
    where
      by : (b : Bool) → AllWorded (if b then values else map (λ w. named_value w given values) names)
      by true = all
      by false = values_words given values names all

  given_words : (for : Role) (args : Tree) (values : List TypedTree) → AllWorded values → Worded (arguments_given s.context for args values)
  given_words for args values all = arranged_words (role_names s.context for) (given_names args) values all

  of_type_words : (t : ℕ) (v : ℤ) → IsWordReading (reading.Value t v) → Worded (value_of_type t v)
  unfolding literals
  of_type_words t v is = by (nat_eq t integer) refl
    where
      word : nat_eq t integer ≡ false → AreWords (natural_of v ∷ [])
      word other n (inl same) = subst IsWord same (elim is [ inl whole ↦ absurd (true≢false (sym whole ∙ other)) | inr small ↦ small ])
      word other n (inr never) = absurd never

      by : (b : Bool) → nat_eq t integer ≡ b → Worded (if b then number v else typed.Literal (natural_of v))
      by true e = no_words
      by false e = word e

  name_words : (p : Pos) (d : ℕ) (r : Reading) (steps actuals imaged : TypedTree) → IsWordReading r → Worded steps → Worded actuals → Worded imaged
      → Worded (typed_name s p d r steps actuals imaged)
  unfolding literals
  name_words p d reading.Off steps actuals imaged is a b c = no_words
  name_words p d (reading.Place t) steps actuals imaged is a b c = a
  name_words p d (reading.Value t v) steps actuals imaged is a b c = of_type_words t v is
  name_words p d (reading.Call f) steps actuals imaged is a b c = b
  name_words p d (reading.Image t) steps actuals imaged is a b c = c
  name_words p d reading.EndOfFile steps actuals imaged is a b c = no_words

  compared_words : (op : Operator) (equal null_left null_right : Bool) (a b : TypedTree) → Worded a → Worded b → Worded (compared op equal null_left null_right a b)
  unfolding literals
  compared_words op equal true null_right a b h g = g
  compared_words op equal false true a b h g = h
  compared_words op equal false false a b h g = both_words (literals a) (literals b) h g

  operands_words : (op : Operator) (p q : Pos) (null_left null_right : Bool) (a b : TypedTree) → Worded a → Worded b → Worded (operands op p q null_left null_right a b)
  unfolding literals
  operands_words operator.AndThen p q null_left null_right a b h g = both_words (literals a) (literals b) h g
  operands_words operator.OrElse p q null_left null_right a b h g = both_words (literals a) (literals b) h g
  operands_words operator.Equal p q null_left null_right a b h g = compared_words operator.Equal true null_left null_right a b h g
  operands_words operator.NotEqual p q null_left null_right a b h g = compared_words operator.NotEqual false null_left null_right a b h g
  operands_words op p q null_left null_right a b h g = both_words (literals a) (literals b) h g

  designating_words : (v : View) (steps : TypedTree) → Worded steps → Worded (designating v steps)
  unfolding literals
  designating_words (view.Access designated constant is_named) steps h = h
  designating_words _ steps h = h

  element_words : (v : View) (index behind : TypedTree) → Worded index → Worded behind → Worded (element v index behind)
  unfolding literals
  element_words (view.Elements low high of) index behind h g = both_words (literals index) (literals behind) h g
  element_words _ index behind h g = g

  mutual
    unfolding typed_expression typed_steps typed_step typed_actuals typed_imaged typed_first typed_values literals

    pub expression_words : (e : Tree) (want : ℕ) → Worded (typed_expression s want e)
    expression_words (Number p n) want = no_words
    expression_words (Text p t) want = no_words
    expression_words (Named p d rest) want =
        let r : Reading = reading_of s.context d rest in
        name_words p d r (typed_steps s (object_type (entry_of s.context.known d)) rest) (typed_actuals s (called_function r) rest) (typed_imaged s rest)
        (reading_word s.context words d rest) (steps_words (object_type (entry_of s.context.known d)) rest)
        (actuals_words (called_function r) rest) (imaged_words rest)
    expression_words (Parens p e) want = expression_words e want
    expression_words (Unary p op e) want = by (is_alone op e) (expression_words e (unary_type op))
      where
        by : (b : Bool) → Worded (typed_expression s (unary_type op) e)
            → Worded (if b then typed.Number (negsuc 2147483647) else typed.Unary op (typed_expression s (unary_type op) e))
        by true h = no_words
        by false h = h
    expression_words (Binary p op a b) want =
        operands_words op (position a) (position b) (is_null a) (is_null b) (typed_expression s (operand_type op) a) (typed_expression s (operand_type op) b)
        (expression_words a (operand_type op)) (expression_words b (operand_type op))
    expression_words (Aggregate p args) want =
        given_words (role.Parts want) args (typed_values s (role.Parts want) 0 args) (arguments_words args (role.Parts want) 0)
    expression_words (Others p e) want = expression_words e (element_type (seen s.context want))
    expression_words (New p m v) want =
        list_words (typed_values s (role.Allocated (marked s.context.known m)) 0 v) (arguments_words v (role.Allocated (marked s.context.known m)) 0)
    expression_words _ want = no_words

    steps_words : (t : ℕ) (e : Tree) → Worded (typed_steps s t e)
    steps_words t (More a rest) = step_words t a (typed_steps s (next_type (step s.context a t)) rest) (steps_words (next_type (step s.context a t)) rest)
    steps_words t _ = no_words

    step_words : (t : ℕ) (a : Tree) (behind : TypedTree) → Worded behind → Worded (typed_step s t a behind)
    step_words t (Selected w) behind h =
        designating_words (seen s.context t)
        (typed.Component (component_number w (fields s.context.known.table (through (seen s.context t) t))) behind) h
    step_words t All behind h = h
    step_words t (Applied args) behind h =
        let v : View = seen s.context (through (seen s.context t) t) in
        designating_words (seen s.context t) (element v (typed_first s integer args) behind)
        (element_words v (typed_first s integer args) behind (first_words args integer) h)
    step_words t _ behind h = h

    pub actuals_words : (f : ℕ) (e : Tree) → Worded (typed_actuals s f e)
    actuals_words f (More (Applied args) rest) =
        given_words (role.Actuals f) args (typed_values s (role.Actuals f) 0 args) (arguments_words args (role.Actuals f) 0)
    actuals_words f _ = no_words

    imaged_words : (e : Tree) → Worded (typed_imaged s e)
    imaged_words (More a (More (Applied args) rest)) = first_words args integer
    imaged_words _ = no_words

    pub first_words : (e : Tree) (want : ℕ) → Worded (typed_first s want e)
    first_words (Argument w e rest) want = expression_words e want
    first_words _ want = no_words

    arguments_words : (e : Tree) (for : Role) (i : ℕ) → AllWorded (typed_values s for i e)
    arguments_words (Argument w e rest) for i = (expression_words e (role_type s.context for i w), arguments_words rest for (i + 1))
    arguments_words _ for i = tt

  pub optional_words : (want : ℕ) (e : Tree) → Worded (typed_optional s want e)
  unfolding literals
  optional_words want (More e rest) = both_words (literals (typed_expression s want e)) [] (expression_words e want) no_words
  optional_words want _ = no_words
