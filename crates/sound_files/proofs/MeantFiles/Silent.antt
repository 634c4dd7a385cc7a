-- Expressions declare nothing.
use Rattle.std.proofs.Common.{◌≡◌, List, [], ◌∷◌, ◌++◌, refl, sym, ap, ◌∙◌, append_assoc}
use Rattle.std.specs.List.{flat_map}
use Rattle.ada_tree.specs.declared.expression.Arg.{Arg}
use Rattle.ada_tree.specs.declared.expression.NextArg.{NextArg}
use Rattle.ada_tree.specs.declared.expression.Expr.{Expr}
use Rattle.ada_tree.specs.declared.expression.Name.{Name}
use Rattle.ada_tree.specs.declared.range.Range.{Range}
use Rattle.ada_tree.specs.declared.range.Range.TheVariants as range
use Rattle.ada_tree.specs.declared.range.Choice.{Choice}
use Rattle.ada_tree.specs.declared.range.Choice.TheVariants as choice
use Rattle.ada_tree.specs.declared.range.NextChoice.{NextChoice}
use Rattle.ada_tree.specs.declared.range.NextChoice.TheVariants as next_choice
use Rattle.name_events.specs.declared.event.Event.{Event}
use Rattle.name_events.specs.ExpressionOutline.{name_events, suffixes_events, suffix_events, arg_box_events, next_args_events, next_arg_events, arg_events, expr_box_events, expr_events, operands_events, operand_events, short_operands_events, short_operand_events, rel_box_events, rel_events, sum_box_events, sum_events, next_terms_events, next_term_events, term_events, next_factors_events, next_factor_events, factor_events, primary_events, name_box_events, aggregate_box_events, aggregate_events, range_events, choice_events, next_choice_events}
use Rattle.name_events.specs.declared.declaration.Identified.{Identified}
use Rattle.settled_types.proofs.ExpressionCases.{ExpressionLaws, on_arg, on_expr, on_name, on_next_arg}
use Rattle.sound_files.specs.MeantFiles.Declarations.{declared_at, declared_by}

module _ (numbers : List Identified) where
  pub declared_both : (xs ys : List Event) → declared_by numbers (xs ++ ys) ≡ declared_by numbers xs ++ declared_by numbers ys
  declared_both [] ys = refl
  declared_both (x ∷ xs) ys =
      ap (λ zs. declared_at numbers x ++ zs) (declared_both xs ys)
      ∙ sym (append_assoc (declared_at numbers x) (declared_by numbers xs) (declared_by numbers ys))

  pub silent_both : (xs ys : List Event) → declared_by numbers xs ≡ [] → declared_by numbers ys ≡ [] → declared_by numbers (xs ++ ys) ≡ []
  silent_both xs ys a b = declared_both xs ys ∙ (ap (λ zs. zs ++ declared_by numbers ys) a ∙ b)

  pub silent_each : {A : Type 0} (f : A → List Event) → ((x : A) → declared_by numbers (f x) ≡ []) → (xs : List A) → declared_by numbers (flat_map f xs) ≡ []
  silent_each f one [] = refl
  silent_each f one (x ∷ rest) = silent_both (f x) (flat_map f rest) (one x) (silent_each f one rest)

  three_silent : (xs ys zs : List Event) → declared_by numbers xs ≡ [] → declared_by numbers ys ≡ [] → declared_by numbers zs ≡ []
      → declared_by numbers (xs ++ (ys ++ zs)) ≡ []
  three_silent xs ys zs a b c = silent_both xs (ys ++ zs) a (silent_both ys zs b c)

  name_silent_laws : ExpressionLaws (record {
    of_name = λ n. declared_by numbers (name_events n) ≡ [];
    of_suffixes = λ n row. declared_by numbers (suffixes_events row) ≡ [];
    of_suffix = λ s. declared_by numbers (suffix_events s) ≡ [];
    of_arg_box = λ n row. declared_by numbers (arg_box_events row) ≡ [];
    of_next_args = λ n row. declared_by numbers (next_args_events row) ≡ [];
    of_next_arg = λ a. declared_by numbers (next_arg_events a) ≡ [];
    of_arg = λ a. declared_by numbers (arg_events a) ≡ [];
    of_expr_box = λ n row. declared_by numbers (expr_box_events row) ≡ [];
    of_expr = λ x. declared_by numbers (expr_events x) ≡ [];
    of_operands = λ n row. declared_by numbers (operands_events row) ≡ [];
    of_operand = λ o. declared_by numbers (operand_events o) ≡ [];
    of_short_operands = λ n row. declared_by numbers (short_operands_events row) ≡ [];
    of_short_operand = λ o. declared_by numbers (short_operand_events o) ≡ [];
    of_rel_box = λ n row. declared_by numbers (rel_box_events row) ≡ [];
    of_rel = λ r. declared_by numbers (rel_events r) ≡ [];
    of_sum_box = λ n row. declared_by numbers (sum_box_events row) ≡ [];
    of_sum = λ s. declared_by numbers (sum_events s) ≡ [];
    of_next_terms = λ n row. declared_by numbers (next_terms_events row) ≡ [];
    of_next_term = λ t. declared_by numbers (next_term_events t) ≡ [];
    of_term = λ t. declared_by numbers (term_events t) ≡ [];
    of_next_factors = λ n row. declared_by numbers (next_factors_events row) ≡ [];
    of_next_factor = λ f. declared_by numbers (next_factor_events f) ≡ [];
    of_factor = λ f. declared_by numbers (factor_events f) ≡ [];
    of_primary = λ p. declared_by numbers (primary_events p) ≡ [];
    of_name_box = λ n row. declared_by numbers (name_box_events row) ≡ [];
    of_aggregate_box = λ n row. declared_by numbers (aggregate_box_events row) ≡ [];
    of_aggregate = λ a. declared_by numbers (aggregate_events a) ≡ [];
  })
  unfolding name_events suffixes_events suffix_events arg_box_events next_args_events next_arg_events arg_events expr_box_events expr_events operands_events operand_events short_operands_events short_operand_events rel_box_events rel_events sum_box_events sum_events next_terms_events next_term_events term_events next_factors_events next_factor_events factor_events primary_events name_box_events aggregate_box_events aggregate_events
  name_silent_laws = record {
    name_prefixed = λ pos first _ rest by_rest. by_rest;
    suffixes_end = refl;
    suffixes_more = λ _ part rest by_part by_rest. silent_both (suffix_events part) (suffixes_events rest) (by_part) (by_rest);
    suffix_applied = λ pos _ first _ rest right_paren by_first by_rest. silent_both (arg_box_events first) (next_args_events rest) (by_first) (by_rest);
    suffix_selected = λ _ _. refl;
    suffix_dereferenced = λ _ _. refl;
    suffix_attribute = λ _ _. refl;
    suffix_range_attribute = λ _ _. refl;
    arg_box_end = refl;
    arg_box_more = λ _ part rest by_part. by_part;
    next_args_end = refl;
    next_args_more = λ _ part rest by_part by_rest. silent_both (next_arg_events part) (next_args_events rest) (by_part) (by_rest);
    next_arg_further_arg = λ pos _ part by_part. by_part;
    arg_positional = λ pos _ value by_value. by_value;
    arg_association = λ pos id arrow _ value by_value. by_value;
    expr_box_end = refl;
    expr_box_more = λ _ part rest by_part. by_part;
    expr_lone_relation = λ pos _ relation by_relation. by_relation;
    expr_and = λ pos _ first and _ second _ rest by_first by_second by_rest. three_silent (rel_box_events first) (rel_box_events second) (operands_events rest) (by_first)
        (by_second) (by_rest);
    expr_or = λ pos _ first or _ second _ rest by_first by_second by_rest. three_silent (rel_box_events first) (rel_box_events second) (operands_events rest) (by_first)
        (by_second) (by_rest);
    expr_xor = λ pos _ first xor _ second _ rest by_first by_second by_rest. three_silent (rel_box_events first) (rel_box_events second) (operands_events rest) (by_first)
        (by_second) (by_rest);
    expr_and_then = λ pos _ first and then_word _ second _ rest by_first by_second by_rest. three_silent (rel_box_events first) (rel_box_events second) (short_operands_events rest) (by_first)
        (by_second) (by_rest);
    expr_or_else = λ pos _ first or otherwise _ second _ rest by_first by_second by_rest. three_silent (rel_box_events first) (rel_box_events second) (short_operands_events rest) (by_first)
        (by_second) (by_rest);
    operands_end = refl;
    operands_more = λ _ part rest by_part by_rest. silent_both (operand_events part) (operands_events rest) (by_part) (by_rest);
    operand_further_operand = λ pos _ relation by_relation. by_relation;
    short_operands_end = refl;
    short_operands_more = λ _ part rest by_part by_rest. silent_both (short_operand_events part) (short_operands_events rest) (by_part) (by_rest);
    short_operand_further_short_operand = λ pos second_word _ relation by_relation. by_relation;
    rel_box_end = refl;
    rel_box_more = λ _ part rest by_part. by_part;
    rel_lone_sum = λ pos operand by_operand. by_operand;
    rel_compared = λ pos _ left operator operator_pos _ right by_left by_right. silent_both (sum_box_events left) (sum_box_events right) (by_left) (by_right);
    sum_box_end = refl;
    sum_box_more = λ _ part rest by_part. by_part;
    sum_unsigned = λ pos first _ rest by_first by_rest. silent_both (term_events first) (next_terms_events rest) (by_first) (by_rest);
    sum_signed = λ pos sign first _ rest by_first by_rest. silent_both (term_events first) (next_terms_events rest) (by_first) (by_rest);
    next_terms_end = refl;
    next_terms_more = λ _ part rest by_part by_rest. silent_both (next_term_events part) (next_terms_events rest) (by_part) (by_rest);
    next_term_further_term = λ pos operator part by_part. by_part;
    term_product = λ pos first _ rest by_first by_rest. silent_both (factor_events first) (next_factors_events rest) (by_first) (by_rest);
    next_factors_end = refl;
    next_factors_more = λ _ part rest by_part by_rest. silent_both (next_factor_events part) (next_factors_events rest) (by_part) (by_rest);
    next_factor_further_factor = λ pos operator part by_part. by_part;
    factor_lone_primary = λ pos operand by_operand. by_operand;
    factor_abs = λ pos operand by_operand. by_operand;
    factor_not = λ pos operand by_operand. by_operand;
    primary_named = λ pos _ part by_part. by_part;
    primary_parenthesized = λ pos _ part right_paren by_part. by_part;
    primary_aggregated = λ pos _ part by_part. by_part;
    primary_allocated = λ pos mark. refl;
    primary_allocated_aggregate = λ pos mark apostrophe _ part by_part. by_part;
    primary_allocated_value = λ pos mark apostrophe left_paren _ value right_paren by_value. by_value;
    primary_number = λ _ _. refl;
    primary_text = λ _ _. refl;
    primary_null = λ _. refl;
    name_box_end = refl;
    name_box_more = λ _ part rest by_part. by_part;
    aggregate_box_end = refl;
    aggregate_box_more = λ _ part rest by_part. by_part;
    aggregate_several = λ pos _ first comma _ second _ rest right_paren by_first by_second by_rest. silent_both (arg_box_events first) (arg_box_events second ++ next_args_events rest) (by_first)
        (silent_both (arg_box_events second) (next_args_events rest) (by_second) (by_rest));
    aggregate_single = λ pos id arrow _ value right_paren by_value. by_value;
    aggregate_others = λ pos others arrow _ value right_paren by_value. by_value;
  }

  pub name_silent : (n : Name) → declared_by numbers (name_events n) ≡ []
  name_silent = on_name name_silent_laws

  pub next_arg_silent : (a : NextArg) → declared_by numbers (next_arg_events a) ≡ []
  next_arg_silent = on_next_arg name_silent_laws

  pub arg_silent : (a : Arg) → declared_by numbers (arg_events a) ≡ []
  arg_silent = on_arg name_silent_laws

  pub expr_silent : (x : Expr) → declared_by numbers (expr_events x) ≡ []
  expr_silent = on_expr name_silent_laws

  pub range_silent : (r : Range) → declared_by numbers (range_events r) ≡ []
  unfolding range_events
  range_silent (range.Bounds pos low dots high) = silent_both (expr_events low) (expr_events high) (expr_silent low) (expr_silent high)
  range_silent (range.Marked pos mark) = refl
  range_silent (range.Constrained pos mark of_range low dots high) = silent_both (expr_events low) (expr_events high) (expr_silent low) (expr_silent high)
  range_silent (range.RangeOf pos prefix apostrophe of_range) = name_silent prefix

  pub choice_silent : (c : Choice) → declared_by numbers (choice_events c) ≡ []
  unfolding choice_events
  choice_silent (choice.Value pos value) = expr_silent value
  choice_silent (choice.Interval pos low dots high) = silent_both (expr_events low) (expr_events high) (expr_silent low) (expr_silent high)
  choice_silent (choice.Others pos) = refl

  pub next_choice_silent : (c : NextChoice) → declared_by numbers (next_choice_events c) ≡ []
  unfolding next_choice_events
  next_choice_silent (next_choice.Bar pos part) = choice_silent part
