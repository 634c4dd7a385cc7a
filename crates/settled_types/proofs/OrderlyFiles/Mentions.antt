-- Expressions use names, and declare nothing.
use Rattle.std.proofs.Common.{◌≡◌, Bool, true, false, ◌&&◌, List, [], ◌∷◌, ◌++◌, refl, sym, true≢false}
use Rattle.std.specs.List.{flat_map}
use Rattle.ada_tree.specs.declared.expression.Arg.{Arg}
use Rattle.ada_tree.specs.declared.expression.NextArg.{NextArg}
use Rattle.ada_tree.specs.declared.expression.Expr.{Expr}
use Rattle.ada_tree.specs.declared.expression.Name.{Name}
use Rattle.ada_tree.specs.declared.range.Range.{Range}
use Rattle.ada_tree.specs.declared.range.Range.TheVariants as range
use Rattle.ada_tree.specs.declared.range.Choice.{Choice}
use Rattle.ada_tree.specs.declared.range.Choice.TheVariants as choice
use Rattle.ada_tree.specs.declared.range.NextChoice.{NextChoice}
use Rattle.ada_tree.specs.declared.range.NextChoice.TheVariants as next_choice
use Rattle.name_events.specs.declared.event.Event.{Event}
use Rattle.name_events.specs.ExpressionOutline.{name_events, suffixes_events, suffix_events, arg_box_events, next_args_events, next_arg_events, arg_events, expr_box_events, expr_events, operands_events, operand_events, short_operands_events, short_operand_events, rel_box_events, rel_events, sum_box_events, sum_events, next_terms_events, next_term_events, term_events, next_factors_events, next_factor_events, factor_events, primary_events, name_box_events, aggregate_box_events, aggregate_events, range_events, choice_events, next_choice_events}
use Rattle.settled_types.proofs.ExpressionCases.{ExpressionLaws, on_arg, on_expr, on_name, on_next_arg}
use Rattle.settled_types.specs.OrderlyFiles.Numbered.{is_quiet, all_quiet, is_flat, all_flat, are_mild}

both : (a b : Bool) → a && b ≡ true → (a ≡ true) × (b ≡ true)
both true b e = (refl, e)
both false b e = absurd (true≢false (sym e))

and_true : (a b : Bool) → a ≡ true → b ≡ true → a && b ≡ true
and_true true b e f = f
and_true false b e f = absurd (true≢false (sym e))

pub mild_both : (xs ys : List Event) → are_mild xs ≡ true → are_mild ys ≡ true → are_mild (xs ++ ys) ≡ true
mild_both [] ys a b = b
mild_both (x ∷ rest) ys a b =
    let s = both (is_quiet x && is_flat x) (are_mild rest) a in
    and_true (is_quiet x && is_flat x) (are_mild (rest ++ ys)) s.0 (mild_both rest ys s.1 b)

pub mild_quiet : (xs : List Event) → are_mild xs ≡ true → all_quiet xs ≡ true
mild_quiet [] a = refl
mild_quiet (x ∷ rest) a =
    let s = both (is_quiet x && is_flat x) (are_mild rest) a in
    and_true (is_quiet x) (all_quiet rest) (both (is_quiet x) (is_flat x) s.0).0 (mild_quiet rest s.1)

pub mild_flat : (xs : List Event) → are_mild xs ≡ true → all_flat xs ≡ true
mild_flat [] a = refl
mild_flat (x ∷ rest) a =
    let s = both (is_quiet x && is_flat x) (are_mild rest) a in
    and_true (is_flat x) (all_flat rest) (both (is_quiet x) (is_flat x) s.0).1 (mild_flat rest s.1)

pub mild_each : {A : Type 0} (f : A → List Event) → ((x : A) → are_mild (f x) ≡ true) → (xs : List A) → are_mild (flat_map f xs) ≡ true
mild_each f one [] = refl
mild_each f one (x ∷ rest) = mild_both (f x) (flat_map f rest) (one x) (mild_each f one rest)

pub three_mild : (xs ys zs : List Event) → are_mild xs ≡ true → are_mild ys ≡ true → are_mild zs ≡ true → are_mild (xs ++ (ys ++ zs)) ≡ true
three_mild xs ys zs a b c = mild_both xs (ys ++ zs) a (mild_both ys zs b c)

name_mild_laws : ExpressionLaws (record {
  of_name = λ n. are_mild (name_events n) ≡ true;
  of_suffixes = λ n row. are_mild (suffixes_events row) ≡ true;
  of_suffix = λ s. are_mild (suffix_events s) ≡ true;
  of_arg_box = λ n row. are_mild (arg_box_events row) ≡ true;
  of_next_args = λ n row. are_mild (next_args_events row) ≡ true;
  of_next_arg = λ a. are_mild (next_arg_events a) ≡ true;
  of_arg = λ a. are_mild (arg_events a) ≡ true;
  of_expr_box = λ n row. are_mild (expr_box_events row) ≡ true;
  of_expr = λ x. are_mild (expr_events x) ≡ true;
  of_operands = λ n row. are_mild (operands_events row) ≡ true;
  of_operand = λ o. are_mild (operand_events o) ≡ true;
  of_short_operands = λ n row. are_mild (short_operands_events row) ≡ true;
  of_short_operand = λ o. are_mild (short_operand_events o) ≡ true;
  of_rel_box = λ n row. are_mild (rel_box_events row) ≡ true;
  of_rel = λ r. are_mild (rel_events r) ≡ true;
  of_sum_box = λ n row. are_mild (sum_box_events row) ≡ true;
  of_sum = λ s. are_mild (sum_events s) ≡ true;
  of_next_terms = λ n row. are_mild (next_terms_events row) ≡ true;
  of_next_term = λ t. are_mild (next_term_events t) ≡ true;
  of_term = λ t. are_mild (term_events t) ≡ true;
  of_next_factors = λ n row. are_mild (next_factors_events row) ≡ true;
  of_next_factor = λ f. are_mild (next_factor_events f) ≡ true;
  of_factor = λ f. are_mild (factor_events f) ≡ true;
  of_primary = λ p. are_mild (primary_events p) ≡ true;
  of_name_box = λ n row. are_mild (name_box_events row) ≡ true;
  of_aggregate_box = λ n row. are_mild (aggregate_box_events row) ≡ true;
  of_aggregate = λ a. are_mild (aggregate_events a) ≡ true;
})
unfolding name_events suffixes_events suffix_events arg_box_events next_args_events next_arg_events arg_events expr_box_events expr_events operands_events operand_events short_operands_events short_operand_events rel_box_events rel_events sum_box_events sum_events next_terms_events next_term_events term_events next_factors_events next_factor_events factor_events primary_events name_box_events aggregate_box_events aggregate_events
name_mild_laws = record {
  name_prefixed = λ pos first _ rest by_rest. by_rest;
  suffixes_end = refl;
  suffixes_more = λ _ part rest by_part by_rest. mild_both (suffix_events part) (suffixes_events rest) (by_part) (by_rest);
  suffix_applied = λ pos _ first _ rest right_paren by_first by_rest. mild_both (arg_box_events first) (next_args_events rest) (by_first) (by_rest);
  suffix_selected = λ _ _. refl;
  suffix_dereferenced = λ _ _. refl;
  suffix_attribute = λ _ _. refl;
  suffix_range_attribute = λ _ _. refl;
  arg_box_end = refl;
  arg_box_more = λ _ part rest by_part. by_part;
  next_args_end = refl;
  next_args_more = λ _ part rest by_part by_rest. mild_both (next_arg_events part) (next_args_events rest) (by_part) (by_rest);
  next_arg_further_arg = λ pos _ part by_part. by_part;
  arg_positional = λ pos _ value by_value. by_value;
  arg_association = λ pos id arrow _ value by_value. by_value;
  expr_box_end = refl;
  expr_box_more = λ _ part rest by_part. by_part;
  expr_lone_relation = λ pos _ relation by_relation. by_relation;
  expr_and = λ pos _ first and _ second _ rest by_first by_second by_rest. three_mild (rel_box_events first) (rel_box_events second) (operands_events rest) (by_first)
      (by_second) (by_rest);
  expr_or = λ pos _ first or _ second _ rest by_first by_second by_rest. three_mild (rel_box_events first) (rel_box_events second) (operands_events rest) (by_first)
      (by_second) (by_rest);
  expr_xor = λ pos _ first xor _ second _ rest by_first by_second by_rest. three_mild (rel_box_events first) (rel_box_events second) (operands_events rest) (by_first)
      (by_second) (by_rest);
  expr_and_then = λ pos _ first and then_word _ second _ rest by_first by_second by_rest. three_mild (rel_box_events first) (rel_box_events second) (short_operands_events rest) (by_first)
      (by_second) (by_rest);
  expr_or_else = λ pos _ first or otherwise _ second _ rest by_first by_second by_rest. three_mild (rel_box_events first) (rel_box_events second) (short_operands_events rest) (by_first)
      (by_second) (by_rest);
  operands_end = refl;
  operands_more = λ _ part rest by_part by_rest. mild_both (operand_events part) (operands_events rest) (by_part) (by_rest);
  operand_further_operand = λ pos _ relation by_relation. by_relation;
  short_operands_end = refl;
  short_operands_more = λ _ part rest by_part by_rest. mild_both (short_operand_events part) (short_operands_events rest) (by_part) (by_rest);
  short_operand_further_short_operand = λ pos second_word _ relation by_relation. by_relation;
  rel_box_end = refl;
  rel_box_more = λ _ part rest by_part. by_part;
  rel_lone_sum = λ pos operand by_operand. by_operand;
  rel_compared = λ pos _ left operator operator_pos _ right by_left by_right. mild_both (sum_box_events left) (sum_box_events right) (by_left) (by_right);
  sum_box_end = refl;
  sum_box_more = λ _ part rest by_part. by_part;
  sum_unsigned = λ pos first _ rest by_first by_rest. mild_both (term_events first) (next_terms_events rest) (by_first) (by_rest);
  sum_signed = λ pos sign first _ rest by_first by_rest. mild_both (term_events first) (next_terms_events rest) (by_first) (by_rest);
  next_terms_end = refl;
  next_terms_more = λ _ part rest by_part by_rest. mild_both (next_term_events part) (next_terms_events rest) (by_part) (by_rest);
  next_term_further_term = λ pos operator part by_part. by_part;
  term_product = λ pos first _ rest by_first by_rest. mild_both (factor_events first) (next_factors_events rest) (by_first) (by_rest);
  next_factors_end = refl;
  next_factors_more = λ _ part rest by_part by_rest. mild_both (next_factor_events part) (next_factors_events rest) (by_part) (by_rest);
  next_factor_further_factor = λ pos operator part by_part. by_part;
  factor_lone_primary = λ pos operand by_operand. by_operand;
  factor_abs = λ pos operand by_operand. by_operand;
  factor_not = λ pos operand by_operand. by_operand;
  primary_named = λ pos _ part by_part. by_part;
  primary_parenthesized = λ pos _ part right_paren by_part. by_part;
  primary_aggregated = λ pos _ part by_part. by_part;
  primary_allocated = λ pos mark. refl;
  primary_allocated_aggregate = λ pos mark apostrophe _ part by_part. by_part;
  primary_allocated_value = λ pos mark apostrophe left_paren _ value right_paren by_value. by_value;
  primary_number = λ _ _. refl;
  primary_text = λ _ _. refl;
  primary_null = λ _. refl;
  name_box_end = refl;
  name_box_more = λ _ part rest by_part. by_part;
  aggregate_box_end = refl;
  aggregate_box_more = λ _ part rest by_part. by_part;
  aggregate_several = λ pos _ first comma _ second _ rest right_paren by_first by_second by_rest. mild_both (arg_box_events first) (arg_box_events second ++ next_args_events rest) (by_first)
      (mild_both (arg_box_events second) (next_args_events rest) (by_second) (by_rest));
  aggregate_single = λ pos id arrow _ value right_paren by_value. by_value;
  aggregate_others = λ pos others arrow _ value right_paren by_value. by_value;
}

pub name_mild : (n : Name) → are_mild (name_events n) ≡ true
name_mild = on_name name_mild_laws

pub next_arg_mild : (a : NextArg) → are_mild (next_arg_events a) ≡ true
next_arg_mild = on_next_arg name_mild_laws

pub arg_mild : (a : Arg) → are_mild (arg_events a) ≡ true
arg_mild = on_arg name_mild_laws

pub expr_mild : (x : Expr) → are_mild (expr_events x) ≡ true
expr_mild = on_expr name_mild_laws

pub range_mild : (r : Range) → are_mild (range_events r) ≡ true
unfolding range_events
range_mild (range.Bounds pos low dots high) = mild_both (expr_events low) (expr_events high) (expr_mild low) (expr_mild high)
range_mild (range.Marked pos mark) = refl
range_mild (range.Constrained pos mark of_range low dots high) = mild_both (expr_events low) (expr_events high) (expr_mild low) (expr_mild high)
range_mild (range.RangeOf pos prefix apostrophe of_range) = name_mild prefix

pub choice_mild : (c : Choice) → are_mild (choice_events c) ≡ true
unfolding choice_events
choice_mild (choice.Value pos value) = expr_mild value
choice_mild (choice.Interval pos low dots high) = mild_both (expr_events low) (expr_events high) (expr_mild low) (expr_mild high)
choice_mild (choice.Others pos) = refl

pub next_choice_mild : (c : NextChoice) → are_mild (next_choice_events c) ≡ true
unfolding next_choice_events
next_choice_mild (next_choice.Bar pos part) = choice_mild part
