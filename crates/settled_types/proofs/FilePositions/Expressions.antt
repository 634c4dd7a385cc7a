-- The identifiers of expressions stand in the order of their events.
use Rattle.std.proofs.Common.{ℕ, suc}
use mathlib.Core.Former.{Count}
use Rattle.ada_lexer.specs.declared.token.Reserved.{Reserved}
use Rattle.ada_tree.specs.declared.expression.Arg.{Arg}
use Rattle.ada_tree.specs.declared.expression.NextArg.{NextArg}
use Rattle.ada_tree.specs.declared.expression.Expr.{Expr}
use Rattle.ada_tree.specs.declared.expression.Name.{Name, Row_of-Suffix, more_of-Suffix}
use Rattle.ada_tree.specs.declared.range.Range.{Range}
use Rattle.ada_tree.specs.declared.range.Range.TheVariants as range
use Rattle.ada_tree.specs.declared.range.Choice.{Choice}
use Rattle.ada_tree.specs.declared.range.Choice.TheVariants as choice
use Rattle.ada_tree.specs.declared.range.NextChoice.{NextChoice}
use Rattle.ada_tree.specs.declared.range.NextChoice.TheVariants as next_choice
use Rattle.ada_tree.specs.Spelling.{name_spelling, suffixes_spelling, suffix_spelling, arg_box, next_args_spelling, next_arg_spelling, arg_spelling, expr_box, expr_spelling, operands_spelling, operand_spelling, short_operands_spelling, short_operand_spelling, rel_box, rel_spelling, sum_box, sum_spelling, next_terms_spelling, next_term_spelling, term_spelling, next_factors_spelling, next_factor_spelling, factor_spelling, primary_spelling, name_box, aggregate_box, aggregate_spelling, range_spelling, choice_spelling, next_choice_spelling}
use Rattle.token_reading.specs.declared.side.Side.{Side}
use Rattle.token_reading.specs.declared.side.Side.TheVariants.{Within}
use Rattle.name_events.specs.ExpressionOutline.{selector, selectors, name_events, suffixes_events, suffix_events, arg_box_events, next_args_events, next_arg_events, arg_events, expr_box_events, expr_events, operands_events, operand_events, short_operands_events, short_operand_events, rel_box_events, rel_events, sum_box_events, sum_events, next_terms_events, next_term_events, term_events, next_factors_events, next_factor_events, factor_events, primary_events, name_box_events, aggregate_box_events, aggregate_events, range_events, choice_events, next_choice_events}
use Rattle.settled_types.proofs.ExpressionCases.{ExpressionLaws, on_arg, on_expr, on_name, on_next_arg}
use Rattle.settled_types.specs.FilePositions.Order.{Follows}
use Rattle.settled_types.proofs.FilePositions.Rows.{none, both, past, ahead, dotted_follows, mentioned, GoesOn, no_more, one_more, whole_name}

name_follows_laws : ExpressionLaws (record {
  of_name = λ n. (side : Side) → (d : ℕ) → Follows (name_events n) (name_spelling side d n);
  of_suffixes = λ n row. (side : Side) (d : ℕ) → Follows (suffixes_events row) (suffixes_spelling side d row) × GoesOn (selectors row) (suffixes_events row) (suffixes_spelling side d row);
  of_suffix = λ s. (side : Side) (d : ℕ) → Follows (suffix_events s) (suffix_spelling side d s) × ((m : Count) (rest : Row_of-Suffix m)
      → Follows (suffixes_events rest) (suffixes_spelling side d rest) × GoesOn (selectors rest) (suffixes_events rest) (suffixes_spelling side d rest)
      → GoesOn (selectors (more_of-Suffix s rest)) (suffixes_events (more_of-Suffix s rest)) (suffixes_spelling side d (more_of-Suffix s rest)));
  of_arg_box = λ n row. (side : Side) → (d : ℕ) → Follows (arg_box_events row) (arg_box side d row);
  of_next_args = λ n row. (side : Side) → (d : ℕ) → Follows (next_args_events row) (next_args_spelling side d row);
  of_next_arg = λ a. (side : Side) → (d : ℕ) → Follows (next_arg_events a) (next_arg_spelling side d a);
  of_arg = λ a. (side : Side) → (d : ℕ) → Follows (arg_events a) (arg_spelling side d a);
  of_expr_box = λ n row. (d : ℕ) → Follows (expr_box_events row) (expr_box d row);
  of_expr = λ x. (d : ℕ) → Follows (expr_events x) (expr_spelling d x);
  of_operands = λ n row. (d : ℕ) → (v : Reserved) → Follows (operands_events row) (operands_spelling d v row);
  of_operand = λ o. (d : ℕ) → (v : Reserved) → Follows (operand_events o) (operand_spelling d v o);
  of_short_operands = λ n row. (d : ℕ) → (v : Reserved) → (u : Reserved) → Follows (short_operands_events row) (short_operands_spelling d v u row);
  of_short_operand = λ o. (d : ℕ) → (v : Reserved) → (u : Reserved) → Follows (short_operand_events o) (short_operand_spelling d v u o);
  of_rel_box = λ n row. (d : ℕ) → Follows (rel_box_events row) (rel_box d row);
  of_rel = λ r. (d : ℕ) → Follows (rel_events r) (rel_spelling d r);
  of_sum_box = λ n row. (d : ℕ) → Follows (sum_box_events row) (sum_box d row);
  of_sum = λ s. (d : ℕ) → Follows (sum_events s) (sum_spelling d s);
  of_next_terms = λ n row. (d : ℕ) → Follows (next_terms_events row) (next_terms_spelling d row);
  of_next_term = λ t. (d : ℕ) → Follows (next_term_events t) (next_term_spelling d t);
  of_term = λ t. (d : ℕ) → Follows (term_events t) (term_spelling d t);
  of_next_factors = λ n row. (d : ℕ) → Follows (next_factors_events row) (next_factors_spelling d row);
  of_next_factor = λ f. (d : ℕ) → Follows (next_factor_events f) (next_factor_spelling d f);
  of_factor = λ f. (d : ℕ) → Follows (factor_events f) (factor_spelling d f);
  of_primary = λ p. (d : ℕ) → Follows (primary_events p) (primary_spelling d p);
  of_name_box = λ n row. (d : ℕ) → Follows (name_box_events row) (name_box d row);
  of_aggregate_box = λ n row. (d : ℕ) → Follows (aggregate_box_events row) (aggregate_box d row);
  of_aggregate = λ a. (d : ℕ) → Follows (aggregate_events a) (aggregate_spelling d a);
})
unfolding selector selectors name_events suffixes_events suffix_events arg_box_events next_args_events next_arg_events arg_events expr_box_events expr_events operands_events operand_events short_operands_events short_operand_events rel_box_events rel_events sum_box_events sum_events next_terms_events next_term_events term_events next_factors_events next_factor_events factor_events primary_events name_box_events aggregate_box_events aggregate_events name_spelling suffixes_spelling suffix_spelling arg_box next_args_spelling next_arg_spelling arg_spelling expr_box expr_spelling operands_spelling operand_spelling short_operands_spelling short_operand_spelling rel_box rel_spelling sum_box sum_spelling next_terms_spelling next_term_spelling term_spelling next_factors_spelling next_factor_spelling factor_spelling primary_spelling name_box aggregate_box aggregate_spelling
name_follows_laws = record {
  name_prefixed = λ pos first _ rest by_rest side d. whole_name _ side first (by_rest side d).1;
  suffixes_end = λ side d. (none, no_more none);
  suffixes_more = λ m part rest by_part by_rest side d. (both (by_part side d).0 (by_rest side d).0, (by_part side d).1 m rest (by_rest side d));
  suffix_applied = λ pos _ first _ rest right_paren by_first by_rest side d. (
    past _ (both (by_first side (suc d)) (ahead _ (by_rest side (suc d)))),
    λ m more on. no_more (both (past _ (both (by_first side (suc d)) (ahead _ (by_rest side (suc d))))) on.0),
  );
  suffix_selected = λ pos id side d. (none, λ m more on. one_more _ side id on.1);
  suffix_dereferenced = λ pos _ side d. (none, λ m more on. no_more (past _ (past _ on.0)));
  suffix_attribute = λ pos id side d. (none, λ m more on. no_more (past _ (past _ on.0)));
  suffix_range_attribute = λ pos _ side d. (none, λ m more on. no_more (past _ (past _ on.0)));
  arg_box_end = λ side d. none;
  arg_box_more = λ _ part rest by_part side d. by_part side d;
  next_args_end = λ side d. none;
  next_args_more = λ _ part rest by_part by_rest side d. both (by_part side d) (by_rest side d);
  next_arg_further_arg = λ pos _ part by_part side d. past _ (by_part side d);
  arg_positional = λ pos _ value by_value side d. by_value d;
  arg_association = λ pos id arrow _ value by_value side d. past _ (past _ (by_value d));
  expr_box_end = λ d. none;
  expr_box_more = λ _ part rest by_part d. by_part d;
  expr_lone_relation = λ pos _ relation by_relation d. by_relation d;
  expr_and = λ pos _ first and _ second _ rest by_first by_second by_rest d. both (by_first d) (past _ (both (by_second d) (by_rest d _)));
  expr_or = λ pos _ first or _ second _ rest by_first by_second by_rest d. both (by_first d) (past _ (both (by_second d) (by_rest d _)));
  expr_xor = λ pos _ first xor _ second _ rest by_first by_second by_rest d. both (by_first d) (past _ (both (by_second d) (by_rest d _)));
  expr_and_then = λ pos _ first and then_word _ second _ rest by_first by_second by_rest d. both (by_first d) (past _ (past _ (both (by_second d) (by_rest d _ _))));
  expr_or_else = λ pos _ first or otherwise _ second _ rest by_first by_second by_rest d. both (by_first d) (past _ (past _ (both (by_second d) (by_rest d _ _))));
  operands_end = λ d v. none;
  operands_more = λ _ part rest by_part by_rest d v. both (by_part d v) (by_rest d v);
  operand_further_operand = λ pos _ relation by_relation d v. past _ (by_relation d);
  short_operands_end = λ d v u. none;
  short_operands_more = λ _ part rest by_part by_rest d v u. both (by_part d v u) (by_rest d v u);
  short_operand_further_short_operand = λ pos second_word _ relation by_relation d v u. past _ (past _ (by_relation d));
  rel_box_end = λ d. none;
  rel_box_more = λ _ part rest by_part d. by_part d;
  rel_lone_sum = λ pos operand by_operand d. by_operand d;
  rel_compared = λ pos _ left operator operator_pos _ right by_left by_right d. both (by_left d) (past _ (by_right d));
  sum_box_end = λ d. none;
  sum_box_more = λ _ part rest by_part d. by_part d;
  sum_unsigned = λ pos first _ rest by_first by_rest d. both (by_first d) (by_rest d);
  sum_signed = λ pos sign first _ rest by_first by_rest d. past _ (both (by_first d) (by_rest d));
  next_terms_end = λ d. none;
  next_terms_more = λ _ part rest by_part by_rest d. both (by_part d) (by_rest d);
  next_term_further_term = λ pos operator part by_part d. past _ (by_part d);
  term_product = λ pos first _ rest by_first by_rest d. both (by_first d) (by_rest d);
  next_factors_end = λ d. none;
  next_factors_more = λ _ part rest by_part by_rest d. both (by_part d) (by_rest d);
  next_factor_further_factor = λ pos operator part by_part d. past _ (by_part d);
  factor_lone_primary = λ pos operand by_operand d. by_operand d;
  factor_abs = λ pos operand by_operand d. past _ (by_operand d);
  factor_not = λ pos operand by_operand d. past _ (by_operand d);
  primary_named = λ pos _ part by_part d. by_part d;
  primary_parenthesized = λ pos _ part right_paren by_part d. past _ (ahead _ (by_part (suc d)));
  primary_aggregated = λ pos _ part by_part d. by_part d;
  primary_allocated = λ pos mark d. past _ (dotted_follows _ _ mark);
  primary_allocated_aggregate = λ pos mark apostrophe _ part by_part d. past _ (mentioned _ _ mark (past _ (by_part d)));
  primary_allocated_value = λ pos mark apostrophe left_paren _ value right_paren by_value d. past _ (mentioned _ _ mark (past _ (past _ (ahead _ (by_value (suc d))))));
  primary_number = λ _ _ d. none;
  primary_text = λ _ _ d. none;
  primary_null = λ _ d. none;
  name_box_end = λ d. none;
  name_box_more = λ _ part rest by_part d. by_part Within d;
  aggregate_box_end = λ d. none;
  aggregate_box_more = λ _ part rest by_part d. by_part d;
  aggregate_several = λ pos _ first comma _ second _ rest right_paren by_first by_second by_rest d. past _ (both (by_first Within (suc d)) (past _ (both (by_second Within (suc d))
      (ahead _ (by_rest Within (suc d))))));
  aggregate_single = λ pos id arrow _ value right_paren by_value d. past _ (past _ (past _ (ahead _ (by_value (suc d)))));
  aggregate_others = λ pos others arrow _ value right_paren by_value d. past _ (past _ (past _ (ahead _ (by_value (suc d)))));
}

pub name_follows : (side : Side) (d : ℕ) (n : Name) → Follows (name_events n) (name_spelling side d n)
name_follows side d n = on_name name_follows_laws n side d

pub next_arg_follows : (side : Side) (d : ℕ) (a : NextArg) → Follows (next_arg_events a) (next_arg_spelling side d a)
next_arg_follows side d a = on_next_arg name_follows_laws a side d

pub arg_follows : (side : Side) (d : ℕ) (a : Arg) → Follows (arg_events a) (arg_spelling side d a)
arg_follows side d a = on_arg name_follows_laws a side d

pub expr_follows : (d : ℕ) (x : Expr) → Follows (expr_events x) (expr_spelling d x)
expr_follows d x = on_expr name_follows_laws x d

pub range_follows : (d : ℕ) (r : Range) → Follows (range_events r) (range_spelling d r)
unfolding range_events range_spelling
range_follows d (range.Bounds pos low dots high) = both (expr_follows d low) (past _ (expr_follows d high))
range_follows d (range.Marked pos mark) = dotted_follows _ _ mark
range_follows d (range.Constrained pos mark of_range low dots high) =
    mentioned _ _ mark (past _ (both (expr_follows d low) (past _ (expr_follows d high))))
range_follows d (range.RangeOf pos prefix apostrophe of_range) = ahead _ (name_follows Within d prefix)

pub choice_follows : (d : ℕ) (c : Choice) → Follows (choice_events c) (choice_spelling d c)
unfolding choice_events choice_spelling
choice_follows d (choice.Value pos value) = expr_follows d value
choice_follows d (choice.Interval pos low dots high) = both (expr_follows d low) (past _ (expr_follows d high))
choice_follows d (choice.Others pos) = none

pub next_choice_follows : (d : ℕ) (c : NextChoice) → Follows (next_choice_events c) (next_choice_spelling d c)
unfolding next_choice_events next_choice_spelling
next_choice_follows d (next_choice.Bar pos part) = past _ (choice_follows d part)
